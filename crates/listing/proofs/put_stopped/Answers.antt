-- `listing::put_stopped` meets its contract: its pieces, one after the other. Assumes nothing.
use native.Mathlib.Omega.{arith}
use Rattle.listing.specs.Lines.{stopped_line}
use Rattle.listing.proofs.Pieces.{then}
use Rattle.listing.proofs.put_stopped.Goals as goal

pub returns : goal.returns
unfolding stopped_line
returns c = then (omega arith) c.put_bytes.ensures (λ h. then h c.put_decimal.ensures (λ h. c.put_byte.ensures))
