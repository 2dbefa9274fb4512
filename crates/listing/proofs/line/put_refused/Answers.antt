-- `listing::line::put_refused` meets its contract: its pieces, one after the other. Assumes nothing.
use native.Mathlib.Omega.{arith}
use Rattle.listing.specs.Lines.{refused_line}
use Rattle.listing.proofs.Pieces.{then}
use Rattle.listing.proofs.line.put_refused.Goals as goal

pub returns : goal.returns
unfolding refused_line
returns c = then (omega arith) c.put_decimal.ensures (λ h. then h c.put_bytes.ensures (λ h. then h c.put_decimal-2.ensures (λ h. then h c.put_bytes-2.ensures (λ h. then h c.put_decimal-3.ensures (λ h. c.put_byte.ensures)))))
