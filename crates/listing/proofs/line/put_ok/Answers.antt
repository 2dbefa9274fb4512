-- `listing::line::put_ok` meets its contract: its pieces, one after the other. Assumes nothing.
use native.Mathlib.Omega.{arith}
use Rattle.listing.specs.Lines.{ok_line}
use Rattle.listing.proofs.Pieces.{then}
use Rattle.listing.proofs.line.put_ok.Goals as goal

pub returns : goal.returns
unfolding ok_line
returns c = then (omega arith) c.put_decimal.ensures (λ h. then h c.put_bytes.ensures (λ h. then h c.put_conf.ensures (λ h. then h c.put_bytes-2.ensures (λ h. then h c.put_log.ensures (λ h. c.put_byte.ensures)))))
