-- `listing::line::put_conf` meets its contract: its pieces, one after the other. Assumes nothing.
use native.Mathlib.Omega.{arith}
use Rattle.listing.specs.Lines.{conf_text}
use Rattle.listing.proofs.Pieces.{then}
use Rattle.listing.proofs.line.put_conf.Goals as goal

pub returns : goal.returns
unfolding conf_text
returns c = then (omega arith) c.put_bytes.ensures (λ h. then h c.put_set.ensures (λ h. then h c.put_labelled.ensures (λ h. then h c.put_labelled-2.ensures (λ h. then h c.put_labelled-3.ensures (λ h. c.put_auto.ensures)))))
