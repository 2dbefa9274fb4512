-- `listing::line::put_entry` meets its contract. Assumes nothing.
use native.Mathlib.Omega.{arith}
use Rattle.text.proofs.Outputs.{writes_then}
use Rattle.listing.proofs.Lines.{entry_text_lem}
use Rattle.listing.proofs.line.put_entry.Goals as goal

pub returns : goal.returns
returns c = rw (entry_text_lem _ _) (writes_then (omega arith) (rw c.sign.ensures at c.put_byte.ensures) c.put_decimal.ensures)
