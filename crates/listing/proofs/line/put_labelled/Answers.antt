-- `listing::line::put_labelled` meets its contract. Assumes nothing.
use native.Mathlib.Omega.{arith}
use mathlib.Core.Path.{sym, ◌∙◌}
use Rattle.text.proofs.Outputs.{writes_none, writes_then}
use Rattle.listing.specs.Lines.{labelled}
use Rattle.listing.proofs.line.put_labelled.Goals as goal

pub returns-then-not-is_empty : goal.returns-then-not-is_empty
unfolding labelled
returns-then-not-is_empty c = simp (sym c.is_empty.ensures ∙ c.if-not-is_empty.true) (writes_then (omega arith) c.put_bytes.ensures c.put_set.ensures)

pub returns-else-not-is_empty : goal.returns-else-not-is_empty
unfolding labelled
returns-else-not-is_empty c = simp (sym c.is_empty.ensures ∙ c.if-not-is_empty.false) (writes_none (omega arith))
