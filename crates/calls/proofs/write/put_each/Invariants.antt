-- `calls::write::put_each` meets its contract: what is left to be put is that of the others. Assumes nothing.
use Prim.Native.Nat.{ℕ}
use mathlib.Core.List.{List}
use Rattle.text.specs.Text.{each}
use Rattle.text.specs.Writes.{Writes}
use Rattle.text.proofs.Outputs.{Along}
use Rattle.calls.proofs.write.put_each.Given as goal

abbrev pub invariant-loop-item : goal.invariant-loop-item
invariant-loop-item g l = (f : _ → List ℕ) → ((p : _) (x : _) (q : _) → goal.F-post g l.put p x tt q → Writes p.now (f x) q.now) → Along f l.items (each f l.items) l.initial.to l.to l.item-index
