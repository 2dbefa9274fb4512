-- `unplug::at_most` meets its contract: the loop's invariant says what is left to ask. Assumes nothing.
use Prim.Native.Nat.{ℕ}
use mathlib.Core.Path.{◌≡◌}
use Rattle.unplug.proofs.Within.{Asking}
use Rattle.unplug.proofs.at_most.Given as goal

abbrev pub invariant-loop-i : goal.invariant-loop-i
invariant-loop-i g l = (f : ℕ → ℕ) → ((i r : ℕ) → goal.F-post g l.word i r → r ≡ f i) → Asking f l.k l.n l.step l.most l.i
