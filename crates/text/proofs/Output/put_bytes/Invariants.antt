-- `Output::put_bytes` meets its contract: what is left to be put at the place `at` is the bytes from `b-index` on. Assumes nothing.
use Prim.Native.Nat.{ℕ}
use mathlib.Core.List.{[], ◌∷◌}
use Rattle.text.specs.Text.{each}
use Rattle.text.proofs.Outputs.{Along}
use Rattle.text.proofs.Output.put_bytes.Given as goal

abbrev pub invariant-loop-b : goal.invariant-loop-b
invariant-loop-b l = Along (λ (b : ℕ). b ∷ []) l.s (each (λ (b : ℕ). b ∷ []) l.s) l.initial.self (record { bytes = l.self.bytes; at = l.at }) l.b-index
