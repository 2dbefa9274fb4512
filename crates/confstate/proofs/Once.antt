-- A result of the reader or the writer is known by what is told of it. Assumes nothing.
use Prim.Native.Nat.{ℕ}
use mathlib.Core.Path.{◌≡◌, refl, ap, sym, ◌∙◌}
use mathlib.Core.Bool.{cond}
use lib.Dec.{eqb}
use Rattle.std.specs.Prelude.{Result, Ok, Err}
use Rattle.confstate.specs.Refusals.{told}
use Rattle.confstate.specs.Unwritten.{answered, said}
use Rattle.confstate.specs.declared.read.Refusal.{Refusal}
use Rattle.confstate.specs.declared.read.Refusal.TheVariants as read
use Rattle.confstate.specs.declared.write.Unwritten.{Unwritten}
use Rattle.confstate.specs.declared.write.Unwritten.TheVariants as write

-- by its number
abbrev numbered : ℕ → Result (Unit {0}) Refusal
numbered n = cond (eqb n 28) (Err read.CutShort) (cond (eqb n 29) (Err read.Malformed) (cond (eqb n 30) (Err read.LongList) (cond (eqb n 100) (Err read.FewWords) (Ok tt))))

told-numbered : (r : Result (Unit {0}) Refusal) → numbered (told r) ≡ r
told-numbered (Ok tt) = refl
told-numbered (Err read.CutShort) = refl
told-numbered (Err read.Malformed) = refl
told-numbered (Err read.LongList) = refl
told-numbered (Err read.FewWords) = refl

pub told_once : (r q : Result (Unit {0}) Refusal) → told r ≡ told q → r ≡ q
told_once r q e = sym (told-numbered r) ∙ (ap numbered e ∙ told-numbered q)

-- by its number, and the length where that is 0
abbrev with_length : ℕ → ℕ → Result ℕ Unwritten
with_length n a = cond (eqb n 1) (Err write.NoConfState) (cond (eqb n 2) (Err write.LongList) (cond (eqb n 31) (Err write.SmallOutput) (Ok a)))

said-length : (r : Result ℕ Unwritten) → with_length (said r) (answered r) ≡ r
said-length (Ok n) = refl
said-length (Err write.NoConfState) = refl
said-length (Err write.LongList) = refl
said-length (Err write.SmallOutput) = refl

pub written_once : (r q : Result ℕ Unwritten) → said r ≡ said q → answered r ≡ answered q → r ≡ q
written_once r q e f = sym (said-length r) ∙ ((λ i. with_length (e i) (f i)) ∙ said-length q)
