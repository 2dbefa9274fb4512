-- What a Result says of a step: accepted has number 0, and a refusal has another. Assumes nothing.
use mathlib.Core.Path.{◌≡◌}
use borrow.Author.Tests.{eqb-false}
use Rattle.std.specs.Prelude.{Result, Ok, Err, IsErrAnd}
use Rattle.tracker.specs.Apply.{number_of, outcome_left}
use Rattle.tracker.specs.Refusals.{number_at, said}
use Rattle.tracker.specs.declared.Tracker.{Tracker}
use Rattle.tracker.specs.declared.refusal.Refusal.{Refusal}
use Rattle.changer.proofs.Answered.{refused_number}

module _ {A : Type 0} {r : Result A Refusal} where
  pub accepted-number : {a : A} → r ≡ Ok a → number_of (said r) ≡ 0
  accepted-number e = rw e

  pub refused-number : {q : Refusal} → r ≡ Err q → number_of (said r) ≡ 0 → ⊥
  refused-number {q} e z = eqb-false (number_at q) 0 (refused_number q) (rw e at z)

-- a refusal given back says the same
pub given-back : {A B : Type 0} {r : Result A Refusal} {q : Refusal} → r ≡ Err q → (p : Result B Refusal) → IsErrAnd p (λ e. e ≡ q) → (t : Tracker) → outcome_left t p ≡ outcome_left t r
given-back e (Ok a) f t = absurd f
given-back e (Err w) f t = rw (e, f)
