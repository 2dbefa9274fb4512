-- The turns of a `for` over the first n of a slice: what is left of them, before the turn and after it. Assumes nothing.
use Prim.Native.Nat.{ℕ, zero, suc, ◌+◌, ◌<◌}
use mathlib.Core.Path.{◌≡◌, refl}
use mathlib.Core.List.{List, [], ◌∷◌}
use native.Mathlib.Numerals.{add-one}
use native.Mathlib.Omega.{arith}
use lib.ListN.{length, take}

-- a turn takes the first
pub taken-next : {A : Type 0} {n : ℕ} (m : ℕ) {xs ys : List A} {x : A} → (xs ≡ x ∷ ys) × (m + 1 ≡ n) → take n xs ≡ x ∷ take m ys
taken-next m (e, h) = rw (← h, e, add-one)

-- there is no turn
pub taken-none : {A R : Type 0} (n : ℕ) (xs : List A) → (0 < n → (length xs ≡ 0) × R) → take n xs ≡ []
taken-none zero xs h = refl
taken-none (suc n) [] h = refl
taken-none (suc n) (x ∷ xs) h = absurd (omega (arith, (h (omega arith)).0))
