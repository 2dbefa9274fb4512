-- How long texts are at most. Assumes nothing.
use Prim.Native.Nat.{ℕ, ◌+◌, ◌*◌, ◌≤◌}
use mathlib.Core.List.{List, [], ◌∷◌}
use native.Mathlib.Nat.{mul-suc}
use native.Mathlib.Omega.{arith}
use lib.ListN.{length, length-append}
use Rattle.text.specs.Text.{each, decimal, spaced, words, group}
use Rattle.text.proofs.Decimals.{decimal-length}

-- texts of at most k bytes each
pub each-size : {A : Type 0} (f : A → List ℕ) (k : ℕ) → ((x : A) → length (f x) ≤ k) → (xs : List A) → length (each f xs) ≤ k * length xs
unfolding each
each-size f k h [] = omega arith
each-size f k h (x ∷ xs) = omega (arith, length-append (f x) (each f xs), h x, each-size f k h xs, mul-suc k (length xs))

words_size : (xs : List ℕ) → length (words xs) ≤ 21 * length xs
unfolding words
words_size [] = omega arith
words_size (x ∷ xs) = omega (arith, length-append (decimal x) (each spaced xs), decimal-length x, each-size spaced 21 (λ y. omega (arith, decimal-length y)) xs)

pub group-size : (xs : List ℕ) → length (group xs) ≤ 21 * length xs + 2
unfolding group
group-size xs = omega (arith, length-append (words xs) (41 ∷ []), words_size xs)
