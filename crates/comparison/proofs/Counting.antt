-- How many of an ascending list are in another. Assumes nothing.
use Prim.Native.Nat.{ℕ, ◌+◌, ◌≤◌}
use mathlib.Core.Path.{◌≡◌, refl, sym, ◌∙◌}
use mathlib.Core.Bool.{Bool, true, false, cond}
use mathlib.Core.List.{List, [], ◌∷◌}
use native.Mathlib.Omega.{arith}
use lib.ListN.{length}
use Rattle.rules.specs.Ids.{memb, ascending, insert_all}
use Rattle.rules.proofs.Sets.{and_right, keep, memb-keep, ascending-keep, memb-all, ascending-all, length_part, length_insert_le}

-- one for true, none for false
abbrev pub one : Bool → ℕ
one true = 1
one false = 0

pub one_le : (b : Bool) → one b ≤ 1
one_le true = omega arith
one_le false = omega arith

-- how many of xs are in ys
unfoldable pub count : List ℕ → List ℕ → ℕ
count ys [] = 0
count ys (x ∷ xs) = one (memb x ys) + count ys xs

pub length-all : (xs : List ℕ) → length (insert_all xs []) ≤ length xs
unfolding insert_all
length-all [] = omega arith
length-all (x ∷ xs) = omega (arith, length_insert_le x (insert_all xs []), length-all xs)

count-keep : (ys xs : List ℕ) → count ys xs ≡ length (keep (λ x. memb x ys) xs)
unfolding count keep
count-keep ys [] = refl
count-keep ys (x ∷ xs) = go (memb x ys) (count-keep ys xs)
  where
    go : (b : Bool) → count ys xs ≡ length (keep (λ x. memb x ys) xs) → one b + count ys xs ≡ length (cond b (x ∷ keep (λ x. memb x ys) xs) (keep (λ x. memb x ys) xs))
    go true ih = omega arith
    go false ih = omega arith

-- in ascending order no id is met twice
pub count_le : (ys xs : List ℕ) → ascending xs ≡ true → count ys xs ≤ length ys
unfolding memb ascending
count_le ys xs a =
    omega (arith, count-keep ys xs, length-all ys, length_part (keep (λ x. memb x ys) xs) (insert_all ys []) (ascending-keep (λ x. memb x ys) xs a) (ascending-all ys [] refl) inside)
  where
    inside : (y : ℕ) → memb y (keep (λ x. memb x ys) xs) ≡ true → memb y (insert_all ys []) ≡ true
    inside y m = memb-all y ys [] ∙ rw (and_right (memb y xs) (memb y ys) (sym (memb-keep y (λ x. memb x ys) xs) ∙ m))
