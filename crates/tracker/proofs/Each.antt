-- A test of each element of a list: one turn of its walk over an array, and, where it is a test for one element, which lists pass it.
-- Assumes nothing.
use Prim.Native.Nat.{ℕ, zero, suc, ◌-◌}
use mathlib.Core.Path.{◌≡◌, refl, ◌∙◌, sym}
use mathlib.Core.Bool.{Bool, true, false, ◌&&◌, ◌||◌, not}
use mathlib.Core.List.{List, [], ◌∷◌, ◌++◌}
use native.Mathlib.Omega.{arith}
use lib.ListN.{length, take, drop, replicate, length-drop, take-append-drop}
use lib.Seq.{drop_at}
use Rattle.std.specs.List.{list_any}
use Rattle.rules.proofs.Sets.{and_left, and_right}

-- all tests each element by p
pub record Each {A : Type 0} (p : A → Bool) (all : List A → Bool) : Type 0 where
  pub none : all [] ≡ true
  pub more : (x : A) (xs : List A) → all (x ∷ xs) ≡ p x && all xs

-- whether one of them fails the test
pub any_fails : {A : Type 0} {p : A → Bool} {all : List A → Bool} → Each p all → (l : List A) → list_any (λ y. not (p y)) l ≡ not (all l)
any_fails e [] = rw e.none
any_fails {p} {all} e (x ∷ xs) = rw (e.more x xs, any_fails e xs) (go (p x))
  where
    go : (b : Bool) → not b || not (all xs) ≡ not (b && all xs)
    go true = refl
    go false = refl

-- ** A test for x: the places after the first n

module _ {A : Type 0} {p : A → Bool} {all : List A → Bool} (e : Each p all) (x : A) where
  each_same : ((y : A) → p y ≡ true → y ≡ x) → (l : List A) → all l ≡ true → l ≡ replicate (length l) x
  each_same t [] h = refl
  each_same t (y ∷ ys) h =
      let k : p y && all ys ≡ true = sym (e.more y ys) ∙ h in
      rw (t y (and_left (p y) (all ys) k), ← each_same t ys (and_right (p y) (all ys) k))

  each-replicate : p x ≡ true → (n : ℕ) → all (replicate n x) ≡ true
  each-replicate t zero = e.none
  each-replicate t (suc n) = rw (e.more, t, each-replicate t n)

  -- the first n of a list, with x in each place after them
  pub each_tail : ((y : A) → p y ≡ true → y ≡ x) → (m n : ℕ) (l : List A) → length l ≡ m → all (drop n l) ≡ true → take n l ++ replicate (m - n) x ≡ l
  each_tail t m n l k h =
      let g : length (drop n l) ≡ m - n = omega (arith, length-drop n l) in
      rw (← g, ← each_same t (drop n l) h) (take-append-drop n l)

  pub each-clear : p x ≡ true → (k n : ℕ) (xs : List A) → length xs ≡ n → all (drop n (xs ++ replicate k x)) ≡ true
  each-clear t k n xs h = rw (drop_at xs (replicate k x) n h) (each-replicate t k)
