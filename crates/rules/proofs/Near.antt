-- Two sets that differ in one id at most. Assumes nothing.
use Prim.Native.Nat.{ℕ, ◌+◌, ◌≤◌}
use mathlib.Core.Path.{◌≡◌, refl, ap, ◌∙◌, sym}
use mathlib.Core.Bool.{Bool, true, false, ◌&&◌, ◌||◌, not, true≢false}
use mathlib.Core.List.{List, [], ◌∷◌}
use native.Mathlib.Omega.{arith}
use borrow.Author.Tests.{eqb-true, lt-leb}
use lib.Dec.{eqb, leb}
use lib.ListN.{length}
use Rattle.rules.specs.Ids.{above, ascending, memb, minus}
use Rattle.rules.specs.Calls.{difference}
use Rattle.rules.proofs.Sets.{ascending-minus, length_part, memb-minus}

module _ (x : ℕ) (xs ys : List ℕ) (a : ascending xs ≡ true) (b : ascending ys ≡ true) (h : (y : ℕ) → eqb x y ≡ false → memb y xs ≡ memb y ys) where
  only : memb x xs && not (memb x ys) ≡ false → length (minus xs ys) ≤ 0
  unfolding ascending memb
  only m = length_part (minus xs ys) [] (ascending-minus xs ys a) refl (λ y k. absurd (true≢false (sym k ∙ memb-minus y xs ys ∙ go y (eqb x y) refl)))
    where
      last : (b : Bool) → b && not b ≡ false
      last true = refl
      last false = refl

      go : (y : ℕ) (e : Bool) → eqb x y ≡ e → memb y xs && not (memb y ys) ≡ false
      go y true e = rw (← eqb-true x y e) m
      go y false e = rw (h y e) (last (memb y ys))

  one : length (minus xs ys) ≤ 1
  unfolding ascending memb above
  one = length_part (minus xs ys) (x ∷ []) (ascending-minus xs ys a) refl (λ y k. go y (eqb x y) refl (sym (memb-minus y xs ys) ∙ k))
    where
      last : (b : Bool) → b && not b ≡ false
      last true = refl
      last false = refl

      go : (y : ℕ) (e : Bool) → eqb x y ≡ e → memb y xs && not (memb y ys) ≡ true → e || false ≡ true
      go y true e k = refl
      go y false e k = absurd (true≢false (sym k ∙ ap (λ (c : Bool). c && not (memb y ys)) (h y e) ∙ last (memb y ys)))

-- at most one id comes or goes
pub near : (x : ℕ) (xs ys : List ℕ) → ascending xs ≡ true → ascending ys ≡ true → ((y : ℕ) → eqb x y ≡ false → memb y xs ≡ memb y ys) → leb 2 (difference xs ys) ≡ false
near x xs ys a b h = go (memb x xs) refl
  where
    back : (y : ℕ) → eqb x y ≡ false → memb y ys ≡ memb y xs
    back y e = sym (h y e)

    end : (b : Bool) → b && false ≡ false
    end true = refl
    end false = refl

    go : (b : Bool) → memb x xs ≡ b → leb 2 (length (minus xs ys) + length (minus ys xs)) ≡ false
    go true m = lt-leb 2 (length (minus xs ys) + length (minus ys xs)) (omega (arith, one x xs ys a b h, only x ys xs b a back (rw m (end (memb x ys)))))
    go false m = lt-leb 2 (length (minus xs ys) + length (minus ys xs)) (omega (arith, one x ys xs b a back, only x xs ys a b h (rw m)))

-- as a set does from itself
pub near_itself : (xs : List ℕ) → ascending xs ≡ true → leb 2 (difference xs xs) ≡ false
near_itself xs a = near 0 xs xs a a (λ y e. refl)
