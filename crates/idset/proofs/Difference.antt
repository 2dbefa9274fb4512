-- The walk of two ascending lists side by side decides whether their difference is two or more. Assumes nothing.
use Prim.Native.Nat.{ℕ, suc, ◌+◌, ◌<◌}
use mathlib.Core.Path.{◌≡◌, refl, ap, ◌∙◌, sym}
use mathlib.Core.Bool.{Bool, true, false, ◌||◌, cond}
use mathlib.Core.List.{List, [], ◌∷◌}
use native.Mathlib.Omega.{arith}
use borrow.Author.Tests.{ne_eqb, eqb-false, ltb-true, ltb-false, le-leb}
use lib.Dec.{eqb, ltb, leb}
use lib.ListN.{length}
use Rattle.rules.specs.Ids.{memb, ascending, minus}
use Rattle.rules.specs.Calls.{difference}
use Rattle.rules.proofs.Sets.{or_left, or_right, above_none, rising_tail, memb_head, memb-before}
use Rattle.idset.specs.Places.{two_apart}
use Rattle.idset.proofs.Walk.{tally}

-- who is not there is taken away to no effect
minus_other : (x : ℕ) (zs xs : List ℕ) → memb x zs ≡ false → minus zs (x ∷ xs) ≡ minus zs xs
unfolding minus memb
minus_other x [] xs h = refl
minus_other x (z ∷ zs) xs h = go (minus_other x zs xs (or_right (eqb z x) (memb x zs) h))
  where
    ne : eqb x z ≡ false
    ne = ne_eqb x z (λ e. eqb-false z x (or_left (eqb z x) (memb x zs) h) (sym e))

    go : minus zs (x ∷ xs) ≡ minus zs xs → cond (eqb x z || memb z xs) (minus zs (x ∷ xs)) (z ∷ minus zs (x ∷ xs)) ≡ cond (memb z xs) (minus zs xs) (z ∷ minus zs xs)
    go ih = rw (ne, ih)

minus_none : (xs : List ℕ) → minus xs [] ≡ xs
unfolding minus memb
minus_none [] = refl
minus_none (x ∷ xs) = ap (λ (l : List ℕ). x ∷ l) (minus_none xs)

-- ** A turn of the walk

diff_left : (x y : ℕ) (xs ys : List ℕ) → ascending (y ∷ ys) ≡ true → x < y → difference (x ∷ xs) (y ∷ ys) ≡ suc (difference xs (y ∷ ys))
unfolding minus ascending
diff_left x y xs ys b h =
    let out : memb x (y ∷ ys) ≡ false = memb-before x y ys b h in
    let p : length (minus (x ∷ xs) (y ∷ ys)) ≡ suc (length (minus xs (y ∷ ys))) = ap (λ (c : Bool). length (cond c (minus xs (y ∷ ys)) (x ∷ minus xs (y ∷ ys)))) out in
    let q : length (minus (y ∷ ys) (x ∷ xs)) ≡ length (minus (y ∷ ys) xs) = ap length (minus_other x (y ∷ ys) xs out) in
    both p q
  where
    both : {a b c d : ℕ} → a ≡ suc b → c ≡ d → a + c ≡ suc (b + d)
    both p q = omega arith

diff_right : (x y : ℕ) (xs ys : List ℕ) → ascending (x ∷ xs) ≡ true → y < x → difference (x ∷ xs) (y ∷ ys) ≡ suc (difference (x ∷ xs) ys)
unfolding minus ascending
diff_right x y xs ys a h =
    let out : memb y (x ∷ xs) ≡ false = memb-before y x xs a h in
    let p : length (minus (x ∷ xs) (y ∷ ys)) ≡ length (minus (x ∷ xs) ys) = ap length (minus_other y (x ∷ xs) ys out) in
    let q : length (minus (y ∷ ys) (x ∷ xs)) ≡ suc (length (minus ys (x ∷ xs))) = ap (λ (c : Bool). length (cond c (minus ys (x ∷ xs)) (y ∷ minus ys (x ∷ xs)))) out in
    both p q
  where
    both : {a b c d : ℕ} → a ≡ b → c ≡ suc d → a + c ≡ suc (b + d)
    both p q = omega arith

diff_same : (x y : ℕ) (xs ys : List ℕ) → ascending (x ∷ xs) ≡ true → ascending (y ∷ ys) ≡ true → x ≡ y → difference (x ∷ xs) (y ∷ ys) ≡ difference xs ys
unfolding minus ascending
diff_same x y xs ys a b e =
    ap (λ (c : Bool). length (cond c (minus xs (y ∷ ys)) (x ∷ minus xs (y ∷ ys))) + length (minus (y ∷ ys) (x ∷ xs))) (ap (λ (z : ℕ). memb z (y ∷ ys)) e ∙ memb_head y ys)
    ∙ ap (λ (c : Bool). length (minus xs (y ∷ ys)) + length (cond c (minus ys (x ∷ xs)) (y ∷ minus ys (x ∷ xs)))) (ap (λ (z : ℕ). memb z (x ∷ xs)) (sym e) ∙ memb_head x xs)
    ∙ ap (λ (l : List ℕ). length l + length (minus ys (x ∷ xs))) (minus_other y xs ys (above_none y x xs a (omega arith)))
    ∙ ap (λ (l : List ℕ). length (minus xs ys) + length l) (minus_other x ys xs (above_none x y ys b (omega arith)))

diff_nil_left : (ys : List ℕ) → difference [] ys ≡ length ys
unfolding minus
diff_nil_left ys = ap (λ (l : List ℕ). 0 + length l) (minus_none ys) ∙ (omega arith)

diff_nil_right : (xs : List ℕ) → difference xs [] ≡ length xs
unfolding minus
diff_nil_right xs = ap (λ (l : List ℕ). length l + 0) (minus_none xs) ∙ (omega arith)

-- ** The walk

long : (n : ℕ) → leb 2 (suc (suc n)) ≡ true
long n = le-leb 2 (suc (suc n)) (omega arith)

-- a difference is met: n is what is left after it
met : (seen : Bool) (b : Bool) (n : ℕ) → b ≡ leb 2 (suc n) → cond seen true b ≡ leb 2 (tally seen (suc n))
met true b n h = sym (long n)
met false b n h = h

walk_same : (xs ys : List ℕ) (seen : Bool) → ascending xs ≡ true → ascending ys ≡ true → two_apart seen xs ys ≡ leb 2 (tally seen (difference xs ys))
unfolding two_apart ascending minus
walk_same [] [] true a b = refl
walk_same [] [] false a b = refl
walk_same [] (y ∷ ys) seen a b =
    met seen (two_apart true [] ys) (length ys) (walk_same [] ys true a (rising_tail y ys b) ∙ ap (λ (n : ℕ). leb 2 (suc n)) (diff_nil_left ys))
    ∙ ap (λ (n : ℕ). leb 2 (tally seen n)) (sym (diff_nil_left (y ∷ ys)))
walk_same (x ∷ xs) [] seen a b =
    met seen (two_apart true xs []) (length xs) (walk_same xs [] true (rising_tail x xs a) b ∙ ap (λ (n : ℕ). leb 2 (suc n)) (diff_nil_right xs))
    ∙ ap (λ (n : ℕ). leb 2 (tally seen n)) (sym (diff_nil_right (x ∷ xs)))
walk_same (x ∷ xs) (y ∷ ys) seen a b =
    go (ltb x y) refl (ltb y x) refl (walk_same xs (y ∷ ys) true (rising_tail x xs a) b) (walk_same (x ∷ xs) ys true a (rising_tail y ys b)) (walk_same xs ys seen (rising_tail x xs a) (rising_tail y ys b))
  where
    go : (p : Bool) → ltb x y ≡ p → (q : Bool) → ltb y x ≡ q → two_apart true xs (y ∷ ys) ≡ leb 2 (suc (difference xs (y ∷ ys))) → two_apart true (x ∷ xs) ys ≡ leb 2 (suc (difference (x ∷ xs) ys))
        → two_apart seen xs ys ≡ leb 2 (tally seen (difference xs ys))
        → cond p (cond seen true (two_apart true xs (y ∷ ys))) (cond q (cond seen true (two_apart true (x ∷ xs) ys)) (two_apart seen xs ys)) ≡ leb 2 (tally seen (difference (x ∷ xs) (y ∷ ys)))
    go true p q e f g h = met seen (two_apart true xs (y ∷ ys)) (difference xs (y ∷ ys)) f ∙ ap (λ (n : ℕ). leb 2 (tally seen n)) (sym (diff_left x y xs ys b (ltb-true x y p)))
    go false p true e f g h = met seen (two_apart true (x ∷ xs) ys) (difference (x ∷ xs) ys) g ∙ ap (λ (n : ℕ). leb 2 (tally seen n)) (sym (diff_right x y xs ys a (ltb-true y x e)))
    go false p false e f g h = h ∙ ap (λ (n : ℕ). leb 2 (tally seen n)) (sym (diff_same x y xs ys a b (omega (arith, ltb-false x y p, ltb-false y x e))))

pub walk_decides : (xs ys : List ℕ) → ascending xs ≡ true → ascending ys ≡ true → two_apart false xs ys ≡ leb 2 (difference xs ys)
walk_decides xs ys a b = walk_same xs ys false a b
