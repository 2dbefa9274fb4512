-- Walks with a cursor over an ascending list: an id is among what is left where it stands at its rank there, and moving the cursor to
-- that rank loses no id from there on. Assumes nothing.
use Prim.Native.Nat.{ℕ, zero, suc, ◌+◌, ◌≤◌}
use mathlib.Core.Path.{◌≡◌, refl, ap, ◌∙◌, sym}
use mathlib.Core.Bool.{Bool, true, false, ◌||◌, cond, or-false}
use mathlib.Core.List.{List, [], ◌∷◌}
use native.Mathlib.Omega.{arith}
use borrow.Author.Tests.{ne_eqb, ltb-true, ltb-false}
use lib.Dec.{eqb, ltb}
use lib.ListN.{drop}
use lib.Seq.{drop-drop}
use Rattle.rules.specs.Ids.{memb, ascending}
use Rattle.rules.proofs.Sets.{above_none, rising_tail}
use Rattle.idset.specs.Places.{rank, first_is}

rising_drop : (i : ℕ) (ys : List ℕ) → ascending ys ≡ true → ascending (drop i ys) ≡ true
unfolding ascending
rising_drop zero ys a = a
rising_drop (suc i) [] a = a
rising_drop (suc i) (y ∷ ys) a = rising_drop i ys (rising_tail y ys a)

at-rank : (x : ℕ) (ys : List ℕ) → ascending ys ≡ true → memb x ys ≡ first_is x (drop (rank x ys) ys)
unfolding memb rank first_is ascending
at-rank x [] a = refl
at-rank x (y ∷ ys) a = go (ltb y x) refl (at-rank x ys (rising_tail y ys a))
  where
    go : (b : Bool) → ltb y x ≡ b → memb x ys ≡ first_is x (drop (rank x ys) ys) → eqb y x || memb x ys ≡ first_is x (drop (cond b (suc (rank x ys)) 0) (y ∷ ys))
    go true e ih =
        let ne : y ≡ x → ⊥ = omega (arith, ltb-true y x e) in
        rw (ne_eqb y x ne) ih
    go false e ih = rw (above_none x y ys a (ltb-false y x e)) (or-false (eqb y x))

past-rank : (x z : ℕ) (ys : List ℕ) → x ≤ z → memb z (drop (rank x ys) ys) ≡ memb z ys
unfolding memb rank
past-rank x z [] h = refl
past-rank x z (y ∷ ys) h = go (ltb y x) refl (past-rank x z ys h)
  where
    go : (b : Bool) → ltb y x ≡ b → memb z (drop (rank x ys) ys) ≡ memb z ys → memb z (drop (cond b (suc (rank x ys)) 0) (y ∷ ys)) ≡ eqb y z || memb z ys
    go true e ih =
        let ne : y ≡ z → ⊥ = omega (arith, ltb-true y x e) in
        rw (ne_eqb y z ne) ih
    go false e ih = refl

pub found_at : (x i : ℕ) (ys : List ℕ) → ascending ys ≡ true → memb x (drop i ys) ≡ first_is x (drop (i + rank x (drop i ys)) ys)
found_at x i ys a = at-rank x (drop i ys) (rising_drop i ys a) ∙ ap (first_is x) (drop-drop (rank x (drop i ys)) i ys)

pub still_ahead : (x z i : ℕ) (ys : List ℕ) → ascending ys ≡ true → x ≤ z → memb z (drop (i + rank x (drop i ys)) ys) ≡ memb z (drop i ys)
still_ahead x z i ys a h = ap (memb z) (sym (drop-drop (rank x (drop i ys)) i ys)) ∙ past-rank x z (drop i ys) h
