-- The walk of leaving: it finds those of an ascending list that are in neither of two others. Assumes nothing.
use Prim.Native.Nat.{ℕ, ◌+◌, ◌≤◌, ◌<◌}
use mathlib.Core.Path.{◌≡◌, refl, ◌∙◌, sym}
use mathlib.Core.Bool.{Bool, true, false, ◌||◌, cond}
use mathlib.Core.List.{List, [], ◌∷◌}
use native.Mathlib.Omega.{arith}
use lib.Dec.{eqb}
use lib.ListN.{drop}
use lib.Seq.{drop-drop}
use Rattle.rules.specs.Ids.{ascending, memb, minus}
use Rattle.rules.proofs.Sets.{memb_head, or-true, rising_tail}
use Rattle.idset.specs.Places.{first_is, rank}
use Rattle.idset.proofs.Bridge.{found_at, still_ahead}
use Rattle.invariants.specs.Walk.{past}
use Rattle.invariants.proofs.Walk.{memb-later}
use Rattle.changer.specs.Stages.{gone_walk}

-- a cursor at i in ys, before which stands none of xs
abbrev Ahead : List ℕ → List ℕ → ℕ → Type 0
Ahead xs ys i = (z : ℕ) → memb z xs ≡ true → memb z (drop i ys) ≡ memb z ys

module _ (x : ℕ) (xs : List ℕ) (a : ascending (x ∷ xs) ≡ true) (ys : List ℕ) (b : ascending ys ≡ true) (i : ℕ) (h : Ahead (x ∷ xs) ys i) where
  abbrev moved : ℕ
  moved = i + rank x (drop i ys)

  past-moved : past x (drop i ys) ≡ drop moved ys
  past-moved = drop-drop (rank x (drop i ys)) i ys

  met : first_is x (drop moved ys) ≡ memb x ys
  met = sym (found_at x i ys b) ∙ h x (memb_head x xs)

  ahead_moved : Ahead xs ys moved
  unfolding memb ascending
  ahead_moved z m =
      let l : x < z = memb-later x z xs a m in
      let k : x ≤ z = omega arith in
      still_ahead x z i ys b k ∙ h z (or-true (eqb x z) (memb z xs) m)

module _ (is ls : List ℕ) (p : ascending is ≡ true) (q : ascending ls ≡ true) where
  gone-from : (xs : List ℕ) → ascending xs ≡ true → (i j : ℕ) → Ahead xs is i → Ahead xs ls j → gone_walk xs (drop i is) (drop j ls) ≡ minus (minus xs is) ls
  unfolding gone_walk minus ascending
  gone-from [] a i j f g = refl
  gone-from (x ∷ xs) a i j f g =
      rw (past-moved x xs a is p i f, past-moved x xs a ls q j g, met x xs a is p i f, met x xs a ls q j g)
      (go (memb x is) (gone-from xs (rising_tail x xs a) (moved x xs a is p i f) (moved x xs a ls q j g) (ahead_moved x xs a is p i f) (ahead_moved x xs a ls q j g)))
    where
      rest : List ℕ
      rest = gone_walk xs (drop (moved x xs a is p i f) is) (drop (moved x xs a ls q j g) ls)

      go : (b : Bool) → rest ≡ minus (minus xs is) ls → cond (b || memb x ls) rest (x ∷ rest) ≡ minus (cond b (minus xs is) (x ∷ minus xs is)) ls
      go true e = e
      go false e = rw e

  pub gone_walk_lem : (xs : List ℕ) → ascending xs ≡ true → gone_walk xs is ls ≡ minus (minus xs is) ls
  gone_walk_lem xs a = gone-from xs a 0 0 (λ z m. refl) (λ z m. refl)
