-- The records of the tracked, by place: what `track` and `untrack` make of them is a place set, put in or taken out at the id's rank.
-- Assumes nothing.
use Prim.Native.Nat.{ℕ, suc, ◌+◌, ◌<◌}
use mathlib.Core.Path.{◌≡◌, refl, ap, ◌∙◌, sym}
use mathlib.Core.Bool.{Bool, true, false, ◌||◌, cond, true≢false, false≢true}
use mathlib.Core.List.{List, [], ◌∷◌, ◌++◌}
use native.Mathlib.Numerals.{add-one}
use native.Mathlib.Omega.{arith}
use borrow.Author.Tests.{ltb-true, ltb-false, eqb-true}
use lib.Dec.{eqb, ltb}
use lib.ListN.{length, take, drop, set}
use Rattle.progress.specs.declared.Progress.{Progress}
use Rattle.rules.specs.Ids.{memb, above, ascending}
use Rattle.rules.specs.State.{Peer, ids}
use Rattle.rules.specs.Apply.{track, untrack}
use Rattle.rules.proofs.Sets.{or_left, or_right, above_none, rising_tail}
use Rattle.idset.specs.Places.{rank}
use Rattle.tracker.specs.Bridge.{records_of}

-- an id that is not tracked comes in at its rank
pub track-new : (x : ℕ) (r : Progress) (ps : List Peer) → memb x (ids ps) ≡ false
    → records_of (track x r ps) ≡ take (rank x (ids ps)) (records_of ps) ++ (r ∷ drop (rank x (ids ps)) (records_of ps))
unfolding records_of track ids memb rank
track-new x r [] m = refl
track-new x r (p ∷ ps) m = go (ltb p.id x) (track-new x r ps (or_right (eqb p.id x) (memb x (ids ps)) m))
  where
    go : (b : Bool) → records_of (track x r ps) ≡ take (rank x (ids ps)) (records_of ps) ++ (r ∷ drop (rank x (ids ps)) (records_of ps))
        → records_of (cond b (p ∷ track x r ps) (cond (eqb p.id x) (record { id = x; progress = r } ∷ ps) (record { id = x; progress = r } ∷ p ∷ ps)))
        ≡ take (cond b (suc (rank x (ids ps))) 0) (p.progress ∷ records_of ps) ++ (r ∷ drop (cond b (suc (rank x (ids ps))) 0) (p.progress ∷ records_of ps))
    go true ih = ap (λ (l : List Progress). p.progress ∷ l) ih
    go false ih = rw (or_left (eqb p.id x) (memb x (ids ps)) m)

-- the first of an ascending list that has x: x itself, or less, and then x is among the others
data Head (x y : ℕ) (ys : List ℕ) : Type 0 where
  here : ltb y x ≡ false → eqb y x ≡ true → Head x y ys
  later : ltb y x ≡ true → eqb y x ≡ false → memb x ys ≡ true → Head x y ys

head : (x y : ℕ) (ys : List ℕ) → above y ys ≡ true → eqb y x || memb x ys ≡ true → Head x y ys
head x y ys a m = go (ltb y x) refl (eqb y x) refl m
  where
    go : (b : Bool) → ltb y x ≡ b → (e : Bool) → eqb y x ≡ e → e || memb x ys ≡ true → Head x y ys
    go true l true q m = absurd (omega (arith, ltb-true y x l, eqb-true y x q))
    go true l false q m = later l q m
    go false l true q m = here l q
    go false l false q m = absurd (true≢false (sym m ∙ above_none x y ys a (ltb-false y x l)))

module _ (x : ℕ) where
  pub rank-within : (xs : List ℕ) → ascending xs ≡ true → memb x xs ≡ true → rank x xs < length xs
  unfolding ascending memb rank
  rank-within [] a m = absurd (false≢true m)
  rank-within (y ∷ ys) a m = go (head x y ys a m) (rank-within ys (rising_tail y ys a))
    where
      go : Head x y ys → (memb x ys ≡ true → rank x ys < length ys) → cond (ltb y x) (suc (rank x ys)) 0 < suc (length ys)
      go (here l e) ih = rw l (omega arith)
      go (later l e n) ih = rw l (omega (arith, ih n))

  -- a tracked id has its record at its rank
  pub track_over : (r : Progress) (ps : List Peer) → ascending (ids ps) ≡ true → memb x (ids ps) ≡ true → records_of (track x r ps) ≡ set (records_of ps) (rank x (ids ps)) r
  unfolding records_of track ids memb rank ascending
  track_over r [] a m = absurd (false≢true m)
  track_over r (p ∷ ps) a m = go (head x p.id (ids ps) a m) (track_over r ps (rising_tail p.id (ids ps) a))
    where
      go : Head x p.id (ids ps) → (memb x (ids ps) ≡ true → records_of (track x r ps) ≡ set (records_of ps) (rank x (ids ps)) r)
          → records_of (cond (ltb p.id x) (p ∷ track x r ps) (cond (eqb p.id x) (record { id = x; progress = r } ∷ ps) (record { id = x; progress = r } ∷ p ∷ ps)))
          ≡ set (p.progress ∷ records_of ps) (cond (ltb p.id x) (suc (rank x (ids ps))) 0) r
      go (here l e) ih = rw (l, e)
      go (later l e n) ih = rw l (ap (λ (rs : List Progress). p.progress ∷ rs) (ih n))

  -- and goes from there
  pub untrack-gone : (ps : List Peer) → ascending (ids ps) ≡ true → memb x (ids ps) ≡ true
      → records_of (untrack x ps) ≡ take (rank x (ids ps)) (records_of ps) ++ drop (rank x (ids ps) + 1) (records_of ps)
  unfolding records_of untrack ids memb rank ascending
  untrack-gone [] a m = absurd (false≢true m)
  untrack-gone (p ∷ ps) a m = go (head x p.id (ids ps) a m) (untrack-gone ps (rising_tail p.id (ids ps) a))
    where
      go : Head x p.id (ids ps) → (memb x (ids ps) ≡ true → records_of (untrack x ps) ≡ take (rank x (ids ps)) (records_of ps) ++ drop (rank x (ids ps) + 1) (records_of ps))
          → records_of (cond (eqb p.id x) ps (p ∷ untrack x ps))
          ≡ take (cond (ltb p.id x) (suc (rank x (ids ps))) 0) (p.progress ∷ records_of ps) ++ drop (cond (ltb p.id x) (suc (rank x (ids ps))) 0 + 1) (p.progress ∷ records_of ps)
      go (here l e) ih = rw (l, e)
      go (later l e n) ih = rw (l, e, ih n, add-one, add-one)

  pub untrack_none : (ps : List Peer) → memb x (ids ps) ≡ false → untrack x ps ≡ ps
  unfolding untrack ids memb
  untrack_none [] m = refl
  untrack_none (p ∷ ps) m = rw (or_left (eqb p.id x) (memb x (ids ps)) m, untrack_none ps (or_right (eqb p.id x) (memb x (ids ps)) m))
