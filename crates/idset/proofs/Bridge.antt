-- Sets as the crates above use them: a well-formed set is the set of its ids, and its operations are those of the rules.
-- Assumes nothing.
use Prim.Native.Nat.{ℕ, zero, suc, ◌+◌, ◌-◌, ◌≤◌, ◌<◌}
use mathlib.Core.Path.{◌≡◌, refl, ap, ◌∙◌, sym}
use mathlib.Core.Bool.{Bool, true, false, ◌&&◌, not, cond}
use mathlib.Core.List.{List, [], ◌∷◌, ◌++◌}
use native.Mathlib.Omega.{arith}
use borrow.Author.Tests.{eq-eqb, eqb-true, leb-true, leb-false, le-leb, lt-leb}
use lib.Dec.{eqb, leb}
use lib.ListN.{length, drop, replicate, length-drop, length-append, length-replicate, take-append-drop}
use lib.Seq.{length-take-le, take-append_seam, drop-append_seam}
use Rattle.rules.specs.Ids.{ascending, insert_all, insert_id, memb, remove_id}
use Rattle.rules.proofs.Sets.{and_left, and_right, insert_same, length_remove, remove_none}
use Rattle.idset.specs.Places.{zeros, rank, place_of, insert_at, remove_at}
use Rattle.idset.specs.Set.{held, set_of, well_formed, insert_of, remove_of, union_of}
use Rattle.idset.specs.declared.IdSet.{IdSet}
use Rattle.idset.specs.Set.{Inserted}
use Rattle.idset.specs.Set.{Removed}
use Rattle.idset.proofs.Places.{rank_le, insert_split, length_insert, place-within, remove_split}
use Rattle.idset.proofs.Padded.{insert_padded, remove_padded}
use Rattle.idset.proofs.Merge.{merge-all}
pub use Rattle.idset.proofs.Merge.{merge-all, all-swap}
pub use Rattle.idset.proofs.Difference.{walk_decides}
pub use Rattle.idset.proofs.Cursor.{found_at, still_ahead}

-- ** Well formed

pub record Formed (s : IdSet) : Type 0 where
  pub long : length s.ids ≡ 64
  pub room : s.len ≤ 64
  pub rising : ascending (held s) ≡ true
  pub clear : zeros (drop s.len s.ids) ≡ true

pub formed : (s : IdSet) → well_formed s ≡ true → Formed s
unfolding well_formed
formed s h =
    let a : Bool = eqb (length s.ids) 64 in
    let b : Bool = leb s.len 64 in
    let c : Bool = ascending (held s) in
    let d : Bool = zeros (drop s.len s.ids) in
    let abc : a && b && c ≡ true = and_left (a && b && c) d h in
    let ab : a && b ≡ true = and_left (a && b) c abc in
    record {
      long = eqb-true (length s.ids) 64 (and_left a b ab);
      room = leb-true s.len 64 (and_right a b ab);
      rising = and_right (a && b) c abc;
      clear = and_right (a && b && c) d h;
    }

pub well_formed_lem : (s : IdSet) → Formed s → well_formed s ≡ true
unfolding well_formed
well_formed_lem s f = rw (eq-eqb _ _ f.long, le-leb _ _ f.room, f.rising, f.clear)

zeros-all : (l : List ℕ) → zeros l ≡ true → l ≡ replicate (length l) 0
unfolding zeros
zeros-all [] h = refl
zeros-all (y ∷ ys) h = rw (eqb-true y 0 (and_left (eqb y 0) (zeros ys) h), ← zeros-all ys (and_right (eqb y 0) (zeros ys) h))

zeros-replicate : (n : ℕ) → zeros (replicate n 0) ≡ true
unfolding zeros
zeros-replicate zero = refl
zeros-replicate (suc n) = zeros-replicate n

module _ (s : IdSet) (w : well_formed s ≡ true) where
  pub length-held : length (held s) ≡ s.len
  length-held = length-take-le s.len s.ids (omega (arith, (formed s w).long, (formed s w).room))

  pub held-few : length (held s) ≤ 64
  held-few = omega (arith, length-held, (formed s w).room)

  pub held_rises : ascending (held s) ≡ true
  held_rises = (formed s w).rising

  -- its places are its ids, and zeros after them
  padded : s.ids ≡ held s ++ replicate (64 - length (held s)) 0
  padded =
      let e : length (drop s.len s.ids) ≡ 64 - length (held s) = omega (arith, length-drop s.len s.ids, length-held, (formed s w).long) in
      let z : drop s.len s.ids ≡ replicate (64 - length (held s)) 0 = zeros-all (drop s.len s.ids) (formed s w).clear ∙ ap (λ (n : ℕ). replicate n 0) e in
      sym (take-append-drop s.len s.ids) ∙ ap (λ (l : List ℕ). held s ++ l) z

  pub set-held : set_of (held s) ≡ s
  unfolding set_of
  set-held = rw (← padded, length-held)

pub held-set : (xs : List ℕ) → length xs ≤ 64 → held (set_of xs) ≡ xs
unfolding set_of
held-set xs h = take-append_seam xs (replicate (64 - length xs) 0)

pub set-formed : (xs : List ℕ) → ascending xs ≡ true → length xs ≤ 64 → well_formed (set_of xs) ≡ true
unfolding set_of
set-formed xs a h =
    well_formed_lem (set_of xs) (record {
      long = omega (arith, length-append xs (replicate (64 - length xs) 0), length-replicate {A = ℕ} (64 - length xs) 0);
      room = h;
      rising = ap ascending (held-set xs h) ∙ a;
      clear = ap zeros (drop-append_seam xs (replicate (64 - length xs) 0)) ∙ zeros-replicate (64 - length xs);
    })

-- ** Insert and remove

module _ (x : ℕ) (xs : List ℕ) where
  insert_places : memb x xs ≡ false → length xs < 64 → insert_at (rank x xs) x (xs ++ replicate (64 - length xs) 0) ≡ insert_id x xs ++ replicate (64 - length (insert_id x xs)) 0
  insert_places h k = rw (insert_split x xs h) (insert_padded 0 (rank x xs) xs x (rank_le x xs) k)

  remove_places : memb x xs ≡ true → length xs ≤ 64 → remove_at (place_of x xs) 0 (xs ++ replicate (64 - length xs) 0) ≡ remove_id x xs ++ replicate (64 - length (remove_id x xs)) 0
  remove_places h r = rw (remove_split x xs h) (remove_padded 0 (place_of x xs) xs (place-within x xs h) r)

-- ** The operations

module _ (x : ℕ) (s : IdSet) (w : well_formed s ≡ true) where
  insert_set : memb x (held s) ≡ false → s.len < 64 → ◌≡◌ {A = IdSet} (record { ids = insert_at (rank x (held s)) x s.ids; len = s.len + 1 }) (set_of (insert_id x (held s)))
  unfolding set_of
  insert_set m k =
      let g : length (held s) < 64 = omega (arith, length-held s w) in
      let l : s.len + 1 ≡ length (insert_id x (held s)) = omega (arith, length-held s w, length_insert x (held s) m) in
      let p : insert_at (rank x (held s)) x s.ids ≡ insert_id x (held s) ++ replicate (64 - length (insert_id x (held s))) 0 = ap (insert_at (rank x (held s)) x) (padded s w) ∙ insert_places x (held s) m g in
      λ i. record { ids = p i; len = l i }

  pub insert_formed : insert_of x s ≡ cond (memb x (held s)) (record { set = s; changed = false; full = false }) (cond (leb 64 (length (held s))) (record { set = s; changed = false; full = true }) (record { set = set_of (insert_id x (held s)); changed = true; full = false }))
  unfolding insert_of
  insert_formed = rw (length-held s w) (go (memb x (held s)) refl (leb 64 s.len) refl)
    where
      go : (b : Bool) → memb x (held s) ≡ b → (c : Bool) → leb 64 s.len ≡ c
          → ◌≡◌ {A = Inserted} (cond b (record { set = s; changed = false; full = false }) (cond c (record { set = s; changed = false; full = true }) (record { set = record { ids = insert_at (rank x (held s)) x s.ids; len = s.len + 1 }; changed = true; full = false })))
          (cond b (record { set = s; changed = false; full = false }) (cond c (record { set = s; changed = false; full = true }) (record { set = set_of (insert_id x (held s)); changed = true; full = false })))
      go true m c k = refl
      go false m true k = refl
      go false m false k = ap (λ (t : IdSet). record { set = t; changed = true; full = false }) (insert_set m (leb-false 64 s.len k))

  pub insert_fits : length (insert_id x (held s)) ≤ 64 → insert_of x s ≡ record { set = set_of (insert_id x (held s)); changed = not (memb x (held s)); full = false }
  insert_fits h = insert_formed ∙ go (memb x (held s)) refl
    where
      go : (b : Bool) → memb x (held s) ≡ b
          → ◌≡◌ {A = Inserted} (cond b (record { set = s; changed = false; full = false }) (cond (leb 64 (length (held s))) (record { set = s; changed = false; full = true }) (record { set = set_of (insert_id x (held s)); changed = true; full = false })))
          (record { set = set_of (insert_id x (held s)); changed = not b; full = false })
      go true m = rw (insert_same x (held s) (held_rises s w) m, set-held s w)
      go false m = rw (lt-leb 64 (length (held s)) (omega (arith, length_insert x (held s) m)))

  pub remove_formed : remove_of x s ≡ record { set = set_of (remove_id x (held s)); changed = memb x (held s) }
  unfolding remove_of set_of
  remove_formed = go (memb x (held s)) refl
    where
      go : (b : Bool) → memb x (held s) ≡ b
          → ◌≡◌ {A = Removed} (cond b (record { set = record { ids = remove_at (place_of x (held s)) 0 s.ids; len = s.len - 1 }; changed = true }) (record { set = s; changed = false }))
          (record { set = set_of (remove_id x (held s)); changed = b })
      go true m =
          let l : s.len - 1 ≡ length (remove_id x (held s)) = omega (arith, length-held s w, length_remove x (held s) m) in
          let p : remove_at (place_of x (held s)) 0 s.ids ≡ remove_id x (held s) ++ replicate (64 - length (remove_id x (held s))) 0 = ap (remove_at (place_of x (held s)) 0) (padded s w) ∙ remove_places x (held s) m (held-few s w) in
          λ i. record { set = record { ids = p i; len = l i }; changed = true }
      go false m = ap (λ (t : IdSet). record { set = t; changed = false }) (sym (ap set_of (remove_none x (held s) m) ∙ set-held s w))

pub union_formed : (s t : IdSet) → well_formed s ≡ true → well_formed t ≡ true → length (insert_all (held s) (held t)) ≤ 64
    → union_of s t ≡ record { set = set_of (insert_all (held s) (held t)); full = false }
unfolding union_of
union_formed s t v w h = rw (merge-all (held s) (held t) (held_rises s v) (held_rises t w), le-leb (length (insert_all (held s) (held t))) 64 h)
