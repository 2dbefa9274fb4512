-- One log entry on the tracked ids and records in two arrays: each branch leaves what the rules make of the peers. Assumes nothing.
use Prim.Native.Nat.{ℕ, ◌+◌, ◌≤◌, ◌<◌}
use mathlib.Core.Path.{◌≡◌, refl, ap, ◌∙◌, sym}
use mathlib.Core.Bool.{Bool, true, false, cond, true≢false}
use mathlib.Core.List.{List, [], ◌∷◌}
use native.Mathlib.Omega.{arith}
use borrow.Author.Tests.{le-leb, lt-leb, leb-true, leb-false}
use lib.Dec.{leb}
use Rattle.std.specs.Prelude.{Ok, Err, ◌-◌}
use lib.ListN.{length, drop, set}
use Rattle.progress.specs.declared.Progress.{Progress}
use Rattle.progress.specs.Record.{unused_record}
use Rattle.rules.specs.Answers.{ok, fault}
use Rattle.rules.specs.Ids.{memb, ascending, insert_id}
use Rattle.rules.specs.State.{Peer, ids, add}
use Rattle.rules.specs.Apply.{track, untrack, room}
use Rattle.rules.proofs.Sets.{insert_same, ascending_insert, ascending_remove, length_insert_le, length_remove_le}
use Rattle.rules.proofs.Peers.{ids-track, ids-untrack}
use Rattle.rules.proofs.Formed as R
use Rattle.idset.specs.Places.{rank, first_is, place_of, insert_at, remove_at}
use Rattle.idset.specs.Set.{held, set_of, insert_of, remove_of, inserted, removed, Inserted, Removed}
use Rattle.idset.specs.declared.Full.{Full}
use Rattle.idset.specs.declared.IdSet.{IdSet}
use Rattle.idset.proofs.Places.{rank_le}
use Rattle.idset.proofs.Bridge.{set-held, length-held, held_rises, insert_fits, remove_formed, found_at}
use Rattle.tracker.specs.Bridge.{peers_of, records_of, record_places}
use Rattle.tracker.specs.Enrol.{Rostered}
use Rattle.tracker.proofs.Confs.{set-ids}
use Rattle.tracker.proofs.Peers.{length_ids, length-records, roster_ids, roster_places, peers_roster, peers-back}
use Rattle.idset.proofs.Padded.{padded, set_padded, insert_padded, remove_padded}
use Rattle.tracker.proofs.EnrolPeers.{rank-within, track-new, track_over, untrack-gone, untrack_none}

-- ** By place

pub places : (ps : List Peer) → record_places ps ≡ padded unused_record (records_of ps)
unfolding record_places
places ps = rw (length-records ps)

module _ (x : ℕ) (ps : List Peer) where
  same_length : length (records_of ps) ≡ length (ids ps)
  same_length = length-records ps ∙ sym (length_ids ps)

  pub places-new : (r : Progress) → memb x (ids ps) ≡ false → length (ids ps) < 64 → record_places (track x r ps) ≡ insert_at (rank x (ids ps)) r (record_places ps)
  places-new r m h =
      let k : rank x (ids ps) ≤ length (records_of ps) = omega (arith, same_length, rank_le x (ids ps)) in
      let l : length (records_of ps) < 64 = omega (arith, same_length) in
      rw (places (track x r ps), places ps, track-new x r ps m) (sym (insert_padded unused_record (rank x (ids ps)) (records_of ps) r k l))

  module _ (a : ascending (ids ps) ≡ true) (m : memb x (ids ps) ≡ true) where
    within : rank x (ids ps) < length (records_of ps)
    within = omega (arith, same_length, rank-within x (ids ps) a m)

    pub places_over : (r : Progress) → record_places (track x r ps) ≡ set (record_places ps) (rank x (ids ps)) r
    places_over r = rw (places (track x r ps), places ps, track_over x r ps a m) (sym (set_padded unused_record (rank x (ids ps)) (records_of ps) r within))

    pub places-gone : length (ids ps) ≤ 64 → record_places (untrack x ps) ≡ remove_at (rank x (ids ps)) unused_record (record_places ps)
    places-gone h =
        let l : length (records_of ps) ≤ 64 = omega (arith, same_length) in
        rw (places (untrack x ps), places ps, untrack-gone x ps a m) (sym (remove_padded unused_record (rank x (ids ps)) (records_of ps) within l))

-- ** Two arrays that hold the peers qs

pub record Holds (s : IdSet) (rs : List Progress) (qs : List Peer) : Type 0 where
  pub rostered : Rostered s rs
  pub peers : peers_of (held s) rs ≡ qs

holds : {s : IdSet} {rs : List Progress} (qs : List Peer) → R.Set (ids qs) → s ≡ set_of (ids qs) → rs ≡ record_places qs → Holds s rs qs
holds qs h e p = rw (e, p) (record { rostered = peers_roster qs h; peers = peers-back qs h })

-- ** Where an id is

module _ {s : IdSet} {rs : List Progress} (o : Rostered s rs) (x : ℕ) {l : List ℕ} (p : l ≡ held s) (at : ℕ) (f : at ≡ 0 + rank x (drop 0 l)) where
  -- at its rank
  pub sought : at ≡ rank x (held s)
  sought = omega (arith, f, ap (rank x) p)

  -- it stands there where it is tracked
  pub stands : {m : List ℕ} → m ≡ held s → {b : Bool} → b ≡ first_is x (drop at m) → b ≡ memb x (held s)
  stands {m} q e = e ∙ ap (λ (l : List ℕ). first_is x (drop at l)) q ∙ ap (λ (n : ℕ). first_is x (drop n (held s))) (omega (arith, sought)) ∙ sym (found_at x 0 (held s) (held_rises s o.set))

-- what an insertion and a removal tell
module _ (s : IdSet) (x : ℕ) where
  here : Inserted
  here = record { set = s; changed = false; full = false }

  full : Inserted
  full = record { set = s; changed = false; full = true }

  grown : Inserted
  grown = record { set = record { ids = insert_at (rank x (held s)) x s.ids; len = s.len + 1 }; changed = true; full = false }

  is_full : Inserted → Bool
  is_full i = i.full

  pub no_room : {t : IdSet} {f : Full} → inserted t (Err f) ≡ insert_of x s → 64 ≤ s.len
  unfolding insert_of here full grown is_full
  no_room e = go (memb x (held s)) (leb 64 s.len) refl (ap is_full e)
    where
      go : (b c : Bool) → leb 64 s.len ≡ c → true ≡ is_full (cond b here (cond c full grown)) → 64 ≤ s.len
      go true c h f = absurd (true≢false f)
      go false true h f = leb-true _ _ h
      go false false h f = absurd (true≢false f)

  pub some_room : {t : IdSet} {b : Bool} → memb x (held s) ≡ false → inserted t (Ok b) ≡ insert_of x s → s.len < 64
  unfolding insert_of here full grown is_full
  some_room {t} {b} m e = go (leb 64 s.len) refl (ap is_full (let h : inserted t (Ok b) ≡ cond (leb 64 s.len) full grown = e ∙ rw m refl in h))
    where
      go : (c : Bool) → leb 64 s.len ≡ c → false ≡ is_full (cond c full grown) → s.len < 64
      go true h f = absurd (true≢false (sym f))
      go false h f = leb-false _ _ h

  pub no_room_kept : {t : IdSet} {f : Full} → inserted t (Err f) ≡ insert_of x s → t ≡ s
  unfolding insert_of here full grown is_full
  no_room_kept {t} {f} e = ap (λ (i : Inserted). i.set) e ∙ go (memb x (held s)) (leb 64 s.len) (ap is_full e)
    where
      go : (b c : Bool) → true ≡ is_full (cond b here (cond c full grown)) → (cond b here (cond c full grown)).set ≡ s
      go true c f = refl
      go false true f = refl
      go false false f = absurd (true≢false f)

  without : Removed
  without = record { set = record { ids = remove_at (place_of x (held s)) 0 s.ids; len = s.len - 1 }; changed = true }

  same : Removed
  same = record { set = s; changed = false }

  has_changed : Removed → Bool
  has_changed r = r.changed

  pub was_held : {t : IdSet} {b : Bool} → removed t b ≡ remove_of x s → b ≡ memb x (held s)
  unfolding remove_of without same has_changed
  was_held e = ap has_changed e ∙ go (memb x (held s))
    where
      go : (c : Bool) → has_changed (cond c without same) ≡ c
      go true = refl
      go false = refl

  pub none_kept : {t : IdSet} → removed t false ≡ remove_of x s → t ≡ s
  unfolding remove_of without same has_changed
  none_kept e = ap (λ (r : Removed). r.set) e ∙ go (memb x (held s)) (ap has_changed e)
    where
      go : (c : Bool) → false ≡ has_changed (cond c without same) → (cond c without same).set ≡ s
      go true f = absurd (true≢false (sym f))
      go false f = refl

-- ** The branches: `at` is where x stands or comes in, and b tells whether it is tracked

module _ {s : IdSet} {rs : List Progress} (o : Rostered s rs) {ps : List Peer} (v : peers_of (held s) rs ≡ ps) (x at : ℕ) (f : at ≡ rank x (held s)) (b : Bool) (e : b ≡ memb x (held s)) where
  ids-are : ids ps ≡ held s
  ids-are = ap ids (sym v) ∙ roster_ids o

  set-is : set_of (ids ps) ≡ s
  set-is = ap set_of ids-are ∙ set-held s o.set

  places-are : record_places ps ≡ rs
  places-are = ap record_places (sym v) ∙ roster_places o

  -- the ids, and how many they are
  q : R.Set (ids ps)
  q = rw ids-are (set-ids s o.set)

  count : length (ids ps) ≡ s.len
  count = ap length ids-are ∙ length-held s o.set

  place : at ≡ rank x (ids ps)
  place = f ∙ ap (rank x) (sym ids-are)

  tells : b ≡ memb x (ids ps)
  tells = e ∙ ap (memb x) (sym ids-are)

  pub at-within : b ≡ true → at < 64
  at-within t = omega (arith, place, rank-within x (ids ps) q.rises (sym tells ∙ t), q.few)

  -- ** Add

  module _ (r : Progress) where
    added : length (insert_id x (ids ps)) ≤ 64 → R.Set (ids (track x r ps))
    added h = rw (ids-track x r ps) (record { rises = ascending_insert x (ids ps) q.rises; few = h })

    pub add_over : b ≡ true → Holds s (set rs at r) (track x r ps)
    add_over t =
        let m : memb x (ids ps) ≡ true = sym tells ∙ t in
        let same : insert_id x (ids ps) ≡ ids ps = insert_same x (ids ps) q.rises m in
        holds (track x r ps) (added (rw same q.few)) (rw (ids-track x r ps, same, set-is)) (rw (places_over x ps q.rises m r, places-are, place))

    pub add_new : b ≡ false → s.len < 64 → (l : List Progress) → l ≡ insert_at at r rs → {t : IdSet} {c : Bool} → inserted t (Ok c) ≡ insert_of x s → Holds t l (track x r ps)
    add_new t h l i j =
        let none : memb x (ids ps) ≡ false = sym tells ∙ t in
        let k : length (ids ps) < 64 = omega (arith, count) in
        let few : length (insert_id x (ids ps)) ≤ 64 = omega (arith, length_insert_le x (ids ps)) in
        let same : length (insert_id x (held s)) ≤ 64 = rw (← ids-are) few in
        holds (track x r ps) (added few) (ap (λ (i : Inserted). i.set) j ∙ rw (ids-track x r ps, ids-are, insert_fits x s o.set same)) (rw (places-new x ps r none k, places-are, ← place, i))

  pub over-says : b ≡ true → ok ≡ room (add x ∷ []) (ids ps)
  unfolding room
  over-says t = rw (sym tells ∙ t)

  pub full-says : b ≡ false → 64 ≤ s.len → fault 16 x ≡ room (add x ∷ []) (ids ps)
  unfolding room
  full-says t h =
      let k : 64 ≤ length (ids ps) = omega (arith, count) in
      rw (sym tells ∙ t, le-leb _ _ k)

  pub new-says : b ≡ false → s.len < 64 → ok ≡ room (add x ∷ []) (ids ps)
  unfolding room
  new-says t h =
      let k : length (ids ps) < 64 = omega (arith, count) in
      rw (sym tells ∙ t, lt-leb _ _ k)

  -- ** Remove

  pub remove_none : b ≡ false → ps ≡ untrack x ps
  remove_none t = sym (untrack_none x ps (sym tells ∙ t))

  pub remove_gone : b ≡ true → (u : Progress) → u ≡ unused_record → (l : List Progress) → l ≡ remove_at at u rs → {t : IdSet} {c : Bool} → removed t c ≡ remove_of x s → Holds t l (untrack x ps)
  remove_gone t u n l i j =
      let less : R.Set (ids (untrack x ps)) =
      rw (ids-untrack x ps) (record { rises = ascending_remove x (ids ps) q.rises; few = omega (arith, q.few, length_remove_le x (ids ps)) }) in
      holds (untrack x ps) less (ap (λ (r : Removed). r.set) j ∙ rw (ids-untrack x ps, ids-are, remove_formed x s o.set)) (rw (places-gone x ps q.rises (sym tells ∙ t) q.few, places-are, ← place, i, n))
