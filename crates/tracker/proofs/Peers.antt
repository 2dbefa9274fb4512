-- The bridge of trackers: the tracked ids with their records in two arrays, and the list of the tracked. Assumes nothing.
use Prim.Native.Nat.{ℕ, suc, ◌-◌, ◌≤◌}
use mathlib.Core.Path.{◌≡◌, refl, ap, ◌∙◌, sym}
use mathlib.Core.Bool.{Bool, true, ◌&&◌}
use mathlib.Core.List.{List, [], ◌∷◌, ◌++◌}
use native.Mathlib.Nat.{not-suc-le-zero}
use native.Mathlib.Omega.{arith}
use borrow.Author.Tests.{eq-eqb, eqb-true}
use lib.Dec.{eqb}
use lib.ListN.{length, take, drop, replicate}
use Rattle.progress.specs.Record.{unused_record}
use Rattle.progress.specs.declared.Progress.{Progress}
use Rattle.progress.proofs.Laws.{unused_is, is_unused_lem}
use Rattle.rules.specs.State.{Peer, State, ids, formed}
use Rattle.rules.proofs.Sets.{and_left, and_right}
use Rattle.rules.proofs.Formed as R
use Rattle.rules.proofs.Formed.{sets_of, of-sets, whole_of, of-whole}
use Rattle.idset.specs.Set.{held, set_of, well_formed}
use Rattle.idset.specs.declared.IdSet.{IdSet}
use Rattle.idset.proofs.Bridge.{set-held, held-set, length-held, held-few}
use Rattle.tracker.specs.Bridge.{conf_of, peers_of, records_of, record_places, state_of, tracker_of}
use Rattle.tracker.specs.Form.{conf_well_formed, all_unused, tracker_well_formed}
use Rattle.tracker.specs.Enrol.{Rostered}
use Rattle.tracker.specs.declared.Tracker.{Tracker}
use Rattle.idset.proofs.Padded.{padded_long}
use Rattle.tracker.proofs.Each.{each_tail, each-clear}
use Rattle.tracker.proofs.Places.{unused_each}
use Rattle.tracker.proofs.Confs.{set-ids, ids_set, unit_conf, conf-formed, conf-back, conf_well}

-- ** Ids and records, and the list of both

pub ids-peers : (xs : List ℕ) (rs : List Progress) → length xs ≤ length rs → ids (peers_of xs rs) ≡ xs
unfolding ids peers_of
ids-peers [] rs h = refl
ids-peers (x ∷ xs) [] h = absurd (not-suc-le-zero h)
ids-peers (x ∷ xs) (r ∷ rs) h = ap (λ (l : List ℕ). x ∷ l) (ids-peers xs rs (omega arith))

pub records-peers : (xs : List ℕ) (rs : List Progress) → length xs ≤ length rs → records_of (peers_of xs rs) ≡ take (length xs) rs
unfolding records_of peers_of
records-peers [] rs h = refl
records-peers (x ∷ xs) [] h = absurd (not-suc-le-zero h)
records-peers (x ∷ xs) (r ∷ rs) h = ap (λ (l : List Progress). r ∷ l) (records-peers xs rs (omega arith))

pub length_ids : (ps : List Peer) → length (ids ps) ≡ length ps
unfolding ids
length_ids [] = refl
length_ids (p ∷ ps) = ap suc (length_ids ps)

pub length-records : (ps : List Peer) → length (records_of ps) ≡ length ps
unfolding records_of
length-records [] = refl
length-records (p ∷ ps) = ap suc (length-records ps)

pub peers-records : (ps : List Peer) (rs : List Progress) → peers_of (ids ps) (records_of ps ++ rs) ≡ ps
unfolding ids records_of peers_of
peers-records [] rs = refl
peers-records (p ∷ ps) rs = ap (λ (l : List Peer). p ∷ l) (peers-records ps rs)

-- ** Two arrays in step

module _ {s : IdSet} {rs : List Progress} (r : Rostered s rs) where
  pub roster_ids : ids (peers_of (held s) rs) ≡ held s
  roster_ids = ids-peers (held s) rs (omega (arith, held-few s r.set, r.long))

  pub roster_set : set_of (ids (peers_of (held s) rs)) ≡ s
  roster_set = ap set_of roster_ids ∙ set-held s r.set

  pub roster_places : record_places (peers_of (held s) rs) ≡ rs
  unfolding record_places
  roster_places =
      let few : length (held s) ≤ length rs = omega (arith, held-few s r.set, r.long) in
      let n : length (peers_of (held s) rs) ≡ s.len = sym (length_ids (peers_of (held s) rs)) ∙ ap length roster_ids ∙ length-held s r.set in
      rw (n, records-peers (held s) rs few, length-held s r.set) (each_tail unused_each unused_record unused_is 64 s.len rs r.long r.clear)

module _ (ps : List Peer) (s : R.Set (ids ps)) where
  pub peers_roster : Rostered (set_of (ids ps)) (record_places ps)
  unfolding set_of record_places
  peers_roster =
      let few : length ps ≤ 64 = omega (arith, s.few, length_ids ps) in
      record {
        set = ids_set (ids ps) s;
        long = padded_long unused_record 64 (length ps) (records_of ps) (length-records ps) few;
        clear = each-clear unused_each unused_record is_unused_lem (64 - length ps) (length (ids ps)) (records_of ps) (length-records ps ∙ sym (length_ids ps));
      }

  pub peers-back : peers_of (held (set_of (ids ps))) (record_places ps) ≡ ps
  unfolding record_places
  peers-back = rw (held-set (ids ps) s.few) (peers-records ps (replicate (64 - length ps) unused_record))

-- ** Trackers

pub record Formed (t : Tracker) : Type 0 where
  pub conf : conf_well_formed t.conf ≡ true
  pub ids : well_formed t.ids ≡ true
  pub long : length t.records ≡ 64
  pub clear : all_unused (drop t.ids.len t.records) ≡ true

pub tracker_parts : (t : Tracker) → tracker_well_formed t ≡ true → Formed t
unfolding tracker_well_formed
tracker_parts t h =
    let a : Bool = conf_well_formed t.conf in
    let b : Bool = well_formed t.ids in
    let c : Bool = eqb (length t.records) 64 in
    let d : Bool = all_unused (drop t.ids.len t.records) in
    let abc : a && b && c ≡ true = and_left (a && b && c) d h in
    let ab : a && b ≡ true = and_left (a && b) c abc in
    record {
      conf = and_left a b ab;
      ids = and_right a b ab;
      long = eqb-true (length t.records) 64 (and_right (a && b) c abc);
      clear = and_right (a && b && c) d h;
    }

pub parts_tracker : (t : Tracker) → Formed t → tracker_well_formed t ≡ true
unfolding tracker_well_formed
parts_tracker t f = rw (f.conf, f.ids, eq-eqb _ _ f.long, f.clear)

module _ (t : Tracker) (w : tracker_well_formed t ≡ true) where
  pub rostered : Rostered t.ids t.records
  rostered =
      let f : Formed t = tracker_parts t w in
      record { set = f.ids; long = f.long; clear = f.clear }

  pub tracked-ids : ids (state_of t).peers ≡ held t.ids
  tracked-ids = roster_ids rostered

  pub unit_tracker : tracker_of (state_of t) ≡ t
  unit_tracker =
      let f : Formed t = tracker_parts t w in
      rw (unit_conf t.conf f.conf, roster_set rostered, roster_places rostered)

  pub tracker_formed : formed (state_of t) ≡ true
  tracker_formed =
      let f : Formed t = tracker_parts t w in
      of-whole (state_of t) (record { sets = sets_of (conf_of t.conf) (conf-formed t.conf f.conf); tracked = rw tracked-ids (set-ids t.ids f.ids) })

module _ (s : State) (w : formed s ≡ true) where
  pub state-back : state_of (tracker_of s) ≡ s
  state-back =
      let h : R.Whole s = whole_of s w in
      rw (conf-back s.conf (of-sets s.conf h.sets), peers-back s.peers h.tracked)

  pub tracker_well : tracker_well_formed (tracker_of s) ≡ true
  tracker_well =
      let h : R.Whole s = whole_of s w in
      let r : Rostered (set_of (ids s.peers)) (record_places s.peers) = peers_roster s.peers h.tracked in
      parts_tracker (tracker_of s) (record { conf = conf_well s.conf (of-sets s.conf h.sets); ids = r.set; long = r.long; clear = r.clear })
