-- The structs and the rules' values, both ways: a typed struct (Typed.antt) holds numbers below 2 ^ 64 (TypedRules.antt), and such numbers that fit
-- make a typed struct. Assumes nothing.
use Prim.Native.Nat.{ℕ, zero, suc, ◌-◌, ◌≤◌}
use mathlib.Core.Path.{◌≡◌, refl, ap}
use mathlib.Core.Bool.{true}
use mathlib.Core.List.{List, [], ◌∷◌, ◌++◌}
use native.Mathlib.Omega.{arith}
use lib.ListN.{length, take, replicate}
use Rattle.progress.specs.declared.Progress.{Progress}
use Rattle.progress.specs.Record.{unused_record}
use Rattle.rules.specs.State.{Conf, Entry, Peer, State, formed, ids}
use Rattle.rules.specs.Apply.{written}
use Rattle.rules.proofs.Formed as forms
use Rattle.rules.proofs.Formed.{whole_of}
use Rattle.idset.specs.Set.{held, set_of}
use Rattle.idset.specs.declared.IdSet.{IdSet}
use Rattle.idset.proofs.Padded.{padded_long}
use Rattle.tracker.specs.Bridge.{blank, change_log_of, conf_of, conf_state_of, configuration_of, entries_of, entry, list_in, lists_of, log_of, map_changes_of, peers_of, record_places, records_of, state_of, tracker_of}
use Rattle.tracker.specs.declared.Configuration.{Configuration}
use Rattle.tracker.specs.declared.MapChangeType.{MapChangeType}
use Rattle.tracker.specs.declared.MapChangeType.TheVariants.{Add, Remove}
use Rattle.tracker.specs.declared.MapChange.{MapChange}
use Rattle.tracker.specs.declared.ChangeLog.{ChangeLog}
use Rattle.tracker.specs.declared.Tracker.{Tracker}
use Rattle.tracker.specs.declared.ConfState.{ConfState}
use Rattle.tracker.proofs.Peers.{length_ids, length-records}
use Rattle.calls.specs.Call.{no_lists}
use Rattle.calls.proofs.Typed.{U64, Each, none, more, each_append, ArrayOf, TypedSet, TypedList, TypedConf, TypedRecord, TypedState, TypedEntry, TypedLog, TypedConfState}
use Rattle.calls.proofs.TypedRules.{U64Conf, U64Entry, U64Lists, U64Peer, U64State, adding, removing}

-- ** Arrays

pub each_take : {A : Type 0} {P : A → Type 0} {xs : List A} (n : ℕ) → Each P xs → Each P (take n xs)
each_take zero p = none
each_take (suc n) none = none
each_take (suc n) (more h p) = more h (each_take n p)

each_same : {A : Type 0} (P : A → Type 0) (n : ℕ) {x : A} → P x → Each P (replicate n x)
each_same P zero h = none
each_same P (suc n) h = more h (each_same P n h)

-- the places that are left hold x
padded : {A : Type 0} (P : A → Type 0) (m n : ℕ) (x : A) {xs : List A} → P x → Each P xs → length xs ≡ n → n ≤ m → ArrayOf m P (xs ++ replicate (m - n) x)
padded P m n x {xs} h p e k = record { places = padded_long x m n xs e k; each = each_append p (each_same P (m - n) h) }

-- ** From the structs to the rules

held_u64 : {s : IdSet} → TypedSet s → Each U64 (held s)
held_u64 {s} z = each_take s.len z.ids.each

pub conf_u64 : {c : Configuration} → TypedConf c → U64Conf (conf_of c)
conf_u64 z = record { incoming = held_u64 z.incoming; outgoing = held_u64 z.outgoing; learners = held_u64 z.learners; staged = held_u64 z.learners_next }

peers_u64 : {xs : List ℕ} {rs : List Progress} → Each U64 xs → Each TypedRecord rs → Each U64Peer (peers_of xs rs)
unfolding peers_of
peers_u64 none q = none
peers_u64 (more h p) none = none
peers_u64 (more h p) (more k q) = more (record { id = h; progress = k }) (peers_u64 p q)

pub state_u64 : {t : Tracker} → TypedState t → U64State (state_of t)
state_u64 z = record { conf = conf_u64 z.conf; peers = peers_u64 (held_u64 z.ids) z.records.each; max_inflight = z.max_inflight }

entries_u64 : {es : List MapChange} → Each TypedEntry es → Each U64Entry (entries_of es)
unfolding entries_of
entries_u64 none = none
entries_u64 {es = e ∷ es} (more h p) = more (go e.kind) (entries_u64 p)
  where
    go : (k : MapChangeType) → U64Entry (entry k e.id)
    go Add = adding h.id
    go Remove = removing h.id

pub log_u64 : {l : ChangeLog} → TypedLog l → Each U64Entry (log_of l)
log_u64 {l} z = entries_u64 (each_take l.count z.entries.each)

pub lists_u64 : {c : ConfState} → TypedConfState c → U64Lists (lists_of c)
lists_u64 {c} z =
    record {
      voters = each_take c.voters.len z.voters.ids.each;
      learners = each_take c.learners.len z.learners.ids.each;
      voters_outgoing = each_take c.voters_outgoing.len z.voters_outgoing.ids.each;
      learners_next = each_take c.learners_next.len z.learners_next.ids.each;
    }

-- ** And back

set-made : {xs : List ℕ} → Each U64 xs → length xs ≤ 64 → TypedSet (set_of xs)
unfolding set_of
set-made {xs} p h = record { ids = padded U64 64 (length xs) 0 (omega arith) p refl h; len = omega arith }

list_made : {s : IdSet} → TypedSet s → TypedList (list_in s)
list_made z = record { ids = z.ids; len = z.len }

pub conf-made : {c : Conf} → U64Conf c → forms.Sets c → TypedConf (configuration_of c)
conf-made z f =
    record {
      incoming = set-made z.incoming f.incoming.few;
      outgoing = set-made z.outgoing f.outgoing.few;
      learners = set-made z.learners f.learners.few;
      learners_next = set-made z.staged f.staged.few;
    }

pub lists-made : {c : Conf} → U64Conf c → forms.Sets c → TypedConfState (conf_state_of (written c))
lists-made z f =
    record {
      voters = list_made (set-made z.incoming f.incoming.few);
      learners = list_made (set-made z.learners f.learners.few);
      voters_outgoing = list_made (set-made z.outgoing f.outgoing.few);
      learners_next = list_made (set-made z.staged f.staged.few);
    }

pub no_lists_lem : TypedConfState no_lists
no_lists_lem = record { voters = no_list_lem; learners = no_list_lem; voters_outgoing = no_list_lem; learners_next = no_list_lem }
  where
    no_list_lem : TypedList (list_in (set_of []))
    no_list_lem = list_made (set-made none (omega arith))

ids_u64 : {ps : List Peer} → Each U64Peer ps → Each U64 (ids ps)
unfolding ids
ids_u64 none = none
ids_u64 (more h p) = more h.id (ids_u64 p)

records_u64 : {ps : List Peer} → Each U64Peer ps → Each TypedRecord (records_of ps)
unfolding records_of
records_u64 none = none
records_u64 (more h p) = more h.progress (records_u64 p)

unused_typed : TypedRecord unused_record
unused_typed =
    record {
      matched = omega arith;
      next_idx = omega arith;
      pending_snapshot = omega arith;
      pending_request_snapshot = omega arith;
      max_inflight = omega arith;
      commit_group_id = omega arith;
      committed_index = omega arith;
    }

pub state-made : {s : State} → U64State s → formed s ≡ true → TypedState (tracker_of s)
unfolding record_places
state-made {s} z f =
    let w = whole_of s f in
    record {
      conf = conf-made z.conf w.sets;
      ids = set-made (ids_u64 z.peers) w.tracked.few;
      records = padded TypedRecord 64 (length s.peers) unused_record unused_typed (records_u64 z.peers) (length-records s.peers) (omega (arith, w.tracked.few, length_ids s.peers));
      max_inflight = z.max_inflight;
    }

changes-made : {es : List Entry} → Each U64Entry es → Each TypedEntry (map_changes_of es)
unfolding map_changes_of
changes-made none = none
changes-made (more (adding h) p) = more (record { id = h }) (changes-made p)
changes-made (more (removing h) p) = more (record { id = h }) (changes-made p)

length-made : (es : List Entry) → length (map_changes_of es) ≡ length es
unfolding map_changes_of
length-made [] = refl
length-made (e ∷ es) = ap suc (length-made es)

pub log-made : {es : List Entry} → Each U64Entry es → length es ≤ 256 → TypedLog (change_log_of es)
unfolding change_log_of
log-made {es} p h = record { entries = padded TypedEntry 256 (length es) blank (record { id = omega arith }) (changes-made p) (length-made es) h; count = omega arith }
