-- The refusal numbers on trackers and through the entries: document 01, "Refusal numbers". 13 is never given; and number and id are those of the first
-- test that refuses, the tests standing in the paper's order. proofs/Theorems.antt proves both. Assumes nothing.
use Rattle.std.specs.Prelude.{ℕ, ◌≡◌, refl, Bool, false, ◌||◌, not, cond, List, [], ◌∷◌, eqb, leb, ltb, length, replicate, take}
use Rattle.progress.specs.Record.{is_unused}
use Rattle.rules.specs.Ids.{above, ascending, insert_all, insert_id, is_empty, memb, minus, remove_id}
use Rattle.rules.specs.State.{State, ids}
use Rattle.rules.specs.Answers.{Verdict, ◌▸◌, each, fault, ok, refuse}
use Rattle.rules.specs.Check.{check, is_tracked, joint}
use Rattle.rules.specs.Table.{standing_in, table}
use Rattle.rules.specs.Changes.{Done, Work, change, changes, done, full, last_says, pending, pending_tracked}
use Rattle.rules.specs.Calls.{difference, entering, gone, leaving, list_of, removals, start, with_auto}
use Rattle.rules.specs.Apply.{room}
use Rattle.rules.specs.Restore.{restore_steps, run}
use Rattle.rules.specs.Unplug.{verdict_in, voter_left}
use Rattle.rules.specs.Rows.{conf, lists, of}
use Rattle.rules.specs.Cases.{m1, s2, sj, up_to}
use Rattle.idset.specs.Places.{zeros}
use Rattle.idset.specs.Set.{held, set_of, well_formed}
use Rattle.idset.specs.declared.IdSet.{IdSet}
use Rattle.tracker.specs.Apply as tracker
use Rattle.tracker.specs.Apply.{apply_of, id_of, number_of, verdict_of}
use Rattle.tracker.specs.Bridge.{conf_of, conf_state_of, lists_of, log_of, peers_of, record_places, records_of, state_of, tracker_of}
use Rattle.tracker.specs.ConfStates.{written_of}
use Rattle.tracker.specs.Form.{all_unused, conf_well_formed, log_well_formed, tracker_well_formed}
use Rattle.tracker.specs.declared.ChangeLog.{ChangeLog}
use Rattle.tracker.specs.declared.ConfState.{ConfState}
use Rattle.tracker.specs.declared.Configuration.{Configuration}
use Rattle.tracker.specs.Apply.{Outcome}
use Rattle.tracker.specs.declared.Tracker.{Tracker}
use Rattle.tracker.specs.ConfStates.{Written}
use Rattle.invariants.specs.Check.{check_of, check_walk, learners_walk, rest_walk, voters_walk}
use Rattle.changer.specs.Calls.{enter_answer, leave_answer, simple_answer, unplug_of}
use Rattle.changer.specs.Calls.{Answer}
use Rattle.restore.specs.Restore.{applied_to, restore_of, step_by_step_of, too_long, whole_of}
use Rattle.unplug.specs.Unplugs.{state_in, told_of}
use Rattle.unplug.specs.Words.{at, flag}
use Rattle.unplug.specs.Unplugs.{Told}
use Rattle.listing.specs.Script as script
use Rattle.listing.specs.Sessions.{answer_in}
use Rattle.listing.specs.declared.Session.{Session}
use Rattle.calls.specs.Layout.{conf_at, conf_state_at, log_at, state_at, word}
use Rattle.calls.specs.Call.{ids_in, kinds_in, reply_to}
use Rattle.calls.specs.Unplugs.{unplug_answer, unplug_leaves}
use Rattle.calls.specs.declared.Reply.{Reply}

-- ** 13

-- "Number 13 is kept for the Rust's message but never given, since 11 or 12 comes first; that is proved."
abbrev pub Not13 : ℕ → Type 0
Not13 n = eqb n 13 ≡ false

-- The calls and the entries that answer a number, a line for each.
pub record Never13 : Type 0 where
  -- invariants: check; check_invariants of any ids and any configuration, malformed ones included, and its parts of any lists
  pub check : (t : Tracker) → Not13 (check_of t).number
  pub check_invariants : (ids : IdSet) (c : Configuration) → Not13 (verdict_of (check_walk (held ids) (conf_of c))).number
  pub check-voters : (tracked incoming outgoing : List ℕ) → Not13 (verdict_of (voters_walk tracked incoming outgoing)).number
  pub check-learners : (tracked incoming outgoing learners : List ℕ) → Not13 (verdict_of (learners_walk tracked incoming outgoing learners)).number
  pub check-staged : (tracked outgoing staged : List ℕ) (auto : Bool) → Not13 (verdict_of (rest_walk tracked outgoing staged auto)).number
  -- changer
  pub simple : (t : Tracker) (ids kinds : List ℕ) → Not13 (simple_answer t ids kinds).number
  pub enter : (t : Tracker) (auto : Bool) (ids kinds : List ℕ) → Not13 (enter_answer t auto ids kinds).number
  pub leave : (t : Tracker) → Not13 (leave_answer t).number
  -- tracker: apply_conf; to_conf_state
  pub apply : (t : Tracker) (c : Configuration) (log : ChangeLog) (n : ℕ) → Not13 (apply_of t c log n).number
  pub to-conf-state : (t : Tracker) → Not13 (written_of t).number
  -- restore
  pub restore : (t : Tracker) (cs : ConfState) (n : ℕ) → Not13 (restore_of t cs n).number
  pub restore-step-by-step : (t : Tracker) (cs : ConfState) (n : ℕ) → Not13 (step_by_step_of t cs n).number
  -- unplug, of a tracker and of a state's words
  pub unplug-of : (t : Tracker) (x : ℕ) → Not13 (unplug_of t x).number
  pub unplug : (state : List ℕ) (x : ℕ) → Not13 (told_of state x).number
  -- these hand on a number: 13 only where they were given 13
  pub refused : (t : Tracker) (m x : ℕ) → Not13 m → Not13 (tracker.refused_of t m x).number
  pub apply-answer : (t : Tracker) (a : Answer) (n : ℕ) → Not13 a.number → Not13 (applied_to t a n).number
  pub whole : (t : Tracker) (o : Outcome) → Not13 o.number → Not13 (whole_of t o).number
  -- the entries: the number in a reply, whatever the request; the word in front of a verdict that was written; each turn of a replay, and each line of a
  -- listing
  pub dimecandle_call : (request : List ℕ) → Not13 (reply_to request).number
  pub dimecandle_unplug : (state verdict : List ℕ) (x : ℕ) → unplug_answer state (length verdict) ≡ 0 → Not13 (at (unplug_leaves state x verdict) 0)
  pub replay_turn : (z : Session) (kind : ℕ) → Not13 (answer_in z kind).number
  pub replay-line : (z : script.Session) (kind : ℕ) → Not13 (number_of (verdict_in (script.answer_to z kind)))

-- ** Tests in a row

-- the first that refuses, else ok
unfoldable pub first_of : List Verdict → Verdict
first_of [] = ok
first_of (v ∷ vs) = v ▸ first_of vs

-- 16, "an untracked id to be tracked while 64 are": where a list stopped
abbrev pub no_room : Done → Verdict
no_room (done w) = ok
no_room (full x) = fault 16 x

-- the work at the end of a list that was carried out; of one that was not it is b, but then 16 came first, so that any work would do
abbrev pub end_of : Done → Work → Work
end_of (done w) b = w
end_of (full x) b = b

-- "Order: 1, 2, 3; then 4, 5 or 6; the check; 15; the changes, stopping at the first 16; 17; 18; the check again." Of each call those that it has. The
-- first, 1, is of the structs themselves, their unused places included; the others are the rules' own, of what the structs hold.

unfoldable pub simple_tests : Tracker → List ℕ → List ℕ → List Verdict
simple_tests t xs ks =
    let s : State = state_of t in
    let d : Done = changes (ids s.peers) (list_of xs ks) (start s.conf) in
    let w : Work = end_of d (start s.conf) in
    -- "malformed state, configuration or log"
    refuse (not (tracker_well_formed t)) 1 0
    -- "a list too long, or ids and kinds of unequal length"
    ∷ refuse (not (eqb (length xs) (length ks)) || ltb 256 (length xs)) 2 0
    -- "a kind above 2"
    ∷ each (λ k. refuse (ltb 2 k) 3 0) ks
    -- "`simple` on a joint one"
    ∷ refuse (joint s.conf) 6 0
    -- the check
    ∷ check (is_tracked s) s.conf
    -- the changes, stopping at the first 16
    ∷ no_room d
    -- "`simple` or `enter_joint`, no incoming voter after the changes"
    ∷ refuse (is_empty w.conf.incoming) 17 0
    -- "`simple`, incoming differs by two ids or more"
    ∷ refuse (leb 2 (difference w.conf.incoming s.conf.incoming)) 18 0
    -- the check again
    ∷ check (pending_tracked (ids s.peers) w.log) w.conf
    ∷ []

unfoldable pub enter_tests : Tracker → Bool → List ℕ → List ℕ → List Verdict
enter_tests t auto xs ks =
    let s : State = state_of t in
    let d : Done = changes (ids s.peers) (list_of xs ks) (start (entering s.conf)) in
    let w : Work = end_of d (start (entering s.conf)) in
    -- "malformed state, configuration or log"
    refuse (not (tracker_well_formed t)) 1 0
    -- "a list too long, or ids and kinds of unequal length"
    ∷ refuse (not (eqb (length xs) (length ks)) || ltb 256 (length xs)) 2 0
    -- "a kind above 2"
    ∷ each (λ k. refuse (ltb 2 k) 3 0) ks
    -- "`enter_joint` on a joint configuration"
    ∷ refuse (joint s.conf) 4 0
    -- the check
    ∷ check (is_tracked s) s.conf
    -- "`enter_joint` with no incoming voter"
    ∷ refuse (is_empty s.conf.incoming) 15 0
    -- the changes, stopping at the first 16
    ∷ no_room d
    -- "`simple` or `enter_joint`, no incoming voter after the changes"
    ∷ refuse (is_empty w.conf.incoming) 17 0
    -- the check again, with `auto_leave` as asked
    ∷ check (pending_tracked (ids s.peers) w.log) (with_auto auto w.conf)
    ∷ []

unfoldable pub leave_tests : Tracker → List Verdict
leave_tests t =
    let s : State = state_of t in
    -- "malformed state, configuration or log"
    refuse (not (tracker_well_formed t)) 1 0
    -- "`leave_joint` on a non-joint one"
    ∷ refuse (not (joint s.conf)) 5 0
    -- the check
    ∷ check (is_tracked s) s.conf
    -- the check again, of the configuration once it is left
    ∷ check (pending_tracked (ids s.peers) (removals (gone s.conf))) (leaving s.conf)
    ∷ []

-- `apply_conf`: "It gives 1, or 16 if an Add would need a 65th tracked id"
unfoldable pub apply_tests : Tracker → Configuration → ChangeLog → List Verdict
apply_tests t c log =
    -- "malformed state, configuration or log"
    refuse (not (tracker_well_formed t) || not (conf_well_formed c) || not (log_well_formed log)) 1 0
    -- 16, of the log's entries in turn
    ∷ room (log_of log) (ids (state_of t).peers)
    ∷ []

-- `restore` by either name: "1, 2 first"
unfoldable pub restore_tests : Tracker → ConfState → ℕ → List Verdict
restore_tests t cs n =
    -- "malformed state, configuration or log"
    refuse (not (tracker_well_formed t)) 1 0
    -- "a list too long"
    ∷ refuse (too_long cs) 2 0
    -- what the first refused step says, if one is
    ∷ (run n (state_of t) (restore_steps (lists_of cs))).verdict
    ∷ []

-- `to_conf_state`: "A malformed state gets 1"
abbrev pub write_tests : Tracker → List Verdict
write_tests t = refuse (not (tracker_well_formed t)) 1 0 ∷ []

-- `check`
unfoldable pub check_tests : Tracker → List Verdict
check_tests t =
    -- "malformed state, configuration or log"
    refuse (not (tracker_well_formed t)) 1 0
    -- the check
    ∷ check (is_tracked (state_of t)) (conf_of t.conf)
    ∷ []

-- of `simple` with the removal of x alone (document 02, d): 2, 3, 16, 18 and the check again never refuse it
unfoldable pub unplug_tests : Tracker → ℕ → List Verdict
unplug_tests t x =
    -- "malformed state, configuration or log"
    refuse (not (tracker_well_formed t)) 1 0
    -- "`simple` on a joint one"
    ∷ refuse (joint (conf_of t.conf)) 6 0
    -- the check
    ∷ check (is_tracked (state_of t)) (conf_of t.conf)
    -- "`simple` or `enter_joint`, no incoming voter after the changes": none but x
    ∷ refuse (not (voter_left x (conf_of t.conf).incoming)) 17 0
    ∷ []

-- ** What is told

-- number and id of an answer, of what was written, of a reply, of what is told of a state in words
abbrev pub told : Answer → tracker.Verdict
told a = record { number = a.number; id = a.id }

abbrev pub told_written : Written → tracker.Verdict
told_written w = record { number = w.number; id = w.id }

abbrev pub told_reply : Reply → tracker.Verdict
told_reply r = record { number = r.number; id = r.id }

abbrev pub told_words : Told → tracker.Verdict
told_words r = record { number = r.number; id = r.id }

-- Each call of t tells the first of its tests that refuses.
pub record FirstTold (t : Tracker) : Type 0 where
  pub check : check_of t ≡ verdict_of (first_of (check_tests t))
  pub simple : (ids kinds : List ℕ) → told (simple_answer t ids kinds) ≡ verdict_of (first_of (simple_tests t ids kinds))
  pub enter : (auto : Bool) (ids kinds : List ℕ) → told (enter_answer t auto ids kinds) ≡ verdict_of (first_of (enter_tests t auto ids kinds))
  pub leave : told (leave_answer t) ≡ verdict_of (first_of (leave_tests t))
  pub apply : (c : Configuration) (log : ChangeLog) (n : ℕ) → tracker.verdict_in (apply_of t c log n) ≡ verdict_of (first_of (apply_tests t c log))
  pub to-conf-state : told_written (written_of t) ≡ verdict_of (first_of (write_tests t))
  pub restore : (cs : ConfState) (n : ℕ) → tracker.verdict_in (restore_of t cs n) ≡ verdict_of (first_of (restore_tests t cs n))
  pub restore-step-by-step : (cs : ConfState) (n : ℕ) → tracker.verdict_in (step_by_step_of t cs n) ≡ verdict_of (first_of (restore_tests t cs n))
  pub unplug : (x : ℕ) → unplug_of t x ≡ verdict_of (first_of (unplug_tests t x))

-- the tests of the call that a request asks for, over what it holds; 1, in_order, is a yes or no
unfoldable pub request_tests : List ℕ → List Verdict
request_tests s =
    let t : Tracker = state_at s 1 in
    cond (eqb (word s 0) 0) (check_tests t)
    (cond (eqb (word s 0) 1) []
    (cond (eqb (word s 0) 2) (simple_tests t (ids_in s) (kinds_in s))
    (cond (eqb (word s 0) 3) (enter_tests t (flag (word s 968)) (ids_in s) (kinds_in s))
    (cond (eqb (word s 0) 4) (leave_tests t)
    (cond (eqb (word s 0) 5) (apply_tests t (conf_at s 1492) (log_at s 1753))
    (cond (eqb (word s 0) 6) (write_tests t)
    (restore_tests t (conf_state_at s 2266) (word s 969))))))))

-- the tests of the call that a turn of a replay makes: 3 simple, 6 leave, else enter, 5 with auto leave
unfoldable pub turn_tests : Session → ℕ → List Verdict
turn_tests z kind =
    cond (eqb kind 6) (leave_tests z.tracker)
    (cond (eqb kind 3) (simple_tests z.tracker (take z.len z.ids) (take z.len z.kinds))
    (enter_tests z.tracker (eqb kind 5) (take z.len z.ids) (take z.len z.kinds)))

-- Through the entries: the number and id of a reply; what is told of a state in words, and the two words of a verdict that was written; the answer of a turn.
pub record FirstToldByEntries : Type 0 where
  pub dimecandle_call : (request : List ℕ) → told_reply (reply_to request) ≡ verdict_of (first_of (request_tests request))
  pub unplug : (state : List ℕ) (x : ℕ) → (told_of state x).returned ≡ 0 → told_words (told_of state x) ≡ verdict_of (first_of (unplug_tests (state_in state) x))
  pub dimecandle_unplug : (state verdict : List ℕ) (x : ℕ) → unplug_answer state (length verdict) ≡ 0
      → take 2 (unplug_leaves state x verdict) ≡ number_of (first_of (unplug_tests (state_in state) x)) ∷ id_of (first_of (unplug_tests (state_in state) x)) ∷ []
  pub replay_turn : (z : Session) (kind : ℕ) → told (answer_in z kind) ≡ verdict_of (first_of (turn_tests z kind))

-- ** Two faults at once

-- nothing in any set and nothing tracked, but a 7 in an unused place of incoming
abbrev pub used : Tracker
used =
    record {
      conf = record {
        incoming = record { ids = 7 ∷ replicate 63 0; len = 0 };
        outgoing = set_of [];
        learners = set_of [];
        learners_next = set_of [];
        auto_leave = false;
      };
      ids = set_of [];
      records = record_places [];
      max_inflight = 256;
    }

pub earlier_is_told :
    -- 1 before 2: a set that does not ascend, and lists of unequal length
    (first_of (simple_tests (tracker_of m1) (1 ∷ []) []) ≡ fault 1 0)
    -- 1 before 17, where the lists that are held are those of the fresh state
    × (first_of (simple_tests used [] []) ≡ fault 1 0)
    -- 1 before 2 in a restore
    × (first_of (restore_tests used (conf_state_of (lists (up_to 65 []) [] [] [])) 77) ≡ fault 1 0)
    -- 3 before 6
    × (first_of (simple_tests (tracker_of sj) (1 ∷ []) (3 ∷ [])) ≡ fault 3 0)
    -- 4 before the check: neither voter is tracked
    × (first_of (enter_tests (tracker_of (of [] sj.conf)) false [] []) ≡ fault 4 0)
    -- the check before 15
    × (first_of (enter_tests (tracker_of (of [] (conf [] [] (5 ∷ []) []))) false [] []) ≡ fault 8 5)
    -- 17 before 18
    × (first_of (simple_tests (tracker_of s2) (1 ∷ 2 ∷ []) (1 ∷ 1 ∷ [])) ≡ fault 17 0)
unfolding first_of simple_tests enter_tests restore_tests too_long tracker_well_formed conf_well_formed well_formed zeros all_unused is_unused set_of record_places records_of peers_of ids ascending above memb insert_id insert_all remove_id minus each check changes change table standing_in last_says pending list_of
earlier_is_told = (refl, refl, refl, refl, refl, refl, refl)
