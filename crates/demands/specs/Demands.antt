-- The demands as statements about trackers; proofs/Theorems.antt proves them. Assumes nothing.
use Rattle.std.specs.Prelude.{ℕ, ◌-◌, ◌≤◌, ◌≡◌, Bool, true, false, List, [], ◌∷◌, eqb, length}
use Rattle.progress.specs.Record.{fresh_record}
use Rattle.rules.specs.Ids.{memb}
use Rattle.rules.specs.State.{fresh, members}
use Rattle.rules.specs.Answers.{fault}
use Rattle.rules.specs.Table.{places_of, places_in}
use Rattle.rules.specs.Calls.{gone, leaving, removals}
use Rattle.rules.specs.Boxes.{found, record_of, replay, events}
use Rattle.rules.specs.Restore.{restore_steps}
use Rattle.rules.specs.Sequences.{in_turn}
use Rattle.rules.specs.Idle.{enter_works, simple_works}
use Rattle.rules.specs.Unplug.{quick, straight}
use Rattle.idset.specs.Set.{held}
use Rattle.idset.specs.declared.IdSet.{IdSet}
use Rattle.tracker.specs.Bridge.{change_log_of, conf_of, configuration_of, lists_of, log_of, peers_of, state_of, tracker_of}
use Rattle.tracker.specs.Apply.{verdict_of}
use Rattle.tracker.specs.ConfStates.{written_of}
use Rattle.tracker.specs.Form.{tracker_well_formed}
use Rattle.tracker.specs.declared.ChangeLog.{ChangeLog}
use Rattle.tracker.specs.declared.ConfState.{ConfState}
use Rattle.tracker.specs.declared.Tracker.{Tracker}
use Rattle.tracker.specs.Apply.{Outcome}
use Rattle.invariants.specs.Check.{in_order_of}
use Rattle.changes.specs.Pending.{tracked_in}
use Rattle.changer.specs.Before.{may_enter, may_simple}
use Rattle.changer.specs.Stages.{carried_in, entering_in, leaving_in, pending_in, with_auto_in}
use Rattle.changer.specs.Calls.{enter_answer, leave_answer, simple_answer, unplug_of}
use Rattle.changer.specs.Calls.{Answer}
use Rattle.restore.specs.Restore.{applied_to, restore_of, step_by_step_of}
use Rattle.demands.specs.Sequences.{Call, after_calls, deeds, deeds_of, box_in, restore_call, step_by_step_call}

-- Demand 3. After the calls cs, made from t: the state is in order; "the tracked boxes are exactly the members"; a box's standing tells in which
-- sets it is; "each box's standing and record are what a plain replay of the accepted changes naming that box, with each enter and leave, gives".
pub record Kept (t : Tracker) (cs : List Call) : Type 0 where
  pub ordered : in_order_of (after_calls t cs) ≡ true
  pub tracked : (x : ℕ) → memb x (held (after_calls t cs).ids) ≡ memb x (members (conf_of (after_calls t cs).conf))
  pub standing : (x : ℕ) → places_in (memb x (held (after_calls t cs).ids)) (conf_of (after_calls t cs).conf) x ≡ places_of (box_in (after_calls t cs) x).standing
  pub boxes : (x : ℕ) → box_in (after_calls t cs) x ≡ replay (events t.max_inflight x (deeds t cs)) (box_in t x)

-- Demand 2's last sentence, of the tracker t: written out, and restored to `Tracker::new(l)` with `next_idx` n, it "comes back the same", every box
-- with a fresh record, `max_inflight` still l; and by either name of restore.
pub record ComesBack (t : Tracker) (l n : ℕ) : Type 0 where
  pub written : (written_of t).number ≡ 0
  pub accepted : (restore_of (tracker_of (fresh l)) (written_of t).conf_state n).number ≡ 0
  pub same : (restore_of (tracker_of (fresh l)) (written_of t).conf_state n).tracker.conf ≡ t.conf
  pub tracked : (restore_of (tracker_of (fresh l)) (written_of t).conf_state n).tracker.ids ≡ t.ids
  pub records : (x : ℕ) → memb x (held t.ids) ≡ true
      → record_of x (peers_of (held t.ids) (restore_of (tracker_of (fresh l)) (written_of t).conf_state n).tracker.records) ≡ found (fresh_record n l)
  pub inflight : (restore_of (tracker_of (fresh l)) (written_of t).conf_state n).tracker.max_inflight ≡ l
  pub either_name : step_by_step_of (tracker_of (fresh l)) (written_of t).conf_state n ≡ restore_of (tracker_of (fresh l)) (written_of t).conf_state n

-- Document 02, h), "So does the empty configuration", of a tracker t with that configuration, boxes that are tracked only included: written out, and
-- restored to `Tracker::new(l)`, it comes back, by either name of restore. What is left is `Tracker::new(l)`: no list that is written holds a box that is
-- tracked only, so none is tracked.
pub record EmptyComesBack (t : Tracker) (l n : ℕ) : Type 0 where
  pub written : (written_of t).number ≡ 0
  pub accepted : (restore_of (tracker_of (fresh l)) (written_of t).conf_state n).number ≡ 0
  pub same : (restore_of (tracker_of (fresh l)) (written_of t).conf_state n).tracker.conf ≡ t.conf
  pub left : (restore_of (tracker_of (fresh l)) (written_of t).conf_state n).tracker ≡ tracker_of (fresh l)
  pub either_name : step_by_step_of (tracker_of (fresh l)) (written_of t).conf_state n ≡ restore_of (tracker_of (fresh l)) (written_of t).conf_state n

-- Demand 3, "apply each accepted answer at once to the state it was asked of": of any tracker t, in order or not, an answer with number 0 is applied with
-- number 0, whatever the `next_idx`.
pub record AcceptedIsApplied (t : Tracker) : Type 0 where
  pub simple : (ids kinds : List ℕ) (n : ℕ) → (simple_answer t ids kinds).number ≡ 0 → (applied_to t (simple_answer t ids kinds) n).number ≡ 0
  pub enter : (auto : Bool) (ids kinds : List ℕ) (n : ℕ) → (enter_answer t auto ids kinds).number ≡ 0 → (applied_to t (enter_answer t auto ids kinds) n).number ≡ 0
  pub leave : (n : ℕ) → (leave_answer t).number ≡ 0 → (applied_to t (leave_answer t) n).number ≡ 0

-- The check again: changer.rs asks its view of the base ids, the code a copy of the tracked ids with the log over them. Every id x is in the copy just where
-- the view over the same ids, with the log and its count, answers that it is tracked.
abbrev pub CopyIsView : IdSet → ChangeLog → Type 0
CopyIsView tracked log = (x : ℕ) → memb x (held (pending_in (log_of log) tracked)) ≡ tracked_in (held tracked) log.count log x

-- So it is of each call of t that comes to the check again: past the tests before, and with the list carried out and a voter left. A leave has no list,
-- and of it only well formed is asked.
pub record CopyIsTheView (t : Tracker) : Type 0 where
  pub simple : (ids kinds : List ℕ) → (may_simple t ids kinds).number ≡ 0 → (carried_in t.ids t.conf ids kinds).number ≡ 0
      → CopyIsView t.ids (carried_in t.ids t.conf ids kinds).log
  pub enter : (auto : Bool) (ids kinds : List ℕ) → (may_enter t ids kinds).number ≡ 0 → (carried_in t.ids (entering_in t.conf) ids kinds).number ≡ 0
      → CopyIsView t.ids (with_auto_in auto (carried_in t.ids (entering_in t.conf) ids kinds)).log
  pub leave : tracker_well_formed t ≡ true → CopyIsView t.ids (leaving_in t.conf).log

-- Demand 1: "A refused call gives the number .., with state and lent memory untouched." Document 02, b): "a refused call gives 0".
abbrev pub AnswerUntouched : Tracker → Answer → Type 0
AnswerUntouched t a = eqb a.number 0 ≡ false → (a.conf ≡ t.conf) × (a.log ≡ change_log_of []) × (a.idle ≡ 0)

abbrev pub StateUntouched : Tracker → Outcome → Type 0
StateUntouched t o = eqb o.number 0 ≡ false → o.tracker ≡ t

-- Document 02, b), of the calls made of t: what an accepted list is answered as `idle` is its length less the entries that moved their id or
-- logged, and those are no more than it is long. A leave has no list.
pub record Counted (t : Tracker) : Type 0 where
  pub simple : (ids kinds : List ℕ) → (simple_answer t ids kinds).number ≡ 0
      → ((simple_answer t ids kinds).idle ≡ length ids - simple_works (state_of t) ids kinds) × (simple_works (state_of t) ids kinds ≤ length ids)
  pub enter : (auto : Bool) (ids kinds : List ℕ) → (enter_answer t auto ids kinds).number ≡ 0
      → ((enter_answer t auto ids kinds).idle ≡ length ids - enter_works (state_of t) auto ids kinds) × (enter_works (state_of t) auto ids kinds ≤ length ids)
  pub leave : (leave_answer t).idle ≡ 0

-- Document 02, h), "from every joint state in order, leaving is accepted", of the joint tracker t: staged ids join learners, who was outgoing only
-- is removed, and the answer is applied with any `next_idx`.
pub record CanBeLeft (t : Tracker) : Type 0 where
  pub answer : leave_answer t
      ≡ record { number = 0; id = 0; conf = configuration_of (leaving (conf_of t.conf)); log = change_log_of (removals (gone (conf_of t.conf))); idle = 0 }
  pub applied : (n : ℕ) → (applied_to t (leave_answer t) n).number ≡ 0

-- Document 02, g), of a restore asked of t: it says what restore_step_by_step says, "the same number and id".
pub record Whole (t : Tracker) (cs : ConfState) (n : ℕ) : Type 0 where
  pub number : (restore_of t cs n).number ≡ (step_by_step_of t cs n).number
  pub id : (restore_of t cs n).id ≡ (step_by_step_of t cs n).id
  -- refused, it "returns the state it was given" and "counts no steps"
  pub refused : eqb (restore_of t cs n).number 0 ≡ false → (restore_of t cs n).tracker ≡ t
  pub no_step : eqb (restore_of t cs n).number 0 ≡ false → deeds_of t (restore_call cs n) ≡ []
  -- accepted, it is restore_step_by_step, and counts its steps
  pub accepted : (restore_of t cs n).number ≡ 0 → restore_of t cs n ≡ step_by_step_of t cs n
  pub its_steps : (restore_of t cs n).number ≡ 0 → deeds_of t (restore_call cs n) ≡ in_turn n (restore_steps (lists_of cs))
  pub same-steps : (restore_of t cs n).number ≡ 0 → deeds_of t (step_by_step_call cs n) ≡ in_turn n (restore_steps (lists_of cs))

-- Document 02, d), of the box x and the tracker t: what is answered is the number and id of `simple` with that single removal, 1 being RemoveNode.
pub record Unplugged (t : Tracker) (x : ℕ) : Type 0 where
  pub number : (unplug_of t x).number ≡ (simple_answer t (x ∷ []) (1 ∷ [])).number
  pub id : (unplug_of t x).id ≡ (simple_answer t (x ∷ []) (1 ∷ [])).id
  -- of a state in order it is told by "joint or not, and whether another incoming voter exists"
  pub in_order : in_order_of t ≡ true → unplug_of t x ≡ verdict_of (quick (state_of t) x)
  -- of any well-formed one by these and the check, and of a malformed one it is 1
  pub well_formed : tracker_well_formed t ≡ true → unplug_of t x ≡ verdict_of (straight (state_of t) x)
  pub malformed : tracker_well_formed t ≡ false → unplug_of t x ≡ verdict_of (fault 1 0)
