-- The demands' sentences on refused calls and on changes that name other boxes, as statements about trackers, and that two entries give one answer;
-- proofs/Theorems.antt proves them. Assumes nothing.
use Rattle.std.specs.Prelude.{ℕ, ◌+◌, ◌^◌, ◌≤◌, ◌<◌, ◌≡◌, Bool, true, false, List, [], ◌∷◌, ◌++◌, eqb, ltb, length}
use Rattle.progress.specs.Record.{fresh_record}
use Rattle.rules.specs.State.{Change}
use Rattle.rules.specs.Apply.{no_conf_state}
use Rattle.rules.specs.Calls.{list_of}
use Rattle.rules.specs.Restore.{Step, attempt, restore_steps, run}
use Rattle.rules.specs.Boxes.{entered, naming, replay}
use Rattle.tracker.specs.Apply.{apply_of, outcome_of, verdict_in}
use Rattle.tracker.specs.Bridge.{change_log_of, conf_state_of, lists_of, state_of}
use Rattle.tracker.specs.ConfStates.{written_of}
use Rattle.tracker.specs.Form.{tracker_well_formed}
use Rattle.tracker.specs.declared.ChangeLog.{ChangeLog}
use Rattle.tracker.specs.declared.ConfState.{ConfState}
use Rattle.tracker.specs.declared.Configuration.{Configuration}
use Rattle.tracker.specs.Apply.{Outcome}
use Rattle.tracker.specs.declared.Tracker.{Tracker}
use Rattle.tracker.specs.Apply.{Verdict}
use Rattle.changer.specs.Calls.{enter_answer, leave_answer, simple_answer, unplug_of}
use Rattle.changer.specs.Calls.{Answer}
use Rattle.restore.specs.Restore.{applied_to, restore_of, step_by_step_of, steps_of, too_long, whole_of}
use Rattle.listing.specs.Listing.{listing, replay_answer, replay_leaves}
use Rattle.unplug.specs.Words.{at}
use Rattle.unplug.specs.Unplugs.{state_in}
use Rattle.calls.specs.Layout.{state_at, word}
use Rattle.calls.specs.Call.{call_answer, call_leaves, ids_in, kinds_in, reply_to}
use Rattle.calls.specs.Unplugs.{unplug_answer, unplug_leaves}
use Rattle.demands.specs.Sequences.{box_in}
use Rattle.demands.specs.Demands.{AnswerUntouched, StateUntouched}

-- ** Changes that name other boxes

-- The box x of t, and accepted lists applied with `next_idx` n.
pub record OthersAlterNeither (t : Tracker) (n x : ℕ) : Type 0 where
  -- its standing and record are then the replay of the changes that name it
  pub simple : (ids kinds : List ℕ) → (simple_answer t ids kinds).number ≡ 0
      → box_in (applied_to t (simple_answer t ids kinds) n).tracker x ≡ replay (naming (fresh_record n t.max_inflight) x (list_of ids kinds)) (box_in t x)
  pub enter : (auto : Bool) (ids kinds : List ℕ) → (enter_answer t auto ids kinds).number ≡ 0
      → box_in (applied_to t (enter_answer t auto ids kinds) n).tracker x ≡ replay (entered ∷ naming (fresh_record n t.max_inflight) x (list_of ids kinds)) (box_in t x)
  -- of which one that names another box is none, wherever it stands
  pub others : (cs ds : List Change) (c : Change) → eqb c.id x ≡ false
      → naming (fresh_record n t.max_inflight) x (cs ++ (c ∷ ds)) ≡ naming (fresh_record n t.max_inflight) x (cs ++ ds)
  -- so with such a change, of y and of kind k, and without it the box is left the same
  pub simple-same : (xs ys ks ls : List ℕ) (y k : ℕ) → length xs ≡ length ks → eqb y x ≡ false
      → (simple_answer t (xs ++ (y ∷ ys)) (ks ++ (k ∷ ls))).number ≡ 0 → (simple_answer t (xs ++ ys) (ks ++ ls)).number ≡ 0
      → box_in (applied_to t (simple_answer t (xs ++ (y ∷ ys)) (ks ++ (k ∷ ls))) n).tracker x ≡ box_in (applied_to t (simple_answer t (xs ++ ys) (ks ++ ls)) n).tracker x
  pub enter-same : (auto : Bool) (xs ys ks ls : List ℕ) (y k : ℕ) → length xs ≡ length ks → eqb y x ≡ false
      → (enter_answer t auto (xs ++ (y ∷ ys)) (ks ++ (k ∷ ls))).number ≡ 0 → (enter_answer t auto (xs ++ ys) (ks ++ ls)).number ≡ 0
      → box_in (applied_to t (enter_answer t auto (xs ++ (y ∷ ys)) (ks ++ (k ∷ ls))) n).tracker x ≡ box_in (applied_to t (enter_answer t auto (xs ++ ys) (ks ++ ls)) n).tracker x

-- ** Refused calls

-- A restore_step_by_step that a step ends: the steps before it were accepted and leave the tracker that is left; the step, asked of that one, is
-- refused with what restore_step_by_step answers.
pub record Stays (t : Tracker) (cs : ConfState) (n : ℕ) : Type 0 where
  pub before : List Step
  pub step : Step
  pub after : List Step
  pub steps : restore_steps (lists_of cs) ≡ before ++ (step ∷ after)
  pub stay : steps_of t n before ≡ record { number = 0; id = 0; tracker = (step_by_step_of t cs n).tracker }
  pub refused : outcome_of (attempt n (state_of (step_by_step_of t cs n).tracker) step) ≡ step_by_step_of t cs n

-- Every public call that can be refused, made of t.
pub record RefusedUntouched (t : Tracker) : Type 0 where
  -- changer: the configuration given, an empty log and 0
  pub simple : (ids kinds : List ℕ) → AnswerUntouched t (simple_answer t ids kinds)
  pub enter : (auto : Bool) (ids kinds : List ℕ) → AnswerUntouched t (enter_answer t auto ids kinds)
  pub leave : AnswerUntouched t (leave_answer t)
  -- apply_answer, of any answer; apply_conf
  pub apply-answer : (a : Answer) (n : ℕ) → StateUntouched t (applied_to t a n)
  pub apply : (c : Configuration) (log : ChangeLog) (n : ℕ) → StateUntouched t (apply_of t c log n)
  -- apply_conf, lent t: it answers v and holds u at exit
  pub apply-conf : (c : Configuration) (log : ChangeLog) (n : ℕ) (v : Verdict) (u : Tracker)
      → v ≡ verdict_in (apply_of t c log n) → u ≡ (apply_of t c log n).tracker → eqb v.number 0 ≡ false → u ≡ t
  -- to_conf_state: "empty lists and a false flag"
  pub to-conf-state : eqb (written_of t).number 0 ≡ false → (written_of t).conf_state ≡ conf_state_of no_conf_state
  -- restore, at whichever step; what is made whole, of any outcome
  pub restore : (cs : ConfState) (n : ℕ) → StateUntouched t (restore_of t cs n)
  pub whole : (o : Outcome) → StateUntouched t (whole_of t o)
  -- restore_step_by_step, refused with 1 or 2
  pub step-by-step : (cs : ConfState) (n : ℕ) → (step_by_step_of t cs n).number ≤ 2 → StateUntouched t (step_by_step_of t cs n)
  -- the exception, of that name only: past 1 and 2 it is the run of its steps; where one of them is refused, those before it stay
  pub step_by_step_runs : tracker_well_formed t ≡ true → (cs : ConfState) (n : ℕ) → too_long cs ≡ false → step_by_step_of t cs n ≡ outcome_of (run n (state_of t) (restore_steps (lists_of cs)))
  pub step_by_step_stays : (cs : ConfState) (n : ℕ) → 2 < (step_by_step_of t cs n).number → Stays t cs n
  -- dimecandle_replay, refused with 19 or 20: the lent output is as it was
  pub too_long : (script out : List ℕ) → ltb 65536 (length script) ≡ true → (replay_answer script (length out) ≡ 2 ^ 32 + 19) × (replay_leaves script out ≡ out)
  pub no_room : (script out : List ℕ) → ltb 65536 (length script) ≡ false → ltb (length out) (length (listing script)) ≡ true
      → (replay_answer script (length out) ≡ 2 ^ 32 + 20) × (replay_leaves script out ≡ out)
  -- dimecandle_call: a request that is refused as such leaves the lent reply as it was; a refused call, restore_step_by_step's excepted, replies the state
  -- of the request, an empty log and 0
  pub no_call : (request reply : List ℕ) → eqb (call_answer request (length reply)) 0 ≡ false → call_leaves request reply ≡ reply
  pub call : (request : List ℕ) → ltb (word request 0) 8 ≡ true → eqb (reply_to request).number 0 ≡ false → ((reply_to request).tracker ≡ state_at request 1) × ((reply_to request).log ≡ change_log_of []) × ((reply_to request).idle ≡ 0)
  -- dimecandle_unplug: a state that is refused as such leaves the lent verdict as it was
  pub no_unplug : (state verdict : List ℕ) (x : ℕ) → eqb (unplug_answer state (length verdict)) 0 ≡ false → unplug_leaves state x verdict ≡ verdict

-- ** Two entries, one answer

-- Document 02, d), through the entries: the request's STATE has these words, its call is `simple` and its LIST the removal of x alone.
pub record AsksSimple (request state : List ℕ) (x : ℕ) : Type 0 where
  pub words : (k : ℕ) → k < 967 → word request (1 + k) ≡ at state k
  pub call : word request 0 ≡ 2
  pub ids : ids_in request ≡ x ∷ []
  pub kinds : kinds_in request ≡ 1 ∷ []

-- then the reply's number and id are the verdict's
abbrev pub OneAnswer : List ℕ → List ℕ → ℕ → Type 0
OneAnswer request state x = ((reply_to request).number ≡ (unplug_of (state_in state) x).number) × ((reply_to request).id ≡ (unplug_of (state_in state) x).id)
