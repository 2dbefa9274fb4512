-- Sequences of the public calls on trackers, and what was accepted of them: demand 3, "any sequence of simple, enter, leave and restore calls,
-- refused ones included". Each call is the definition that its public function is proved equal to. Assumes nothing.
use Rattle.std.specs.Prelude.{ℕ, Bool, ◌||◌, not, cond, List, [], ◌∷◌, ◌++◌, eqb}
use Rattle.rules.specs.Calls.{list_of}
use Rattle.rules.specs.Restore.{simple_step, enter_step, leave_step, restore_steps}
use Rattle.rules.specs.Sequences.{Deed, deeds_of_run, in_turn}
use Rattle.rules.specs.Boxes.{Box, box_of}
use Rattle.tracker.specs.Bridge.{state_of, lists_of}
use Rattle.tracker.specs.Form.{tracker_well_formed}
use Rattle.tracker.specs.declared.Tracker.{Tracker}
use Rattle.tracker.specs.declared.ConfState.{ConfState}
use Rattle.tracker.specs.Apply.{Outcome}
use Rattle.changer.specs.Calls.{simple_answer, enter_answer, leave_answer}
use Rattle.restore.specs.Restore.{applied_to, too_long, restore_of, step_by_step_of}

-- a call with its arguments; the last number is `next_idx`
pub data Call : Type 0 where
  simple_call : List ℕ → List ℕ → ℕ → Call
  enter_call : Bool → List ℕ → List ℕ → ℕ → Call
  leave_call : ℕ → Call
  restore_call : ConfState → ℕ → Call
  step_by_step_call : ConfState → ℕ → Call

-- "apply each accepted answer at once to the state it was asked of": `changer`'s calls with `restore::apply_answer`, `restore::restore` and
-- `restore::restore_step_by_step`
unfoldable pub perform : Tracker → Call → Outcome
perform t (simple_call ids kinds n) = applied_to t (simple_answer t ids kinds) n
perform t (enter_call auto ids kinds n) = applied_to t (enter_answer t auto ids kinds) n
perform t (leave_call n) = applied_to t (leave_answer t) n
perform t (restore_call cs n) = restore_of t cs n
perform t (step_by_step_call cs n) = step_by_step_of t cs n

unfoldable pub after_calls : Tracker → List Call → Tracker
after_calls t [] = t
after_calls t (c ∷ cs) = after_calls (perform t c).tracker cs

-- ** What was accepted

abbrev pub if_accepted : Outcome → List Deed → List Deed
if_accepted o ds = cond (eqb o.number 0) ds []

-- "Each accepted step of a restore counts as a call": of one that is asked for step by step, also where it is then refused; refused with 1 or 2 it
-- made no step. Document 02, g): "in demand 3 a refused whole restore counts no steps".
unfoldable pub deeds_of : Tracker → Call → List Deed
deeds_of t (simple_call ids kinds n) = if_accepted (perform t (simple_call ids kinds n)) (record { step = simple_step (list_of ids kinds); next = n } ∷ [])
deeds_of t (enter_call auto ids kinds n) = if_accepted (perform t (enter_call auto ids kinds n)) (record { step = enter_step auto (list_of ids kinds); next = n } ∷ [])
deeds_of t (leave_call n) = if_accepted (perform t (leave_call n)) (record { step = leave_step; next = n } ∷ [])
deeds_of t (restore_call cs n) = if_accepted (perform t (restore_call cs n)) (in_turn n (restore_steps (lists_of cs)))
deeds_of t (step_by_step_call cs n) = cond (not (tracker_well_formed t) || too_long cs) [] (deeds_of_run n (state_of t) (restore_steps (lists_of cs)))

unfoldable pub deeds : Tracker → List Call → List Deed
deeds t [] = []
deeds t (c ∷ cs) = deeds_of t c ++ deeds (perform t c).tracker cs

-- a box of a tracker: its standing, and its record if it is tracked
abbrev pub box_in : Tracker → ℕ → Box
box_in t x = box_of (state_of t) x
