-- What `restore` and `restore_step_by_step` answer and leave, for every state and every `ConfState`: the rules through the bridge. Assumes nothing.
use Rattle.std.specs.Prelude.{ℕ, Bool, ◌||◌, cond, List, eqb, ltb}
use Rattle.rules.specs.Answers as R
use Rattle.rules.specs.Restore as rules
use Rattle.tracker.specs.Bridge.{state_of, lists_of}
use Rattle.tracker.specs.Form.{tracker_well_formed}
use Rattle.tracker.specs.Apply.{Outcome, refused_of, outcome_of, apply_of}
use Rattle.tracker.specs.declared.Tracker.{Tracker}
use Rattle.tracker.specs.declared.ConfState.{ConfState}
use Rattle.changer.specs.Calls.{Answer}

-- an accepted answer is applied at once to the state that it was asked of; a refused one leaves it
unfoldable pub applied_to : Tracker → Answer → ℕ → Outcome
applied_to t a next = cond (eqb a.number 0) (apply_of t a.conf a.log next) (refused_of t a.number a.id)

-- 2: "a list too long": one of the four counts is over 64
unfoldable pub too_long : ConfState → Bool
too_long cs = ltb 64 cs.voters.len || ltb 64 cs.learners.len || ltb 64 cs.voters_outgoing.len || ltb 64 cs.learners_next.len

-- document 02, g): "a refused `restore` now returns the state it was given, with the same number and id"
unfoldable pub whole_of : Tracker → Outcome → Outcome
whole_of t o = cond (eqb o.number 0) o (refused_of t o.number o.id)

-- steps one after the other, from a well-formed state
abbrev pub steps_of : Tracker → ℕ → List rules.Step → Outcome
steps_of t next ps = outcome_of (rules.run next (state_of t) ps)

-- "1, 2 first", then the rule's outcome
abbrev pub restoring : Tracker → ConfState → R.Outcome → Outcome
restoring t cs o = cond (tracker_well_formed t) (cond (too_long cs) (refused_of t 2 0) (outcome_of o)) (refused_of t 1 0)

-- document 01's `restore`: "A refused step ends it; earlier steps stay and its number and id are returned."
unfoldable pub step_by_step_of : Tracker → ConfState → ℕ → Outcome
step_by_step_of t cs next = restoring t cs (rules.restore_step_by_step (state_of t) (lists_of cs) next)

-- document 02, g): "By default a refused `restore` now returns the state it was given, with the same number and id."
unfoldable pub restore_of : Tracker → ConfState → ℕ → Outcome
restore_of t cs next = restoring t cs (rules.restore (state_of t) (lists_of cs) next)
