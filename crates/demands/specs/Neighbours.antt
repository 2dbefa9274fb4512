-- Any two neighbours share a box: document 02, i), as statements about trackers; proofs/Theorems.antt proves them. A quorum, and what neighbours
-- are, is specs/Quorum.antt of crate rules. Assumes nothing.
use Rattle.std.specs.Prelude.{ℕ, ◌≡◌, Bool, true, List, [], ◌∷◌}
use Rattle.rules.specs.Quorum.{Neighbours}
use Rattle.rules.specs.Restore.{attempt}
use Rattle.rules.specs.Sequences.{Deed}
use Rattle.tracker.specs.Apply.{outcome_of}
use Rattle.tracker.specs.Bridge.{conf_of, state_of}
use Rattle.tracker.specs.Apply.{Outcome}
use Rattle.tracker.specs.declared.Tracker.{Tracker}
use Rattle.invariants.specs.Check.{in_order_of}
use Rattle.changer.specs.Calls.{enter_answer, leave_answer, simple_answer}
use Rattle.demands.specs.Sequences.{Call, after_calls, deeds}

-- "For any accepted `simple`, enter or leave", asked of t
pub record CallsShare (t : Tracker) : Type 0 where
  pub simple : (ids kinds : List ℕ) → (simple_answer t ids kinds).number ≡ 0 → Neighbours (conf_of t.conf) (conf_of (simple_answer t ids kinds).conf)
  pub enter : (auto : Bool) (ids kinds : List ℕ) → (enter_answer t auto ids kinds).number ≡ 0 → Neighbours (conf_of t.conf) (conf_of (enter_answer t auto ids kinds).conf)
  pub leave : (leave_answer t).number ≡ 0 → Neighbours (conf_of t.conf) (conf_of (leave_answer t).conf)

-- a step asked of t and applied
abbrev pub step_of : Tracker → Deed → Outcome
step_of t d = outcome_of (attempt d.next (state_of t) d.step)

-- one accepted step, from a state in order to one in order
pub record StepShares (t : Tracker) (d : Deed) : Type 0 where
  pub taken : (step_of t d).number ≡ 0
  pub before : in_order_of t ≡ true
  pub after : in_order_of (step_of t d).tracker ≡ true
  pub neighbours : Neighbours (conf_of t.conf) (conf_of (step_of t d).tracker.conf)

-- each of these steps, asked of the tracker that those before it left; and the tracker that they lead to
unfoldable pub EachStepShares : Tracker → List Deed → Type 0
EachStepShares t [] = Unit {0}
EachStepShares t (d ∷ ds) = StepShares t d × EachStepShares (step_of t d).tracker ds

unfoldable pub after_deeds : Tracker → List Deed → Tracker
after_deeds t [] = t
after_deeds t (d ∷ ds) = after_deeds (step_of t d).tracker ds

-- "This is to hold at each step of any sequence, restore's own steps included": the calls cs, made from t. Their accepted steps lead to where the
-- calls lead.
pub record SequenceShares (t : Tracker) (cs : List Call) : Type 0 where
  pub steps : EachStepShares t (deeds t cs)
  pub end : after_deeds t (deeds t cs) ≡ after_calls t cs
