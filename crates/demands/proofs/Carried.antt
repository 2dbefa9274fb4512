-- A sequence of calls on a well-formed tracker is a sequence of the rules' calls on its state: the state left and what was accepted are the
-- same, and the tracker stays well formed. Assumes nothing.
use Prim.Native.Nat.{ℕ}
use mathlib.Core.Path.{◌≡◌, refl, ap, ◌∙◌}
use mathlib.Core.Bool.{Bool, true, false, cond}
use mathlib.Core.List.{List, [], ◌∷◌}
use Rattle.rules.specs.State.{State, formed}
use Rattle.rules.specs.Answers as R
use Rattle.rules.specs.Answers.{Verdict, fault, ok}
use Rattle.rules.specs.Calls.{enter_joint, leave_joint, simple}
use Rattle.rules.specs.Restore.{apply_answer, restore}
use Rattle.rules.specs.Sequences as rules
use Rattle.rules.specs.Sequences.{Deed, if_ok}
use Rattle.rules.proofs.Numbers.{Numbered}
use Rattle.tracker.specs.Apply.{outcome_of}
use Rattle.tracker.specs.Bridge.{lists_of, state_of}
use Rattle.tracker.specs.Form.{tracker_well_formed}
use Rattle.tracker.specs.declared.ConfState.{ConfState}
use Rattle.tracker.specs.Apply.{Outcome}
use Rattle.tracker.specs.declared.Tracker.{Tracker}
use Rattle.tracker.proofs.Bridge.{state-back, tracker_formed, tracker_well}
use Rattle.restore.specs.Restore.{restore_of, step_by_step_of, too_long}
use Rattle.restore.proofs.Marked.{Marked}
use Rattle.restore.proofs.Applied.{Fits, applied-formed, applied_marked, enter-applied, enter-fits, leave-applied, leave_fits, simple-applied, simple-fits}
use Rattle.restore.proofs.Answers.{passed}
use Rattle.restore.proofs.Restored.{restored, stepped, steps-left, whole-left}
use Rattle.demands.specs.Sequences.{Call, after_calls, deeds, deeds_of, enter_call, if_accepted, leave_call, perform, restore_call, simple_call, step_by_step_call}

-- ** One call

-- the call c on t is the rules' call r on its state
pub record Is (t : Tracker) (c : Call) (r : rules.Call) : Type 0 where
  pub outcome : perform t c ≡ outcome_of (rules.perform (state_of t) r)
  pub good : formed (rules.perform (state_of t) r).state ≡ true
  pub same : deeds_of t c ≡ rules.deeds_of (state_of t) r

-- what counts as accepted
accepts : (o : Outcome) (q : R.Outcome) → o ≡ outcome_of q → Marked q.verdict → (ds : List Deed) → if_accepted o ds ≡ if_ok q.verdict ds
unfolding Numbered
accepts o q e m ds = rw e (go q.verdict m)
  where
    go : (v : Verdict) → Marked v → if_accepted (outcome_of (record { verdict = v; state = q.state })) ds ≡ if_ok v ds
    go ok h = refl
    go (fault n x) h = rw h

module _ (t : Tracker) (w : tracker_well_formed t ≡ true) where
  abbrev s : State
  s = state_of t

  f : formed s ≡ true
  f = tracker_formed t w

  simple-is : (ids kinds : List ℕ) (n : ℕ) → Is t (simple_call ids kinds n) (rules.simple_call ids kinds n)
  unfolding perform rules.perform deeds_of rules.deeds_of
  simple-is ids kinds n =
      let a : R.Answer = simple s ids kinds in
      let h : Fits s n a = simple-fits s n f ids kinds in
      let e : perform t (simple_call ids kinds n) ≡ outcome_of (apply_answer s n a) = simple-applied t w n ids kinds in
      record { outcome = e; good = applied-formed s n f a h; same = accepts _ (apply_answer s n a) e (applied_marked s n a h) _ }

  enter-is : (auto : Bool) (ids kinds : List ℕ) (n : ℕ) → Is t (enter_call auto ids kinds n) (rules.enter_call auto ids kinds n)
  unfolding perform rules.perform deeds_of rules.deeds_of
  enter-is auto ids kinds n =
      let a : R.Answer = enter_joint s auto ids kinds in
      let h : Fits s n a = enter-fits s n f auto ids kinds in
      let e : perform t (enter_call auto ids kinds n) ≡ outcome_of (apply_answer s n a) = enter-applied t w n auto ids kinds in
      record { outcome = e; good = applied-formed s n f a h; same = accepts _ (apply_answer s n a) e (applied_marked s n a h) _ }

  leave-is : (n : ℕ) → Is t (leave_call n) (rules.leave_call n)
  unfolding perform rules.perform deeds_of rules.deeds_of
  leave-is n =
      let a : R.Answer = leave_joint s in
      let h : Fits s n a = leave_fits s n f in
      let e : perform t (leave_call n) ≡ outcome_of (apply_answer s n a) = leave-applied t w n in
      record { outcome = e; good = applied-formed s n f a h; same = accepts _ (apply_answer s n a) e (applied_marked s n a h) _ }

  -- ** restore, restore_step_by_step

  module _ (cs : ConfState) (n : ℕ) where
    -- lists that are too long leave the tracker, and nothing was accepted
    long-left : too_long cs ≡ true → ((perform t (restore_call cs n)).tracker ≡ t) × (deeds_of t (restore_call cs n) ≡ [])
    unfolding perform deeds_of restore_of
    long-left h = rw (w, h) (refl, refl)

    long_stepped : too_long cs ≡ true → ((perform t (step_by_step_call cs n)).tracker ≡ t) × (deeds_of t (step_by_step_call cs n) ≡ [])
    unfolding perform deeds_of step_by_step_of
    long_stepped h = rw (w, h) (refl, refl)

    module _ (h : too_long cs ≡ false) where
      restore-is : Is t (restore_call cs n) (rules.restore_call (lists_of cs) n)
      unfolding perform rules.perform deeds_of rules.deeds_of
      restore-is =
          let e : perform t (restore_call cs n) ≡ outcome_of (restore s (lists_of cs) n) = restored t w cs h n in
          record { outcome = e; good = (whole-left t w cs h n).good; same = accepts _ (restore s (lists_of cs) n) e (whole-left t w cs h n).marked _ }

      pub steps_are : Is t (step_by_step_call cs n) (rules.step_by_step_call (lists_of cs) n)
      unfolding perform rules.perform deeds_of rules.deeds_of
      steps_are = record { outcome = stepped t w cs h n; good = (steps-left t w cs h n).good; same = rw (w, h, passed t w cs h n) }

-- ** A sequence

-- the rules' calls that a call and the rest are
abbrev pub plainly : Call → List rules.Call → List rules.Call
plainly (simple_call ids kinds n) rest = rules.simple_call ids kinds n ∷ rest
plainly (enter_call auto ids kinds n) rest = rules.enter_call auto ids kinds n ∷ rest
plainly (leave_call n) rest = rules.leave_call n ∷ rest
plainly (restore_call cs n) rest = cond (too_long cs) rest (rules.restore_call (lists_of cs) n ∷ rest)
plainly (step_by_step_call cs n) rest = cond (too_long cs) rest (rules.step_by_step_call (lists_of cs) n ∷ rest)

unfoldable pub plain : List Call → List rules.Call
plain [] = []
plain (c ∷ cs) = plainly c (plain cs)

-- the calls cs on t are the rules' calls rs on its state
pub record Carried (t : Tracker) (cs : List Call) (rs : List rules.Call) : Type 0 where
  pub state : state_of (after_calls t cs) ≡ rules.after_calls (state_of t) rs
  pub deeds : deeds t cs ≡ rules.deeds (state_of t) rs
  pub good : tracker_well_formed (after_calls t cs) ≡ true

-- a call more, that is one of the rules', or none
module _ (t : Tracker) (c : Call) (cs : List Call) (rs : List rules.Call) where
  more : (r : rules.Call) → Is t c r → (tracker_well_formed (perform t c).tracker ≡ true → Carried (perform t c).tracker cs rs) → Carried t (c ∷ cs) (r ∷ rs)
  unfolding after_calls rules.after_calls deeds rules.deeds
  more r i k =
      let o : (perform t c).tracker ≡ (outcome_of (rules.perform (state_of t) r)).tracker = ap (λ (o : Outcome). o.tracker) i.outcome in
      let back : state_of (perform t c).tracker ≡ (rules.perform (state_of t) r).state = ap state_of o ∙ state-back (rules.perform (state_of t) r).state i.good in
      let rest : Carried (perform t c).tracker cs rs = k (ap tracker_well_formed o ∙ tracker_well (rules.perform (state_of t) r).state i.good) in
      record {
        state = rest.state ∙ ap (λ (u : State). rules.after_calls u rs) back;
        deeds = rw (i.same, rest.deeds, back);
        good = rest.good;
      }

  none : ((perform t c).tracker ≡ t) × (deeds_of t c ≡ []) → Carried t cs rs → Carried t (c ∷ cs) rs
  unfolding after_calls deeds
  none h rest =
      let e : after_calls (perform t c).tracker cs ≡ after_calls t cs = ap (λ (u : Tracker). after_calls u cs) h.0 in
      record {
        state = ap state_of e ∙ rest.state;
        deeds = rw h.1 (ap (λ (u : Tracker). deeds u cs) h.0 ∙ rest.deeds);
        good = ap tracker_well_formed e ∙ rest.good;
      }

  -- none where its lists are too long, else one of the rules'
  perhaps : (k : ConfState) (r : rules.Call) → (too_long k ≡ true → ((perform t c).tracker ≡ t) × (deeds_of t c ≡ [])) → (too_long k ≡ false → Is t c r)
      → tracker_well_formed t ≡ true → ((u : Tracker) → tracker_well_formed u ≡ true → Carried u cs rs) → Carried t (c ∷ cs) (cond (too_long k) rs (r ∷ rs))
  perhaps k r long short w rest = go (too_long k) refl
    where
      go : (b : Bool) → too_long k ≡ b → Carried t (c ∷ cs) (cond b rs (r ∷ rs))
      go true e = none (long e) (rest t w)
      go false e = more r (short e) (rest _)

pub carried : (cs : List Call) (t : Tracker) → tracker_well_formed t ≡ true → Carried t cs (plain cs)
unfolding plain after_calls rules.after_calls deeds rules.deeds
carried [] t w = record { state = refl; deeds = refl; good = w }
carried (simple_call ids kinds n ∷ cs) t w = more t (simple_call ids kinds n) cs (plain cs) (rules.simple_call ids kinds n) (simple-is t w ids kinds n) (carried cs _)
carried (enter_call auto ids kinds n ∷ cs) t w = more t (enter_call auto ids kinds n) cs (plain cs) (rules.enter_call auto ids kinds n) (enter-is t w auto ids kinds n) (carried cs _)
carried (leave_call n ∷ cs) t w = more t (leave_call n) cs (plain cs) (rules.leave_call n) (leave-is t w n) (carried cs _)
carried (restore_call k n ∷ cs) t w = perhaps t (restore_call k n) cs (plain cs) k (rules.restore_call (lists_of k) n) (long-left t w k n) (restore-is t w k n) w (carried cs)
carried (step_by_step_call k n ∷ cs) t w = perhaps t (step_by_step_call k n) cs (plain cs) k (rules.step_by_step_call (lists_of k) n) (long_stepped t w k n) (steps_are t w k n) w (carried cs)
