-- `restore_step_by_step` and `restore` on trackers: past 1 and 2 each is the rules', and the one is the other made whole. Assumes nothing.
use Prim.Native.Nat.{ℕ}
use mathlib.Core.Path.{◌≡◌, refl, ap, ◌∙◌, sym}
use mathlib.Core.Bool.{Bool, true, false, true≢false}
use Rattle.std.specs.Prelude.{Result, Ok, Err, is_err}
use Rattle.rules.specs.State.{State}
use Rattle.rules.specs.Answers.{Verdict, fault, ok, settle}
use Rattle.rules.specs.Restore as rules
use Rattle.rules.specs.Restore.{restore_steps, run}
use Rattle.rules.proofs.Demand3.{all_short, restore-short}
use Rattle.rules.proofs.Numbers.{Numbered}
use Rattle.tracker.specs.Apply.{Outcome, outcome_left, outcome_of}
use Rattle.tracker.specs.Bridge.{lists_of, state_of}
use Rattle.tracker.specs.Form.{tracker_well_formed}
use Rattle.tracker.specs.declared.ConfState.{ConfState}
use Rattle.tracker.specs.declared.Tracker.{Tracker}
use Rattle.tracker.specs.declared.refusal.Refusal.{Refusal}
use Rattle.tracker.proofs.Bridge.{tracker_formed, unit_tracker}
use Rattle.changer.proofs.Answered.{refused_number}
use Rattle.restore.specs.Restore.{restore_of, step_by_step_of, too_long, whole_of}
use Rattle.restore.proofs.Marked.{Marked}
use Rattle.restore.proofs.Steps.{Left, run-left}
use Rattle.restore.proofs.Answers.{passed, steps}

-- past 1 and 2
module _ (t : Tracker) (w : tracker_well_formed t ≡ true) (cs : ConfState) (f : too_long cs ≡ false) (next : ℕ) where
  pub steps-short : all_short (restore_steps (lists_of cs))
  steps-short = restore-short (state_of t) (lists_of cs) (passed t w cs f next)

  pub stepped : step_by_step_of t cs next ≡ outcome_of (rules.restore_step_by_step (state_of t) (lists_of cs) next)
  unfolding step_by_step_of
  stepped = rw (w, f)

  pub stepped_runs : step_by_step_of t cs next ≡ outcome_of (run next (state_of t) (restore_steps (lists_of cs)))
  stepped_runs = sym (steps t w cs f next (restore_steps (lists_of cs)) refl)

  pub restored : restore_of t cs next ≡ outcome_of (rules.restore (state_of t) (lists_of cs) next)
  unfolding restore_of
  restored = rw (w, f)

  pub steps-left : Left (rules.restore_step_by_step (state_of t) (lists_of cs) next)
  unfolding rules.restore_step_by_step
  steps-left = rw (passed t w cs f next) (run-left next (restore_steps (lists_of cs)) steps-short (state_of t) (tracker_formed t w))

  pub whole-left : Left (rules.restore (state_of t) (lists_of cs) next)
  unfolding rules.restore
  whole-left = go (rules.restore_step_by_step (state_of t) (lists_of cs) next).verdict steps-left.marked
    where
      go : (v : Verdict) → Marked v → Left (settle v (state_of t) (rules.restore_step_by_step (state_of t) (lists_of cs) next).state)
      go ok m = record { good = steps-left.good; marked = m }
      go (fault n x) m = record { good = tracker_formed t w; marked = m }

-- the one beside the other
module _ (t : Tracker) (cs : ConfState) (next : ℕ) where
  settled : tracker_well_formed t ≡ true → (v : Verdict) (u : State) → Marked v → outcome_of (settle v (state_of t) u) ≡ whole_of t (outcome_of (record { verdict = v; state = u }))
  unfolding whole_of Numbered
  settled w ok u m = refl
  settled w (fault n x) u m = rw (m, unit_tracker t w)

  pub restore-whole : restore_of t cs next ≡ whole_of t (step_by_step_of t cs next)
  unfolding whole_of restore_of step_by_step_of rules.restore
  restore-whole = go (tracker_well_formed t) (too_long cs) refl refl
    where
      go : (w f : Bool) → tracker_well_formed t ≡ w → too_long cs ≡ f → restore_of t cs next ≡ whole_of t (step_by_step_of t cs next)
      go true true p q = rw (p, q)
      go true false p q =
          rw (p, q) (settled p (rules.restore_step_by_step (state_of t) (lists_of cs) next).verdict (rules.restore_step_by_step (state_of t) (lists_of cs) next).state (steps-left t p cs q next).marked)
      go false f p q = rw p

  -- what the code leaves and returns
  pub made-whole : {o r : Outcome} → o ≡ step_by_step_of t cs next → r ≡ whole_of t o → r ≡ restore_of t cs next
  made-whole e q = q ∙ ap (whole_of t) e ∙ sym restore-whole

  pub whole-refused : {A : Type 0} (r : Result A Refusal) {u : Tracker} → outcome_left u r ≡ step_by_step_of t cs next → {b : Bool} → b ≡ is_err r → b ≡ true → outcome_left t r ≡ restore_of t cs next
  unfolding whole_of
  whole-refused (Ok a) e f h = absurd (true≢false (sym h ∙ f))
  whole-refused (Err q) e f h = made-whole e (rw (refused_number q))

  pub whole-accepted : {A : Type 0} (r : Result A Refusal) {u : Tracker} → outcome_left u r ≡ step_by_step_of t cs next → {b : Bool} → b ≡ is_err r → b ≡ false → outcome_left u r ≡ restore_of t cs next
  unfolding whole_of
  whole-accepted (Ok a) e f h = made-whole e refl
  whole-accepted (Err q) e f h = absurd (true≢false (sym f ∙ h))
