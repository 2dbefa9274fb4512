-- What a refused call leaves: the configuration given with an empty log, the tracker given, no lists; and what a refused restore leaves,
-- whole and step by step. Assumes nothing.
use Prim.Native.Nat.{ℕ, ◌≤◌, ◌<◌}
use mathlib.Core.Path.{◌≡◌, refl, ap, ◌∙◌, sym}
use mathlib.Core.Bool.{Bool, true, false, ◌&&◌, cond, true≢false}
use mathlib.Core.List.{List}
use native.Mathlib.Omega.{arith}
use borrow.Author.Tests.{ltb-true}
use lib.Dec.{eqb, ltb}
use Rattle.rules.specs.State.{State, formed}
use Rattle.rules.specs.Answers as R
use Rattle.rules.specs.Answers.{Verdict, accepted, fault, ok, passes, refused}
use Rattle.rules.specs.Apply.{apply_conf, no_conf_state, to_conf_state}
use Rattle.rules.specs.Restore.{Step, attempt, restore_steps, run}
use Rattle.rules.proofs.Numbers.{Numbered}
use Rattle.rules.proofs.Sets.{and_left}
use Rattle.tracker.specs.Apply.{apply_of, number_of, outcome_of, refused_of}
use Rattle.tracker.specs.Bridge.{conf_of, conf_state_of, lists_of, log_of, state_of, tracker_of}
use Rattle.tracker.specs.ConfStates.{written_of}
use Rattle.tracker.specs.Form.{conf_well_formed, log_well_formed, tracker_well_formed}
use Rattle.tracker.specs.declared.ChangeLog.{ChangeLog}
use Rattle.tracker.specs.declared.ConfState.{ConfState}
use Rattle.tracker.specs.declared.Configuration.{Configuration}
use Rattle.tracker.specs.Apply.{Outcome}
use Rattle.tracker.specs.declared.Tracker.{Tracker}
use Rattle.tracker.proofs.Bridge.{state-back, tracker_formed, unit_tracker}
use Rattle.changer.specs.Calls.{answer_of, if_formed}
use Rattle.changer.specs.Calls.{Answer}
use Rattle.restore.specs.Restore.{applied_to, restore_of, step_by_step_of, too_long, whole_of}
use Rattle.restore.proofs.Steps.{run-left}
use Rattle.restore.proofs.Restored.{restore-whole, stepped_runs, steps-short}
use Rattle.demands.specs.Demands.{AnswerUntouched, StateUntouched}
use Rattle.demands.specs.Statements.{Stays}
use Rattle.demands.proofs.Late.{Late, late_run}
use Rattle.demands.proofs.Stopped.{Stopped, apply-left, run-stops}

late_few : (n : ℕ) → ltb 3 n ≡ true → n ≤ 2 → ⊥
late_few n h k = omega (arith, ltb-true 3 n h)

faulty : (v : Verdict) → 2 < number_of v → passes v ≡ false
faulty ok h = absurd (omega arith)
faulty (fault n x) h = refl

abbrev accepts : Tracker → Outcome
accepts t = record { number = 0; id = 0; tracker = t }

module _ (t : Tracker) where
  -- ** simple, enter_joint, leave_joint

  answer-untouched : (i : ℕ) (a : R.Answer) → AnswerUntouched t (answer_of t.conf i a)
  answer-untouched i (accepted c log) h = absurd (true≢false h)
  answer-untouched i (refused n x) h = (refl, refl, refl)

  pub asked-untouched : (i : ℕ) (a : R.Answer) → AnswerUntouched t (if_formed t i a)
  asked-untouched i a = go (tracker_well_formed t)
    where
      go : (b : Bool) → AnswerUntouched t (cond b (answer_of t.conf i a) (answer_of t.conf 0 (refused 1 0)))
      go true = answer-untouched i a
      go false = answer-untouched 0 (refused 1 0)

  -- ** apply, apply_answer

  pub apply-untouched : (c : Configuration) (log : ChangeLog) (n : ℕ) → StateUntouched t (apply_of t c log n)
  unfolding apply_of
  apply-untouched c log n = go (tracker_well_formed t && conf_well_formed c && log_well_formed log) refl
    where
      o : R.Outcome
      o = apply_conf (state_of t) (conf_of c) (log_of log) n

      left : tracker_well_formed t ≡ true → (v : Verdict) → o.verdict ≡ v → StateUntouched t (outcome_of (record { verdict = v; state = o.state }))
      left w ok e h = absurd (true≢false h)
      left w (fault m x) e h = ap tracker_of (apply-left n (state_of t) (conf_of c) (log_of log) (ap passes e)) ∙ unit_tracker t w

      go : (b : Bool) → tracker_well_formed t && conf_well_formed c && log_well_formed log ≡ b → StateUntouched t (cond b (outcome_of o) (record { number = 1; id = 0; tracker = t }))
      go true e = left (and_left _ _ (and_left _ _ e)) o.verdict refl
      go false e = λ h. refl

  pub applied-untouched : (a : Answer) (n : ℕ) → StateUntouched t (applied_to t a n)
  unfolding applied_to
  applied-untouched a n = go (eqb a.number 0)
    where
      go : (b : Bool) → StateUntouched t (cond b (apply_of t a.conf a.log n) (record { number = a.number; id = a.id; tracker = t }))
      go true = apply-untouched a.conf a.log n
      go false = λ h. refl

  -- ** to_conf_state

  pub written-nothing : eqb (written_of t).number 0 ≡ false → (written_of t).conf_state ≡ conf_state_of no_conf_state
  unfolding written_of to_conf_state
  written-nothing h = go (tracker_well_formed t) refl
    where
      go : (b : Bool) → tracker_well_formed t ≡ b → (written_of t).conf_state ≡ conf_state_of no_conf_state
      go true w = absurd (true≢false (rw (w, tracker_formed t w) at h))
      go false w = rw w

  -- ** restore, restore_step_by_step

  pub whole-untouched : (o : Outcome) → StateUntouched t (whole_of t o)
  unfolding whole_of
  whole-untouched o = go (eqb o.number 0) refl
    where
      go : (b : Bool) → eqb o.number 0 ≡ b → StateUntouched t (cond b o (refused_of t o.number o.id))
      go true e h = absurd (true≢false (sym e ∙ h))
      go false e h = refl

  module _ (cs : ConfState) (n : ℕ) where
    pub restore-untouched : StateUntouched t (restore_of t cs n)
    restore-untouched = rw (restore-whole t cs n) (whole-untouched (step_by_step_of t cs n))

    abbrev ps : List Step
    ps = restore_steps (lists_of cs)

    abbrev o : R.Outcome
    o = run n (state_of t) ps

    -- the run, its state and its number
    module _ (w : tracker_well_formed t ≡ true) (h : too_long cs ≡ false) where
      run-formed : formed o.state ≡ true
      run-formed = (run-left n ps (steps-short t w cs h n) (state_of t) (tracker_formed t w)).good

      run_late : Late o.verdict
      run_late = late_run n ps (steps-short t w cs h n) (state_of t) (tracker_formed t w)

    -- 1 for the tracker, 2 for the lists, or a run
    pub steps_ways : (P : Outcome → Type 0) → P (record { number = 1; id = 0; tracker = t }) → P (record { number = 2; id = 0; tracker = t })
        → (tracker_well_formed t ≡ true → too_long cs ≡ false → P (outcome_of o)) → P (step_by_step_of t cs n)
    unfolding step_by_step_of
    steps_ways P one two runs = go (tracker_well_formed t) (too_long cs) refl refl
      where
        go : (a b : Bool) → tracker_well_formed t ≡ a → too_long cs ≡ b → P (step_by_step_of t cs n)
        go true true w h = rw (w, h) two
        go true false w h = rw (stepped_runs t w cs h n) (runs w h)
        go false b w h = rw w one

    pub steps-untouched : (step_by_step_of t cs n).number ≤ 2 → StateUntouched t (step_by_step_of t cs n)
    unfolding Numbered
    steps-untouched = steps_ways (λ r. r.number ≤ 2 → StateUntouched t r) (λ l h. refl) (λ l h. refl) (λ w h. few o.verdict (run_late w h))
      where
        few : (v : Verdict) → Late v → (outcome_of (record { verdict = v; state = o.state })).number ≤ 2 → StateUntouched t (outcome_of (record { verdict = v; state = o.state }))
        few ok m l h = absurd (true≢false h)
        few (fault k x) m l h = absurd (late_few k m l)

    -- a number over 2 is a step's
    stays_run : tracker_well_formed t ≡ true → too_long cs ≡ false → step_by_step_of t cs n ≡ outcome_of o → 2 < (outcome_of o).number → Stays t cs n
    stays_run w h e l =
        let p : Stopped n (state_of t) ps o = run-stops n ps (state_of t) (faulty o.verdict l) in
        let u : (step_by_step_of t cs n).tracker ≡ tracker_of o.state = ap (λ (r : Outcome). r.tracker) e in
        record {
          before = p.before;
          step = p.step;
          after = p.after;
          steps = p.steps;
          stay = ap outcome_of p.stay ∙ ap accepts (sym u);
          refused = ap (λ (z : State). outcome_of (attempt n z p.step)) (ap state_of u ∙ state-back o.state (run-formed w h)) ∙ ap outcome_of p.refused ∙ sym e;
        }

    pub steps-stay : 2 < (step_by_step_of t cs n).number → Stays t cs n
    steps-stay = steps_ways (λ r. step_by_step_of t cs n ≡ r → 2 < r.number → Stays t cs n) (λ e l. absurd (omega arith)) (λ e l. absurd (omega arith)) stays_run refl
