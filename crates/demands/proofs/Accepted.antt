-- An accepted answer of any tracker is applied. Assumes nothing.
use Prim.Native.Nat.{ℕ}
use mathlib.Core.Path.{◌≡◌, refl, ap, ◌∙◌}
use mathlib.Core.Bool.{Bool, true, false, cond}
use native.Mathlib.Omega.{arith}
use Rattle.rules.specs.Answers as R
use Rattle.rules.specs.Answers.{accepted, refused}
use Rattle.rules.specs.Calls.{enter_joint, leave_joint, simple}
use Rattle.rules.specs.Idle.{enter_idles, simple_idles}
use Rattle.rules.specs.Restore.{apply_answer}
use Rattle.tracker.specs.Apply.{outcome_of}
use Rattle.tracker.specs.Bridge.{state_of}
use Rattle.tracker.specs.Form.{tracker_well_formed}
use Rattle.tracker.specs.Apply.{Outcome}
use Rattle.tracker.specs.declared.Tracker.{Tracker}
use Rattle.tracker.proofs.Bridge.{tracker_formed}
use Rattle.changer.specs.Calls.{answer_of, enter_answer, if_formed, leave_answer, simple_answer}
use Rattle.restore.specs.Restore.{applied_to}
use Rattle.restore.proofs.Applied.{Fits, applied-same, enter-fits, leave_fits, simple-fits}
use Rattle.demands.specs.Demands.{AcceptedIsApplied}

module _ (t : Tracker) where
  applies : (n i : ℕ) (a : R.Answer) → (tracker_well_formed t ≡ true → Fits (state_of t) n a) → (if_formed t i a).number ≡ 0 → (applied_to t (if_formed t i a) n).number ≡ 0
  unfolding Fits
  applies n i a fits = go (tracker_well_formed t) refl
    where
      of : (b : R.Answer) → Fits (state_of t) n b → (answer_of t.conf i b).number ≡ 0 → (outcome_of (apply_answer (state_of t) n b)).number ≡ 0
      of (accepted c log) k e = rw k.done
      of (refused m x) k e = e

      go : (b : Bool) → tracker_well_formed t ≡ b → (cond b (answer_of t.conf i a) (answer_of t.conf 0 (refused 1 0))).number ≡ 0
          → (applied_to t (cond b (answer_of t.conf i a) (answer_of t.conf 0 (refused 1 0))) n).number ≡ 0
      go true w e = ap (λ (o : Outcome). o.number) (applied-same t w n i a (fits w)) ∙ of a (fits w) e
      go false w e = absurd (omega arith)

  pub all-applied : AcceptedIsApplied t
  unfolding simple_answer enter_answer leave_answer
  all-applied =
      record {
        simple = λ ids kinds n. applies n (simple_idles (state_of t) ids kinds) (simple (state_of t) ids kinds) (λ w. simple-fits (state_of t) n (tracker_formed t w) ids kinds);
        enter = λ auto ids kinds n.
            applies n (enter_idles (state_of t) auto ids kinds) (enter_joint (state_of t) auto ids kinds) (λ w. enter-fits (state_of t) n (tracker_formed t w) auto ids kinds);
        leave = λ n. applies n 0 (leave_joint (state_of t)) (λ w. leave_fits (state_of t) n (tracker_formed t w));
      }
