-- What an accepted list is answered as `idle`: its length less the entries that moved their id or logged. Assumes nothing.
use Prim.Native.Nat.{ℕ, ◌+◌, ◌-◌, ◌≤◌}
use mathlib.Core.Path.{◌≡◌, refl}
use mathlib.Core.Bool.{Bool, true, false, cond}
use mathlib.Core.List.{List}
use native.Mathlib.Omega.{arith}
use lib.ListN.{length}
use Rattle.rules.specs.State.{Conf, Entry}
use Rattle.rules.specs.Answers as R
use Rattle.rules.specs.Answers.{accepted, refused}
use Rattle.rules.specs.Calls.{enter_joint, leave_joint, simple}
use Rattle.rules.specs.Idle.{enter_idles, enter_works, simple_idles, simple_works}
use Rattle.rules.proofs.Idle.{enter_counts, simple_counts}
use Rattle.tracker.specs.Bridge.{state_of}
use Rattle.tracker.specs.Form.{tracker_well_formed}
use Rattle.tracker.specs.declared.Tracker.{Tracker}
use Rattle.tracker.proofs.Bridge.{tracker_formed}
use Rattle.changer.specs.Calls.{answer_of, enter_answer, if_formed, leave_answer, simple_answer}
use Rattle.restore.proofs.Applied.{Fits, enter-fits, simple-fits}
use Rattle.demands.specs.Demands.{Counted}

module _ (t : Tracker) where
  -- the count i of an answer a that is accepted, where i and w together are n
  rest : (n i w : ℕ) (a : R.Answer) → ((c : Conf) (log : List Entry) → a ≡ accepted c log → i + w ≡ n) → (tracker_well_formed t ≡ true → Fits (state_of t) 0 a)
      → (if_formed t i a).number ≡ 0 → ((if_formed t i a).idle ≡ n - w) × (w ≤ n)
  unfolding Fits
  rest n i w a h fits = go (tracker_well_formed t) refl
    where
      of : (b : R.Answer) → a ≡ b → Fits (state_of t) 0 b → (answer_of t.conf i b).number ≡ 0 → ((answer_of t.conf i b).idle ≡ n - w) × (w ≤ n)
      of (accepted c log) e f z = (omega (arith, h c log e), omega (arith, h c log e))
      of (refused m x) e f z = absurd (let k : ◌≡◌ {A = ℕ} 0 1 = cc in omega arith)

      go : (b : Bool) → tracker_well_formed t ≡ b → (cond b (answer_of t.conf i a) (answer_of t.conf 0 (refused 1 0))).number ≡ 0
          → ((cond b (answer_of t.conf i a) (answer_of t.conf 0 (refused 1 0))).idle ≡ n - w) × (w ≤ n)
      go true e z = of a refl (fits e) z
      go false e z = absurd (omega arith)

  none : (a : R.Answer) → (if_formed t 0 a).idle ≡ 0
  none a = go (tracker_well_formed t) a
    where
      go : (b : Bool) (a : R.Answer) → (cond b (answer_of t.conf 0 a) (answer_of t.conf 0 (refused 1 0))).idle ≡ 0
      go true (accepted c log) = refl
      go true (refused n x) = refl
      go false a = refl

  pub all-counted : Counted t
  unfolding simple_answer enter_answer leave_answer
  all-counted =
      record {
        simple = λ ids kinds. rest (length ids) (simple_idles (state_of t) ids kinds) (simple_works (state_of t) ids kinds) (simple (state_of t) ids kinds)
            (λ c log. simple_counts (state_of t) ids kinds c log) (λ w. simple-fits (state_of t) 0 (tracker_formed t w) ids kinds);
        enter = λ auto ids kinds. rest (length ids) (enter_idles (state_of t) auto ids kinds) (enter_works (state_of t) auto ids kinds) (enter_joint (state_of t) auto ids kinds)
            (λ c log. enter_counts (state_of t) ids kinds c log auto) (λ w. enter-fits (state_of t) 0 (tracker_formed t w) auto ids kinds);
        leave = none (leave_joint (state_of t));
      }
