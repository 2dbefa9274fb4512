-- The empty configuration of any well-formed state, written out and restored to fresh, comes back. Assumes nothing.
use Prim.Native.Nat.{ℕ}
use mathlib.Core.Path.{◌≡◌, refl}
use mathlib.Core.Bool.{true}
use Rattle.rules.specs.Ids.{ascending}
use Rattle.rules.specs.State.{State, conf_formed, formed, fresh, ids, no_conf}
use Rattle.rules.specs.Answers.{Outcome, ok}
use Rattle.rules.specs.Apply.{no_conf_state, to_conf_state}
use Rattle.rules.specs.Restore.{all, one_by_one, restorable, restore, restore_step_by_step, restore_steps, run}
use Rattle.rules.specs.Demands.{EmptyComesBack}

abbrev nothing : ℕ → Outcome
nothing l = record { verdict = ok; state = fresh l }

-- "Four empty lists are accepted and change nothing."
steps : (l n : ℕ) → restore_step_by_step (fresh l) no_conf_state n ≡ nothing l
unfolding restore_step_by_step restorable restore_steps one_by_one all run formed conf_formed ids ascending
steps l n = refl

whole : (l n : ℕ) → restore (fresh l) no_conf_state n ≡ nothing l
unfolding restore
whole l n = rw (steps l n)

pub empty_back : (s : State) → formed s ≡ true → s.conf ≡ no_conf → (l n : ℕ) → EmptyComesBack s l n
unfolding to_conf_state
empty_back s f e l n =
    record {
      writes = rw f;
      accepted = rw (f, e, whole l n);
      conf = rw (f, e, whole l n);
      left = rw (f, e, whole l n);
      either_name = rw (f, e, whole l n, steps l n);
    }
