-- What holds of a tracker in order: it can be left if it is joint, and it comes back from a restore; and calls made from the fresh tracker lead to
-- such ones only. Assumes nothing.
use Prim.Native.Nat.{ℕ}
use mathlib.Core.Path.{◌≡◌, ap, ◌∙◌}
use mathlib.Core.Bool.{true, false}
use mathlib.Core.List.{List}
use Rattle.rules.specs.Ids.{is_empty}
use Rattle.rules.specs.State.{fresh, no_conf}
use Rattle.rules.specs.Answers.{Answer, accepted}
use Rattle.rules.specs.Calls.{gone, leave_joint, leaving, removals}
use Rattle.rules.specs.Check.{joint}
use Rattle.rules.specs.Restore.{apply_answer}
use Rattle.rules.proofs.RoundTrip.{fresh_in_order}
use Rattle.rules.proofs.Theorems.{empty_comes_back, joint_can_be_left, leave-is-applied, order_comes_back}
use Rattle.tracker.specs.Apply.{number_of, outcome_of}
use Rattle.tracker.specs.Bridge.{conf_of, state_of, tracker_of}
use Rattle.tracker.specs.Apply.{Outcome}
use Rattle.tracker.specs.declared.Tracker.{Tracker}
use Rattle.tracker.proofs.Bridge.{state-back, tracker_well}
use Rattle.invariants.specs.Check.{in_order_of}
use Rattle.changer.specs.Calls.{leave_answer}
use Rattle.restore.proofs.Applied.{leave-applied}
use Rattle.demands.specs.Demands.{CanBeLeft, ComesBack}
use Rattle.demands.specs.Sequences.{Call, after_calls}
use Rattle.demands.proofs.Boxes.{kept, order_formed, order_state}
use Rattle.demands.proofs.RoundTrip.{comes_back, fresh-formed}

module _ (t : Tracker) (h : in_order_of t ≡ true) where
  pub can_be_left : joint (conf_of t.conf) ≡ true → CanBeLeft t
  unfolding leave_answer
  can_be_left j =
      record {
        answer = rw (order_formed t h, left);
        applied = λ n.
            ap (λ (o : Outcome). o.number) (leave-applied t (order_formed t h) n)
            ∙ ap (λ (a : Answer). (outcome_of (apply_answer (state_of t) n a)).number) left
            ∙ ap number_of (leave-is-applied (state_of t) n (leaving (conf_of t.conf)) (removals (gone (conf_of t.conf))) left);
      }
    where
      left : leave_joint (state_of t) ≡ accepted (leaving (conf_of t.conf)) (removals (gone (conf_of t.conf)))
      left = joint_can_be_left (state_of t) (order_state t h) j

  pub order_back : is_empty (conf_of t.conf).incoming ≡ false → (l n : ℕ) → ComesBack t l n
  order_back v l n = comes_back t (order_formed t h) l n (order_comes_back (state_of t) (order_state t h) v l n)

  pub empty_back : conf_of t.conf ≡ no_conf → (l n : ℕ) → ComesBack t l n
  empty_back e l n = comes_back t (order_formed t h) l n (empty_comes_back (state_of t) (order_state t h) e l n)

begins : (m : ℕ) → in_order_of (tracker_of (fresh m)) ≡ true
unfolding in_order_of
begins m = rw (tracker_well (fresh m) (fresh-formed m), state-back (fresh m) (fresh-formed m)) (fresh_in_order m)

pub fresh_leads : (m : ℕ) (cs : List Call) → in_order_of (after_calls (tracker_of (fresh m)) cs) ≡ true
fresh_leads m cs = (kept (tracker_of (fresh m)) (begins m) cs).ordered
