-- Any two neighbours share a box, of trackers, from the rules' own. Assumes nothing.
use Prim.Native.Nat.{ℕ}
use mathlib.Core.Path.{◌≡◌, refl, ap, ◌∙◌, subst, sym}
use mathlib.Core.Bool.{Bool, true, false, cond}
use mathlib.Core.List.{List, [], ◌∷◌}
use native.Mathlib.Omega.{arith}
use borrow.Author.Tests.{eqb-false}
use Rattle.rules.specs.Answers as R
use Rattle.rules.specs.Answers.{accepted, refused}
use Rattle.rules.specs.Calls.{enter_joint, leave_joint, simple}
use Rattle.rules.specs.Check.{in_order}
use Rattle.rules.specs.Idle.{enter_idles, simple_idles}
use Rattle.rules.specs.Quorum as lists
use Rattle.rules.specs.Quorum.{Neighbours}
use Rattle.rules.specs.Restore.{attempt}
use Rattle.rules.specs.Sequences as rules
use Rattle.rules.specs.Sequences.{Deed}
use Rattle.rules.specs.State.{Conf, Entry, State, formed}
use Rattle.rules.proofs.Order.{formed-of, ordered_of}
use Rattle.rules.proofs.Sets.{and_both}
use Rattle.rules.proofs.Theorems.{neighbours-share, neighbours_share_throughout}
use Rattle.tracker.specs.Apply.{number_of}
use Rattle.tracker.specs.Bridge.{conf_of, state_of, tracker_of}
use Rattle.tracker.specs.Form.{tracker_well_formed}
use Rattle.tracker.specs.declared.Tracker.{Tracker}
use Rattle.tracker.proofs.Bridge.{conf-back, state-back, tracker_formed, tracker_well, unit_tracker}
use Rattle.invariants.specs.Check.{in_order_of}
use Rattle.changer.specs.Calls.{answer_of, enter_answer, if_formed, leave_answer, simple_answer}
use Rattle.restore.proofs.Applied.{Fits, enter-fits, leave_fits, simple-fits}
use Rattle.demands.specs.Neighbours.{CallsShare, EachStepShares, SequenceShares, after_deeds}
use Rattle.demands.specs.Sequences.{Call, after_calls, deeds}
use Rattle.demands.proofs.Boxes.{order_formed, order_state}
use Rattle.demands.proofs.Carried.{Carried, carried, plain}

-- ** One call

module _ (t : Tracker) where
  -- an accepted answer gives the rules' configuration
  shares : (i : ℕ) (a : R.Answer) → (formed (state_of t) ≡ true → Fits (state_of t) 0 a) → ((c : Conf) (log : List Entry) → a ≡ accepted c log → Neighbours (conf_of t.conf) c)
      → (if_formed t i a).number ≡ 0 → Neighbours (conf_of t.conf) (conf_of (if_formed t i a).conf)
  unfolding Fits
  shares i a fits n = go (tracker_well_formed t) refl
    where
      of : (b : R.Answer) → a ≡ b → Fits (state_of t) 0 b → (answer_of t.conf i b).number ≡ 0 → Neighbours (conf_of t.conf) (conf_of (answer_of t.conf i b).conf)
      of (accepted c log) e k z = rw (conf-back c k.fits) (n c log e)
      of (refused m x) e k z = absurd (eqb-false m 0 k z)

      go : (b : Bool) → tracker_well_formed t ≡ b → (cond b (answer_of t.conf i a) (answer_of t.conf 0 (refused 1 0))).number ≡ 0
          → Neighbours (conf_of t.conf) (conf_of (cond b (answer_of t.conf i a) (answer_of t.conf 0 (refused 1 0))).conf)
      go true w z = of a refl (fits (tracker_formed t w)) z
      go false w z = absurd (omega arith)

  pub calls_share : CallsShare t
  unfolding simple_answer enter_answer leave_answer
  calls_share =
      let own : lists.CallsShare (state_of t) = neighbours-share (state_of t) in
      record {
        simple = λ ids kinds. shares (simple_idles (state_of t) ids kinds) (simple (state_of t) ids kinds) (λ f. simple-fits (state_of t) 0 f ids kinds) (own.simple ids kinds);
        enter = λ auto ids kinds.
            shares (enter_idles (state_of t) auto ids kinds) (enter_joint (state_of t) auto ids kinds) (λ f. enter-fits (state_of t) 0 f auto ids kinds) (own.enter auto ids kinds);
        leave = shares 0 (leave_joint (state_of t)) (λ f. leave_fits (state_of t) 0 f) own.leave;
      }

-- ** Each step of a sequence

order_well : (s : State) → in_order s ≡ true → formed s ≡ true
order_well s h = formed-of s (ordered_of s h)

-- the steps ds of a well-formed tracker are the rules' steps of its state
record Along (t : Tracker) (ds : List Deed) : Type 0 where
  steps : EachStepShares t ds
  good : tracker_well_formed (after_deeds t ds) ≡ true
  state : state_of (after_deeds t ds) ≡ rules.after_deeds (state_of t) ds

along : (ds : List Deed) (t : Tracker) → tracker_well_formed t ≡ true → lists.EachStepShares (state_of t) ds → Along t ds
unfolding EachStepShares lists.EachStepShares after_deeds rules.after_deeds in_order_of
along [] t w k = record { steps = tt; good = w; state = refl }
along (d ∷ ds) t w k =
    let left : State = (attempt d.next (state_of t) d.step).state in
    let g : formed left ≡ true = order_well left k.0.after in
    let back : state_of (tracker_of left) ≡ left = state-back left g in
    let rest : Along (tracker_of left) ds = along ds (tracker_of left) (tracker_well left g) (subst (λ (s : State). lists.EachStepShares s ds) (sym back) k.1) in
    record {
      steps = (
        record {
          taken = ap number_of k.0.taken;
          before = and_both (tracker_well_formed t) (in_order (state_of t)) w k.0.before;
          after = and_both (tracker_well_formed (tracker_of left)) (in_order (state_of (tracker_of left))) (tracker_well left g) (ap in_order back ∙ k.0.after);
          neighbours = subst (λ (s : State). Neighbours (conf_of t.conf) s.conf) (sym back) k.0.neighbours;
        },
        rest.steps,
      );
      good = rest.good;
      state = rest.state ∙ ap (λ (s : State). rules.after_deeds s ds) back;
    }

pub sequence_shares : (t : Tracker) → in_order_of t ≡ true → (cs : List Call) → SequenceShares t cs
sequence_shares t h cs =
    let own : lists.SequenceShares (state_of t) (plain cs) = neighbours_share_throughout (state_of t) (order_state t h) (plain cs) in
    let c : Carried t cs (plain cs) = carried cs t (order_formed t h) in
    let k : Along t (deeds t cs) = along (deeds t cs) t (order_formed t h) (subst (lists.EachStepShares (state_of t)) (sym c.deeds) own.steps) in
    record {
      steps = k.steps;
      end =
          sym (unit_tracker (after_deeds t (deeds t cs)) k.good)
          ∙ ap tracker_of (k.state ∙ ap (rules.after_deeds (state_of t)) c.deeds ∙ own.end ∙ sym c.state)
          ∙ unit_tracker (after_calls t cs) c.good;
    }
