-- Demand 3 of trackers, from the rules' demand 3; and what one accepted step makes of a box. Assumes nothing.
use Prim.Native.Nat.{ℕ}
use mathlib.Core.Path.{◌≡◌, ap, ◌∙◌, subst, sym}
use mathlib.Core.Bool.{Bool, true}
use mathlib.Core.List.{List, [], ◌∷◌, append-nil}
use Rattle.progress.specs.Record.{fresh_record}
use Rattle.rules.specs.Ids.{memb}
use Rattle.rules.specs.State.{State, members}
use Rattle.rules.specs.Check.{in_order, is_tracked}
use Rattle.rules.specs.Demands as lists
use Rattle.rules.specs.Restore.{Step}
use Rattle.rules.specs.Sequences as rules
use Rattle.rules.specs.Sequences.{Deed}
use Rattle.rules.specs.Table.{places_in, places_of}
use Rattle.rules.specs.Boxes.{Event, box_of, events, replay, step_events}
use Rattle.rules.proofs.Sets.{and_both, and_left, and_right}
use Rattle.rules.proofs.Theorems.{boxes_are_their_replay}
use Rattle.idset.specs.Set.{held}
use Rattle.tracker.specs.Bridge.{conf_of, state_of}
use Rattle.tracker.specs.Form.{tracker_well_formed}
use Rattle.tracker.specs.declared.Tracker.{Tracker}
use Rattle.tracker.proofs.Bridge.{tracked-ids}
use Rattle.invariants.specs.Check.{in_order_of}
use Rattle.demands.specs.Sequences.{Call, after_calls, box_in, deeds, deeds_of, perform}
use Rattle.demands.specs.Demands.{Kept}
use Rattle.demands.proofs.Carried.{Carried, carried, plain}

module _ (t : Tracker) (h : in_order_of t ≡ true) where
  pub order_formed : tracker_well_formed t ≡ true
  unfolding in_order_of
  order_formed = and_left (tracker_well_formed t) (in_order (state_of t)) h

  pub order_state : in_order (state_of t) ≡ true
  unfolding in_order_of
  order_state = and_right (tracker_well_formed t) (in_order (state_of t)) h

  pub kept : (cs : List Call) → Kept t cs
  unfolding in_order_of
  kept cs =
      let u : Tracker = after_calls t cs in
      let c : Carried t cs (plain cs) = carried cs t order_formed in
      let k : lists.Kept (state_of t) (plain cs) = boxes_are_their_replay (state_of t) order_state (plain cs) in
      let back : rules.after_calls (state_of t) (plain cs) ≡ state_of u = sym c.state in
      let found : (x : ℕ) → memb x (held u.ids) ≡ is_tracked (state_of u) x = λ x. ap (memb x) (sym (tracked-ids u c.good)) in
      record {
        ordered = and_both (tracker_well_formed u) (in_order (state_of u)) c.good (ap in_order c.state ∙ k.ordered);
        tracked = λ x. found x ∙ subst (λ (s : State). is_tracked s x ≡ memb x (members s.conf)) back (k.tracked x);
        standing = λ x.
            ap (λ (b : Bool). places_in b (conf_of u.conf) x) (found x)
            ∙ subst (λ (s : State). places_in (is_tracked s x) s.conf x ≡ places_of (box_of s x).standing) back (k.standing x);
        boxes = λ x.
            ap (λ (s : State). box_of s x) c.state ∙ k.boxes x
            ∙ ap (λ (ds : List Deed). replay (events t.max_inflight x ds) (box_in t x)) (sym c.deeds);
      }

  -- one call of which one step was accepted
  module _ (c : Call) (p : Step) (n : ℕ) (e : deeds_of t c ≡ record { step = p; next = n } ∷ []) where
    pub one-step : (x : ℕ) → box_in (perform t c).tracker x ≡ replay (step_events (fresh_record n t.max_inflight) x p) (box_in t x)
    unfolding after_calls deeds events
    one-step x = (kept (c ∷ [])).boxes x ∙ rw e (ap (λ (es : List Event). replay es (box_in t x)) (append-nil (step_events (fresh_record n t.max_inflight) x p)))
