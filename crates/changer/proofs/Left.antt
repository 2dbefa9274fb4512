-- leave_joint on structs, once the tests before have passed: what the rules answer then. Assumes nothing.
use Prim.Native.Nat.{ℕ, ◌≤◌}
use mathlib.Core.Path.{◌≡◌, refl, ap, ◌∙◌, sym}
use mathlib.Core.Bool.{Bool, true, false, ◌||◌}
use native.Mathlib.Omega.{arith}
use lib.ListN.{length}
use Rattle.rules.specs.Ids.{ascending, memb, minus}
use Rattle.rules.specs.State.{Conf, State, ids}
use Rattle.rules.specs.Answers.{accepted, ok, ◌⇒◌}
use Rattle.rules.specs.Changes.{pending_tracked}
use Rattle.rules.specs.Check.{check, is_tracked}
use Rattle.rules.specs.Calls.{gone, leaving, removals}
use Rattle.rules.proofs.Check.{Passes, passes_of}
use Rattle.rules.proofs.Formed.{Set, Sets, Whole, of-sets}
use Rattle.rules.proofs.Sets.{ascending-all, length_part, memb-all}
use Rattle.rules.proofs.Steps.{length-minus, length-removals}
use Rattle.idset.specs.Set.{held, set_of, United}
use Rattle.idset.specs.declared.IdSet.{IdSet}
use Rattle.idset.proofs.Bridge.{held-set, union_formed}
use Rattle.tracker.specs.Bridge.{configuration_of, change_log_of}
use Rattle.tracker.specs.declared.Configuration.{Configuration}
use Rattle.tracker.proofs.Bridge.{ids_set}
use Rattle.changer.specs.Calls.{answer_of}
use Rattle.changer.specs.Stages.{accepted_in, again_in, leaving_in, learners_after}
use Rattle.changer.proofs.Pending.{again_same, room-removals}
use Rattle.changer.proofs.Gone.{gone_walk_lem}

-- a well-formed state that passed the check
module _ (s : State) (w : Whole s) (k : check (is_tracked s) s.conf ≡ ok) where
  abbrev c : Conf
  c = s.conf

  -- learners and staged ids are tracked, so that all of them fit
  joined : Set (leaving c).learners
  joined = record { rises = up; few = omega (arith, length_part (leaving c).learners (ids s.peers) up w.tracked.rises tracked, w.tracked.few) }
    where
      p : Passes (is_tracked s) c
      p = passes_of (is_tracked s) c k

      up : ascending (leaving c).learners ≡ true
      up = ascending-all c.staged c.learners w.sets.learners.rises

      go : (x : ℕ) (b : Bool) → memb x c.staged ≡ b → b || memb x c.learners ≡ true → memb x (ids s.peers) ≡ true
      go x true e h = p.staged-tracked x e
      go x false e h = p.learner-tracked x h

      tracked : (x : ℕ) → memb x (leaving c).learners ≡ true → memb x (ids s.peers) ≡ true
      tracked x h = go x (memb x c.staged) refl (sym (memb-all x c.staged c.learners) ∙ h)

  leaving-sets : Sets (leaving c)
  unfolding ascending
  leaving-sets =
      record { incoming = w.sets.incoming; outgoing = record { rises = refl; few = omega arith }; learners = joined; staged = record { rises = refl; few = omega arith } }

  leaving-short : length (removals (gone c)) ≤ 256
  leaving-short =
      omega (arith, length-removals (gone c), length-minus (minus c.outgoing c.incoming) (leaving c).learners, length-minus c.outgoing c.incoming, w.sets.outgoing.few)

  learners_in : learners_after (configuration_of c) ≡ set_of (leaving c).learners
  learners_in =
      let a : held (set_of c.staged) ≡ c.staged = held-set c.staged w.sets.staged.few in
      let b : held (set_of c.learners) ≡ c.learners = held-set c.learners w.sets.learners.few in
      ap (λ (u : United). u.set)
      (union_formed (set_of c.staged) (set_of c.learners) (ids_set c.staged w.sets.staged) (ids_set c.learners w.sets.learners) (rw (a, b) joined.few))
      ∙ rw (a, b)

  leaving_in_lem : leaving_in (configuration_of c) ≡ accepted_in (configuration_of (leaving c)) (change_log_of (removals (gone c))) 0
  leaving_in_lem =
      rw (
        learners_in,
        held-set c.outgoing w.sets.outgoing.few,
        held-set c.incoming w.sets.incoming.few,
        held-set (leaving c).learners joined.few,
        gone_walk_lem c.incoming (leaving c).learners w.sets.incoming.rises joined.rises c.outgoing w.sets.outgoing.rises,
      )

  pub leave_on : (tracked : IdSet) → tracked ≡ set_of (ids s.peers) → (given : Configuration) → given ≡ configuration_of c
      → again_in tracked given (leaving_in given) ≡ answer_of given 0 (check (pending_tracked (ids s.peers) (removals (gone c))) (leaving c) ⇒ accepted (leaving c) (removals (gone c)))
  leave_on tracked m given e =
      ap (again_in tracked given) (ap leaving_in e ∙ leaving_in_lem)
      ∙ again_same tracked (ids s.peers) m w.tracked (leaving c) (of-sets (leaving c) leaving-sets) (removals (gone c)) leaving-short (room-removals (gone c) (ids s.peers)) given 0
