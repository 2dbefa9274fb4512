-- Demand 2's last sentence of trackers, from the rules' round trip, and the empty configuration's. Assumes nothing.
use Prim.Native.Nat.{ℕ, ◌≤◌}
use mathlib.Core.Path.{◌≡◌, refl, ap, ◌∙◌, subst, sym}
use mathlib.Core.Bool.{true, false}
use mathlib.Core.List.{List}
use borrow.Author.Tests.{le-ltb}
use lib.ListN.{length}
use Rattle.rules.specs.Ids.{ascending, memb}
use Rattle.rules.specs.State.{State, conf_formed, formed, fresh, ids, no_conf}
use Rattle.rules.specs.State as lists
use Rattle.rules.specs.Answers as R
use Rattle.rules.specs.Apply.{to_conf_state, written}
use Rattle.rules.specs.Boxes.{record_of}
use Rattle.rules.specs.Demands as demands
use Rattle.rules.specs.Restore.{restore}
use Rattle.rules.specs.Sequences as rules
use Rattle.rules.proofs.Theorems.{empty_configuration_comes_back, reached_comes_back}
use Rattle.idset.specs.Set.{held, set_of}
use Rattle.tracker.specs.Apply.{number_of, outcome_of}
use Rattle.tracker.specs.Bridge.{conf_of, conf_state_of, configuration_of, lists_of, peers_of, record_places, state_of, tracker_of}
use Rattle.tracker.specs.ConfStates.{written_of}
use Rattle.tracker.specs.Form.{tracker_well_formed}
use Rattle.tracker.specs.Apply.{Outcome}
use Rattle.tracker.specs.ConfStates.{Written}
use Rattle.tracker.specs.declared.Tracker.{Tracker}
use Rattle.idset.proofs.Bridge.{held-few}
use Rattle.tracker.proofs.Bridge.{Sets, conf-sets, lists_back, roster_set, rostered, state-back, tracked-ids, tracker_formed, tracker_parts, tracker_well, unit_conf}
use Rattle.tracker.proofs.Peers.{peers-records}
use Rattle.restore.specs.Restore.{restore_of, too_long}
use Rattle.restore.proofs.Restored.{restored}
use Rattle.demands.specs.Sequences.{Call, after_calls}
use Rattle.demands.specs.Demands.{ComesBack, EmptyComesBack}
use Rattle.demands.proofs.Carried.{Carried, carried, plain}
use Rattle.demands.proofs.Whole.{whole}

-- ** The fresh tracker

pub fresh-formed : (m : ℕ) → formed (fresh m) ≡ true
unfolding formed conf_formed ascending ids
fresh-formed m = refl

-- ** A well-formed tracker, written out and restored

-- the four lists have at most 64 entries
record Short (k : lists.ConfState) : Type 0 where
  voters : length k.voters ≤ 64
  learners : length k.learners ≤ 64
  outgoing : length k.voters_outgoing ≤ 64
  staged : length k.learners_next ≤ 64

module _ (u : Tracker) (w : tracker_well_formed u ≡ true) where
  -- its lists
  abbrev k : lists.ConfState
  k = written (conf_of u.conf)

  k_short : Short k
  k_short =
      let c : Sets u.conf = conf-sets u.conf (tracker_parts u w).conf in
      record {
        voters = held-few _ c.incoming;
        learners = held-few _ c.learners;
        outgoing = held-few _ c.outgoing;
        staged = held-few _ c.next;
      }

  fits : too_long (conf_state_of k) ≡ false
  unfolding too_long set_of
  fits = rw (le-ltb 64 _ k_short.voters, le-ltb 64 _ k_short.learners, le-ltb 64 _ k_short.outgoing, le-ltb 64 _ k_short.staged)

  lists_k : lists_of (conf_state_of k) ≡ k
  lists_k = lists_back k k_short.voters k_short.learners k_short.outgoing k_short.staged

  writes : written_of u ≡ record { number = 0; id = 0; conf_state = conf_state_of k }
  unfolding written_of to_conf_state
  writes = rw (w, tracker_formed u w)

  -- what the rules write
  rules_write : (to_conf_state (state_of u)).conf_state ≡ k
  unfolding to_conf_state
  rules_write = rw (tracker_formed u w)

  module _ (l n : ℕ) where
    abbrev o : R.Outcome
    o = restore (fresh l) (to_conf_state (state_of u)).conf_state n

    restores : restore_of (tracker_of (fresh l)) (written_of u).conf_state n ≡ outcome_of o
    restores =
        ap (λ (r : Written). restore_of (tracker_of (fresh l)) r.conf_state n) writes
        ∙ restored (tracker_of (fresh l)) (tracker_well (fresh l) (fresh-formed l)) (conf_state_of k) fits n
        ∙ rw (state-back (fresh l) (fresh-formed l), lists_k, rules_write)

    pub comes_back : demands.ComesBack (state_of u) l n → ComesBack u l n
    unfolding record_places
    comes_back b =
        let same : ids o.state.peers ≡ held u.ids = b.back.tracked ∙ tracked-ids u w in
        let accepts : (restore_of (tracker_of (fresh l)) (written_of u).conf_state n).number ≡ 0 = ap (λ (r : Outcome). r.number) restores ∙ ap number_of b.back.verdict in
        record {
          written = ap (λ (r : Written). r.number) writes;
          accepted = accepts;
          same = ap (λ (r : Outcome). r.tracker.conf) restores ∙ ap configuration_of b.back.conf ∙ unit_conf u.conf (tracker_parts u w).conf;
          tracked = ap (λ (r : Outcome). r.tracker.ids) restores ∙ ap set_of b.back.tracked ∙ roster_set (rostered u w);
          records = λ x h.
              ap (λ (r : Outcome). record_of x (peers_of (held u.ids) r.tracker.records)) restores
              ∙ ap (λ (xs : List ℕ). record_of x (peers_of xs (record_places o.state.peers))) (sym same)
              ∙ ap (record_of x) (peers-records o.state.peers _)
              ∙ b.back.records x (ap (memb x) same ∙ h);
          inflight = ap (λ (r : Outcome). r.tracker.max_inflight) restores ∙ b.back.inflight;
          either_name = sym ((whole (tracker_of (fresh l)) (written_of u).conf_state n).accepted accepts);
        }

    -- the empty configuration
    pub empty_comes_back : conf_of u.conf ≡ no_conf → EmptyComesBack u l n
    empty_comes_back e =
        let b : demands.EmptyComesBack (state_of u) l n = empty_configuration_comes_back (state_of u) (tracker_formed u w) e l n in
        let accepts : (restore_of (tracker_of (fresh l)) (written_of u).conf_state n).number ≡ 0 = ap (λ (r : Outcome). r.number) restores ∙ ap number_of b.accepted in
        record {
          written = ap (λ (r : Written). r.number) writes;
          accepted = accepts;
          same = ap (λ (r : Outcome). r.tracker.conf) restores ∙ ap configuration_of b.conf ∙ unit_conf u.conf (tracker_parts u w).conf;
          left = ap (λ (r : Outcome). r.tracker) restores ∙ ap tracker_of b.left;
          either_name = sym ((whole (tracker_of (fresh l)) (written_of u).conf_state n).accepted accepts);
        }

-- ** From the fresh tracker

pub reached_back : (m l n : ℕ) (cs : List Call) → ComesBack (after_calls (tracker_of (fresh m)) cs) l n
reached_back m l n cs =
    let c : Carried (tracker_of (fresh m)) cs (plain cs) = carried cs (tracker_of (fresh m)) (tracker_well (fresh m) (fresh-formed m)) in
    let e : rules.after_calls (fresh m) (plain cs) ≡ state_of (after_calls (tracker_of (fresh m)) cs) =
    sym (c.state ∙ ap (λ (s : State). rules.after_calls s (plain cs)) (state-back (fresh m) (fresh-formed m))) in
    comes_back (after_calls (tracker_of (fresh m)) cs) c.good l n (subst (λ (s : State). demands.ComesBack s l n) e (reached_comes_back m l n (plain cs)))
