-- The bridge of configurations and of `ConfState`s: on well-formed ones, and on lists that fit, each way undoes the other.
-- Assumes nothing.
use Prim.Native.Nat.{ℕ, ◌≤◌}
use mathlib.Core.Path.{◌≡◌}
use mathlib.Core.Bool.{Bool, true, ◌&&◌}
use mathlib.Core.List.{List}
use lib.ListN.{length}
use Rattle.rules.specs.State as rules
use Rattle.rules.specs.State.{Conf, conf_formed}
use Rattle.rules.proofs.Sets.{and_left, and_right}
use Rattle.rules.proofs.Formed as R
use Rattle.rules.proofs.Formed.{sets_of, of-sets}
use Rattle.idset.specs.Set.{held, set_of, well_formed}
use Rattle.idset.specs.declared.IdSet.{IdSet}
use Rattle.idset.proofs.Bridge.{set-held, held-set, set-formed, held-few, held_rises}
use Rattle.tracker.specs.Bridge.{conf_of, configuration_of, lists_of, conf_state_of}
use Rattle.tracker.specs.Form.{conf_well_formed}
use Rattle.tracker.specs.declared.Configuration.{Configuration}

-- ** Well formed, by parts

pub record Sets (c : Configuration) : Type 0 where
  pub incoming : well_formed c.incoming ≡ true
  pub outgoing : well_formed c.outgoing ≡ true
  pub learners : well_formed c.learners ≡ true
  pub next : well_formed c.learners_next ≡ true

pub conf-sets : (c : Configuration) → conf_well_formed c ≡ true → Sets c
unfolding conf_well_formed
conf-sets c h =
    let i : Bool = well_formed c.incoming in
    let o : Bool = well_formed c.outgoing in
    let l : Bool = well_formed c.learners in
    let n : Bool = well_formed c.learners_next in
    let iol : i && o && l ≡ true = and_left (i && o && l) n h in
    let io : i && o ≡ true = and_left (i && o) l iol in
    record { incoming = and_left i o io; outgoing = and_right i o io; learners = and_right (i && o) l iol; next = and_right (i && o && l) n h }

pub sets-conf : (c : Configuration) → Sets c → conf_well_formed c ≡ true
unfolding conf_well_formed
sets-conf c s = rw (s.incoming, s.outgoing, s.learners, s.next)

-- ** Configurations

-- a set's ids, as the rules have them
pub set-ids : (s : IdSet) → well_formed s ≡ true → R.Set (held s)
set-ids s w = record { rises = held_rises s w; few = held-few s w }

module _ (c : Configuration) (w : conf_well_formed c ≡ true) where
  pub unit_conf : configuration_of (conf_of c) ≡ c
  unit_conf =
      let s : Sets c = conf-sets c w in
      rw (set-held c.incoming s.incoming, set-held c.outgoing s.outgoing, set-held c.learners s.learners, set-held c.learners_next s.next)

  pub conf-formed : conf_formed (conf_of c) ≡ true
  conf-formed =
      let s : Sets c = conf-sets c w in
      of-sets (conf_of c) (record {
        incoming = set-ids c.incoming s.incoming;
        outgoing = set-ids c.outgoing s.outgoing;
        learners = set-ids c.learners s.learners;
        staged = set-ids c.learners_next s.next;
      })

-- the set of a list
pub ids_set : (xs : List ℕ) → R.Set xs → well_formed (set_of xs) ≡ true
ids_set xs s = set-formed xs s.rises s.few

module _ (k : Conf) (w : conf_formed k ≡ true) where
  pub conf-back : conf_of (configuration_of k) ≡ k
  conf-back =
      let s : R.Sets k = sets_of k w in
      rw (held-set k.incoming s.incoming.few, held-set k.outgoing s.outgoing.few, held-set k.learners s.learners.few, held-set k.staged s.staged.few)

  pub conf_well : conf_well_formed (configuration_of k) ≡ true
  conf_well =
      let s : R.Sets k = sets_of k w in
      sets-conf (configuration_of k) (record {
        incoming = ids_set k.incoming s.incoming;
        outgoing = ids_set k.outgoing s.outgoing;
        learners = ids_set k.learners s.learners;
        next = ids_set k.staged s.staged;
      })

-- ** ConfStates

pub lists_back : (k : rules.ConfState) → length k.voters ≤ 64 → length k.learners ≤ 64 → length k.voters_outgoing ≤ 64 → length k.learners_next ≤ 64
    → lists_of (conf_state_of k) ≡ k
lists_back k v l o n = rw (held-set k.voters v, held-set k.learners l, held-set k.voters_outgoing o, held-set k.learners_next n)
