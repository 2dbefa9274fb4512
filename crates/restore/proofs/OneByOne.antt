-- `one_by_one`: the steps left of the list, from the state reached, come to what all of them do. Assumes nothing.
use Prim.Native.Nat.{ℕ, ◌≤◌}
use mathlib.Core.Path.{◌≡◌, refl, ap, ◌∙◌, sym}
use mathlib.Core.Bool.{true}
use mathlib.Core.List.{List, [], ◌∷◌}
use native.Mathlib.Omega.{arith}
use Rattle.rules.specs.Calls.{kind_of}
use Rattle.rules.specs.Restore.{Step, all, one_by_one, run}
use Rattle.rules.proofs.Demand3.{all_short}
use Rattle.tracker.specs.Apply.{Outcome}
use Rattle.tracker.specs.Form.{tracker_well_formed}
use Rattle.tracker.specs.declared.Tracker.{Tracker}
use Rattle.tracker.proofs.Bridge.{unit_tracker}
use Rattle.changes.specs.Table.{kind_named}
use Rattle.changes.specs.declared.table.Kind.{Kind}
use Rattle.changes.specs.declared.table.Kind.TheVariants.{AddNode, AddLearnerNode, RemoveNode}
use Rattle.changer.specs.Calls.{simple_answer}
use Rattle.restore.specs.Restore.{applied_to, steps_of}
use Rattle.restore.specs.Steps.{number_in}
use Rattle.restore.proofs.Steps.{simple-step, steps-formed, steps_on, steps-stop}

-- one by one, each of this kind
abbrev pub steps_for : Kind → List ℕ → List Step
steps_for k xs = one_by_one (all (kind_named k) xs)

-- of the ids l, from t, those of `left` are left: the others led to u
pub record Stepping (next : ℕ) (k : Kind) (l : List ℕ) (t u : Tracker) (left : List ℕ) : Type 0 where
  pub good : tracker_well_formed u ≡ true
  pub same : steps_of u next (steps_for k left) ≡ steps_of t next (steps_for k l)

known : (k : Kind) → number_in k ≤ 2
known AddNode = omega arith
known RemoveNode = omega arith
known AddLearnerNode = omega arith

named : (k : Kind) → kind_of (number_in k) ≡ kind_named k
named AddNode = refl
named RemoveNode = refl
named AddLearnerNode = refl

module _ {next : ℕ} {k : Kind} {l : List ℕ} {t u : Tracker} {left : List ℕ} (s : Stepping next k l t u left) where
  -- no step leads to where it starts
  no_step : record { number = 0; id = 0; tracker = u } ≡ steps_of u next (steps_for k [])
  unfolding run one_by_one all
  no_step = ap (λ (t : Tracker). record { number = 0; id = 0; tracker = t }) (sym (unit_tracker u s.good))

  pub stepping_end : left ≡ [] → record { number = 0; id = 0; tracker = u } ≡ steps_of t next (steps_for k l)
  stepping_end h = no_step ∙ rw (← h) s.same

  module _ {x : ℕ} {xs : List ℕ} (h : left ≡ x ∷ xs) {o : Outcome} (q : o ≡ applied_to u (simple_answer u (x ∷ []) (number_in k ∷ [])) next) where
    once : o ≡ steps_of u next (steps_for k (x ∷ []))
    unfolding one_by_one all
    once = q ∙ simple-step u s.good next x (number_in k) (known k) ∙ rw (named k)

    short : all_short (steps_for k (x ∷ []))
    unfolding one_by_one all
    short = (omega arith, tt)

    more : steps_of u next (steps_for k (x ∷ xs)) ≡ steps_of t next (steps_for k l)
    more = rw (← h) s.same

    pub stepping_stop : (o.number ≡ 0 → ⊥) → o ≡ steps_of t next (steps_for k l)
    unfolding one_by_one all
    stepping_stop z = steps-stop u s.good next (steps_for k (x ∷ [])) short once z (steps_for k xs) ∙ more

    pub stepping_next : o.number ≡ 0 → Stepping next k l t o.tracker xs
    unfolding one_by_one all
    stepping_next z =
        record {
          good = steps-formed u s.good next (steps_for k (x ∷ [])) short once;
          same = steps_on u s.good next (steps_for k (x ∷ [])) short once z (steps_for k xs) ∙ more;
        }
