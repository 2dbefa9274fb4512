-- Steps as restore takes them, one after the other, on well-formed structs: a step taken, a run that goes on, a run that a refusal ends.
-- Assumes nothing.
use Prim.Native.Nat.{ℕ, ◌≤◌}
use mathlib.Core.Path.{◌≡◌, refl, ap, ◌∙◌, sym}
use mathlib.Core.Bool.{Bool, true}
use mathlib.Core.List.{List, [], ◌∷◌, ◌++◌}
use native.Mathlib.Omega.{arith}
use borrow.Author.Tests.{eqb-false, le-ltb}
use Rattle.rules.specs.Ids.{ascending}
use Rattle.rules.specs.State.{State, formed}
use Rattle.rules.specs.Answers as rules
use Rattle.rules.specs.Answers.{Verdict, each, fault, ok}
use Rattle.rules.specs.Calls.{enter_joint, kind_of, list_of, readable, simple}
use Rattle.rules.specs.Restore.{Step, ask, attempt, enter_step, go_on, run, simple_step}
use Rattle.rules.proofs.Demand3.{all_short}
use Rattle.rules.proofs.Singles.{run_append}
use Rattle.tracker.specs.Apply.{Outcome, id_of, number_of, outcome_of}
use Rattle.tracker.specs.Bridge.{state_of, tracker_of}
use Rattle.tracker.specs.Form.{tracker_well_formed}
use Rattle.rules.proofs.Numbers.{Numbered}
use Rattle.tracker.specs.declared.Tracker.{Tracker}
use Rattle.tracker.proofs.Bridge.{state-back, tracker_formed, tracker_well}
use Rattle.changer.specs.Calls.{enter_answer, simple_answer}
use Rattle.restore.specs.Restore.{applied_to, steps_of}
use Rattle.restore.proofs.Marked.{Marked}
use Rattle.restore.proofs.Applied.{applied-formed, applied_marked, asked-fits, enter-applied, simple-applied}

-- ** The rules

-- a well-formed state is left, and a refusal's number is not 0
pub record Left (o : rules.Outcome) : Type 0 where
  pub good : formed o.state ≡ true
  pub marked : Marked o.verdict

module _ (next : ℕ) where
  pub run-left : (ps : List Step) → all_short ps → (s : State) → formed s ≡ true → Left (run next s ps)
  unfolding run Numbered
  run-left [] h s f = record { good = f; marked = tt }
  run-left (p ∷ ps) h s f =
      go (attempt next s p).verdict (attempt next s p).state
      (record { good = applied-formed s next f (ask s p) (asked-fits s next f p h.0); marked = applied_marked s next (ask s p) (asked-fits s next f p h.0) })
      (run-left ps h.1)
    where
      go : (v : Verdict) (u : State) → Left (record { verdict = v; state = u }) → ((u : State) → formed u ≡ true → Left (run next u ps))
          → Left (go_on (record { verdict = v; state = u }) (λ u. run next u ps))
      go ok u l k = k u l.good
      go (fault n x) u l k = l

  -- a step is a run of one
  run-one : (s : State) (p : Step) → attempt next s p ≡ run next s (p ∷ [])
  unfolding run
  run-one s p = go (attempt next s p).verdict (attempt next s p).state
    where
      go : (v : Verdict) (u : State) → ◌≡◌ {A = rules.Outcome} (record { verdict = v; state = u }) (go_on (record { verdict = v; state = u }) (λ u. record { verdict = ok; state = u }))
      go ok u = refl
      go (fault n x) u = refl

-- ** The structs

module _ (t : Tracker) (w : tracker_well_formed t ≡ true) (next : ℕ) where
  -- one change as a `simple` of its own
  pub simple-step : (x k : ℕ) → k ≤ 2 → applied_to t (simple_answer t (x ∷ []) (k ∷ [])) next ≡ steps_of t next (simple_step (record { kind = kind_of k; id = x } ∷ []) ∷ [])
  unfolding simple readable each list_of ask
  simple-step x k h =
      simple-applied t w next (x ∷ []) (k ∷ [])
      ∙ rw (tracker_formed t w, le-ltb 2 k h) (ap outcome_of (run-one next (state_of t) (simple_step (record { kind = kind_of k; id = x } ∷ []))))

  pub enter_step_lem : (auto : Bool) (xs ks : List ℕ) → readable xs ks ≡ ok → applied_to t (enter_answer t auto xs ks) next ≡ steps_of t next (enter_step auto (list_of xs ks) ∷ [])
  unfolding enter_joint ask
  enter_step_lem auto xs ks h =
      enter-applied t w next auto xs ks
      ∙ rw (tracker_formed t w, h) (ap outcome_of (run-one next (state_of t) (enter_step auto (list_of xs ks))))

  module _ (ps : List Step) (short : all_short ps) where
    both : (qs : List Step) → run next (state_of t) (ps ++ qs) ≡ go_on (run next (state_of t) ps) (λ u. run next u qs)
    unfolding ascending
    both qs = run_append next [] refl (omega arith) ps qs (state_of t)

    left : Left (run next (state_of t) ps)
    left = run-left next ps short (state_of t) (tracker_formed t w)

    -- o: what they come to
    module _ {o : Outcome} (e : o ≡ steps_of t next ps) where
      pub steps-formed : tracker_well_formed o.tracker ≡ true
      steps-formed = rw e (tracker_well (run next (state_of t) ps).state left.good)

      pub steps_accept : o.number ≡ 0 → o.id ≡ 0
      unfolding Numbered
      steps_accept h = rw e (go (run next (state_of t) ps).verdict left.marked (ap (λ (o : Outcome). o.number) (sym e) ∙ h))
        where
          go : (v : Verdict) → Marked v → number_of v ≡ 0 → id_of v ≡ 0
          go ok m z = refl
          go (fault n x) m z = absurd (eqb-false n 0 m z)

      pub steps_on : o.number ≡ 0 → (qs : List Step) → steps_of o.tracker next qs ≡ steps_of t next (ps ++ qs)
      unfolding Numbered
      steps_on h qs =
          rw e (go (run next (state_of t) ps).verdict (run next (state_of t) ps).state left (ap (λ (o : Outcome). o.number) (sym e) ∙ h) ∙ ap outcome_of (sym (both qs)))
        where
          go : (v : Verdict) (u : State) → Left (record { verdict = v; state = u }) → number_of v ≡ 0
              → outcome_of (run next (state_of (tracker_of u)) qs) ≡ outcome_of (go_on (record { verdict = v; state = u }) (λ u. run next u qs))
          go ok u l z = rw (state-back u l.good)
          go (fault n x) u l z = absurd (eqb-false n 0 l.marked z)

      pub steps-stop : (o.number ≡ 0 → ⊥) → (qs : List Step) → o ≡ steps_of t next (ps ++ qs)
      steps-stop h qs =
          e ∙ go (run next (state_of t) ps).verdict (run next (state_of t) ps).state (λ z. h (ap (λ (o : Outcome). o.number) e ∙ z)) ∙ ap outcome_of (sym (both qs))
        where
          go : (v : Verdict) (u : State) → (number_of v ≡ 0 → ⊥)
              → outcome_of (record { verdict = v; state = u }) ≡ outcome_of (go_on (record { verdict = v; state = u }) (λ u. run next u qs))
          go ok u z = absurd (z refl)
          go (fault n x) u z = refl
