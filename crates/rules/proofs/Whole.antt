-- The whole restore beside the one step by step, and the steps that it counts: document 02, g). Assumes nothing.
use Prim.Native.Nat.{ℕ}
use mathlib.Core.Path.{◌≡◌, refl, ap, ◌∙◌, sym}
use mathlib.Core.Bool.{false≢true}
use mathlib.Core.List.{List, [], ◌∷◌}
use Rattle.rules.specs.State.{ConfState, State}
use Rattle.rules.specs.Answers.{Outcome, Verdict, fault, ok, passes, settle}
use Rattle.rules.specs.Restore.{Step, attempt, go_on, guarded, restorable, restore, restore_step_by_step, restore_steps, run}
use Rattle.rules.specs.Sequences.{Deed, deeds_of, deeds_of_run, if_ok, in_turn, perform}
use Rattle.rules.specs.Demands.{Whole}

-- a refusal is not an acceptance
fault-ok : {A : Type 0} (n x : ℕ) → fault n x ≡ ok → A
fault-ok n x e = absurd (false≢true (ap passes e))

module _ (s : State) (cs : ConfState) (n : ℕ) where
  abbrev o : Outcome
  o = restore_step_by_step s cs n

  -- the same number and id
  pub whole-verdict : (restore s cs n).verdict ≡ (restore_step_by_step s cs n).verdict
  unfolding restore
  whole-verdict = go o.verdict
    where
      go : (v : Verdict) → (settle v s o.state).verdict ≡ v
      go ok = refl
      go (fault m x) = refl

  pub whole-accepted : (restore_step_by_step s cs n).verdict ≡ ok → restore s cs n ≡ restore_step_by_step s cs n
  unfolding restore
  whole-accepted h =
      λ k. record {
        verdict = (ap (λ (v : Verdict). (settle v s o.state).verdict) h ∙ sym h) k;
        state = ap (λ (v : Verdict). (settle v s o.state).state) h k;
      }

  pub whole-refused : (m x : ℕ) → (restore_step_by_step s cs n).verdict ≡ fault m x → restore s cs n ≡ record { verdict = fault m x; state = s }
  unfolding restore
  whole-refused m x h = rw h

  -- accepted, it is the run of its steps
  accepted_runs : (restore_step_by_step s cs n).verdict ≡ ok → (restorable s cs ≡ ok) × ((run n s (restore_steps cs)).verdict ≡ ok)
  unfolding restore_step_by_step
  accepted_runs = go (restorable s cs)
    where
      go : (v : Verdict) → (guarded v s (run n s (restore_steps cs))).verdict ≡ ok → (v ≡ ok) × ((run n s (restore_steps cs)).verdict ≡ ok)
      go ok h = (refl, h)
      go (fault m x) h = fault-ok m x h

-- a run that no step ends counts all of them
run_in_turn : (n : ℕ) (ps : List Step) (s : State) → (run n s ps).verdict ≡ ok → deeds_of_run n s ps ≡ in_turn n ps
unfolding run deeds_of_run in_turn
run_in_turn n [] s h = refl
run_in_turn n (p ∷ ps) s h = go (attempt n s p).verdict (attempt n s p).state h (run_in_turn n ps)
  where
    go : (v : Verdict) (u : State) → (go_on (record { verdict = v; state = u }) (λ t. run n t ps)).verdict ≡ ok → ((t : State) → (run n t ps).verdict ≡ ok → deeds_of_run n t ps ≡ in_turn n ps)
        → if_ok v (record { step = p; next = n } ∷ deeds_of_run n u ps) ≡ record { step = p; next = n } ∷ in_turn n ps
    go ok u e ih = ap (λ (ds : List Deed). record { step = p; next = n } ∷ ds) (ih u e)
    go (fault m x) u e ih = fault-ok m x e

-- ** Document 02, g)

module _ (s : State) (cs : ConfState) (n : ℕ) where
  pub steps-counted : (restore_step_by_step s cs n).verdict ≡ ok → if_ok (restorable s cs) (deeds_of_run n s (restore_steps cs)) ≡ in_turn n (restore_steps cs)
  steps-counted h =
      let a : (restorable s cs ≡ ok) × ((run n s (restore_steps cs)).verdict ≡ ok) = accepted_runs s cs n h in
      ap (λ (v : Verdict). if_ok v (deeds_of_run n s (restore_steps cs))) a.0 ∙ run_in_turn n (restore_steps cs) s a.1

  pub whole : Whole s cs n
  unfolding deeds_of perform
  whole =
      let same : (restore s cs n).verdict ≡ (restore_step_by_step s cs n).verdict = whole-verdict s cs n in
      record {
        verdict = same;
        refused = λ m x h. ap (λ (r : Outcome). r.state) (whole-refused s cs n m x (sym same ∙ h));
        no_step = λ m x h. ap (λ (v : Verdict). if_ok v (in_turn n (restore_steps cs))) h;
        accepted = λ h. whole-accepted s cs n (sym same ∙ h);
        its_steps = λ h. ap (λ (v : Verdict). if_ok v (in_turn n (restore_steps cs))) h;
        same-steps = λ h. steps-counted (sym same ∙ h);
      }
