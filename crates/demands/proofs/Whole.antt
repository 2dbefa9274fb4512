-- Document 02, g), of trackers: `restore` beside `restore_step_by_step`. Assumes nothing.
use Prim.Native.Nat.{ℕ}
use mathlib.Core.Path.{◌≡◌, refl, ap, ◌∙◌, sym}
use mathlib.Core.Bool.{Bool, true, false, cond}
use mathlib.Core.List.{[]}
use native.Mathlib.Omega.{arith}
use borrow.Author.Tests.{eq-eqb, eqb-false}
use lib.Dec.{eqb}
use Rattle.rules.specs.Answers.{Verdict, fault, ok}
use Rattle.rules.specs.Restore.{restore_step_by_step, restore_steps}
use Rattle.rules.specs.Sequences.{in_turn}
use Rattle.rules.proofs.Numbers.{Numbered}
use Rattle.rules.proofs.Theorems.{restore-is-whole}
use Rattle.tracker.specs.Apply.{number_of, refused_of}
use Rattle.tracker.specs.Bridge.{lists_of, state_of}
use Rattle.tracker.specs.Form.{tracker_well_formed}
use Rattle.tracker.specs.declared.ConfState.{ConfState}
use Rattle.tracker.specs.Apply.{Outcome}
use Rattle.tracker.specs.declared.Tracker.{Tracker}
use Rattle.restore.specs.Restore.{restore_of, step_by_step_of, too_long, whole_of}
use Rattle.restore.proofs.Marked.{Marked}
use Rattle.restore.proofs.Restored.{restore-whole, stepped, steps-left}
use Rattle.demands.specs.Demands.{Whole}
use Rattle.demands.specs.Sequences.{deeds_of, perform, step_by_step_call}
use Rattle.demands.proofs.Carried.{steps_are}
use Rattle.demands.proofs.Refused.{restore-untouched}

module _ (t : Tracker) (cs : ConfState) (n : ℕ) where
  abbrev o : Outcome
  o = step_by_step_of t cs n

  -- the number, or the id
  says : (f : Outcome → ℕ) → f (refused_of t o.number o.id) ≡ f o → f (restore_of t cs n) ≡ f o
  unfolding whole_of
  says f e = ap f (restore-whole t cs n) ∙ go (eqb o.number 0)
    where
      go : (b : Bool) → f (cond b o (refused_of t o.number o.id)) ≡ f o
      go true = refl
      go false = e

  number_same : (restore_of t cs n).number ≡ o.number
  number_same = says (λ r. r.number) refl

  taken : (restore_of t cs n).number ≡ 0 → restore_of t cs n ≡ o
  unfolding whole_of
  taken h = restore-whole t cs n ∙ ap (λ (b : Bool). cond b o (refused_of t o.number o.id)) (eq-eqb o.number 0 (sym number_same ∙ h))

  counts : (restore_of t cs n).number ≡ 0 → deeds_of t (step_by_step_call cs n) ≡ in_turn n (restore_steps (lists_of cs))
  unfolding step_by_step_of Numbered
  counts h = go (tracker_well_formed t) (too_long cs) refl refl (sym number_same ∙ h)
    where
      said : (v : Verdict) → Marked v → number_of v ≡ 0 → v ≡ ok
      said ok m z = refl
      said (fault k x) m z = absurd (eqb-false k 0 m z)

      go : (w f : Bool) → tracker_well_formed t ≡ w → too_long cs ≡ f → (step_by_step_of t cs n).number ≡ 0 → deeds_of t (step_by_step_call cs n) ≡ in_turn n (restore_steps (lists_of cs))
      go true true w f z = absurd (two (rw (w, f) at z))
        where
          two : ◌≡◌ {A = ℕ} 2 0 → ⊥
          two e = omega arith
      go true false w f z =
          let v : (restore_step_by_step (state_of t) (lists_of cs) n).verdict ≡ ok = said _ (steps-left t w cs f n).marked (ap (λ (r : Outcome). r.number) (sym (stepped t w cs f n)) ∙ z) in
          let whole = restore-is-whole (state_of t) (lists_of cs) n in
          (steps_are t w cs n f).same ∙ whole.same-steps (whole.verdict ∙ v)
      go false f w e z = absurd (one (rw w at z))
        where
          one : ◌≡◌ {A = ℕ} 1 0 → ⊥
          one e = omega arith

  pub whole : Whole t cs n
  unfolding deeds_of perform
  whole =
      record {
        number = number_same;
        id = says (λ r. r.id) refl;
        refused = restore-untouched t cs n;
        no_step = λ h. ap (λ (b : Bool). cond b (in_turn n (restore_steps (lists_of cs))) []) h;
        accepted = taken;
        its_steps = λ h. ap (λ (b : Bool). cond b (in_turn n (restore_steps (lists_of cs))) []) (eq-eqb (restore_of t cs n).number 0 h);
        same-steps = counts;
      }
