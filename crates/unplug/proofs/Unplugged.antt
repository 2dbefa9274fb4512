-- What is told of a state in words, test by test. Assumes nothing.
use Prim.Native.Nat.{ℕ}
use mathlib.Core.Path.{◌≡◌, refl, sym, ◌∙◌}
use mathlib.Core.Bool.{Bool, true, false, not, ◌&&◌, ◌||◌, cond}
use mathlib.Core.List.{List}
use borrow.Author.Tests.{not-true, not-false}
use lib.Dec.{eqb}
use lib.ListN.{length}
use Rattle.rules.specs.Unplug.{another}
use Rattle.rules.proofs.Sets.{and_left, and_right}
use Rattle.tracker.specs.Apply.{Verdict}
use Rattle.changer.specs.Calls.{unplug_of}
use Rattle.changer.proofs.Unplug.{unplug-told}
use Rattle.unplug.specs.Words.{at, within_by}
use Rattle.unplug.specs.Unplugs.{Told, answered_of, state_holds_in, state_in, told, told_of}
use Rattle.unplug.specs.declared.Unfit.TheVariants.{Length, Word}
use Rattle.std.proofs.Common.{Ok, Err}
use Rattle.std.specs.List.{list_all}
use Rattle.std.proofs.lemmas.List.Recursion.{same_from_clauses}

-- ** A test that is called by its refusal

module _ {r a : Bool} (e : r ≡ not a) where
  pub told_ill : r ≡ true → a ≡ false
  told_ill h = not-true a (sym e ∙ h)

  pub told_well : r ≡ false → a ≡ true
  told_well h = not-false a (sym e ∙ h)

-- ** The flags of the records

module _ (ws : List ℕ) (h : state_holds_in ws ≡ true) where
  flags : within_by 64 2 10 (at ws) 328 && within_by 64 1 10 (at ws) 329 && within_by 64 1 10 (at ws) 332 ≡ true
  unfolding state_holds_in
  flags = and_right (within_by 1 1 1 (at ws) 260) (within_by 64 2 10 (at ws) 328 && within_by 64 1 10 (at ws) 329 && within_by 64 1 10 (at ws) 332) h

  pub records_paused : within_by 64 1 10 (at ws) 329 ≡ true
  records_paused = and_right (within_by 64 2 10 (at ws) 328) (within_by 64 1 10 (at ws) 329) (and_left (within_by 64 2 10 (at ws) 328 && within_by 64 1 10 (at ws) 329) (within_by 64 1 10 (at ws) 332) flags)

  pub records_active : within_by 64 1 10 (at ws) 332 ≡ true
  records_active = and_right (within_by 64 2 10 (at ws) 328 && within_by 64 1 10 (at ws) 329) (within_by 64 1 10 (at ws) 332) flags

-- ** Whether a voter is left

pub all_voters : (x : ℕ) (voters : List ℕ) → list_all (λ y. eqb y x) voters ≡ not (another x voters)
unfolding another
all_voters x = same_from_clauses (list_all (λ y. eqb y x)) (λ l. not (another x l)) (λ y b. eqb y x && b) refl (λ _ _. refl) (λ y ys. go (eqb y x) (another x ys))
  where
    go : (a b : Bool) → not (not a || b) ≡ a && not b
    go true b = refl
    go false b = refl

-- ** 1; 6; the check; 17

pub ruleset unplug_tests = (unplug-told)

-- ** What is told

-- an answer is told as the theorems say
pub told_answer : (ws : List ℕ) (x : ℕ) → told (answered_of ws x) ≡ told_of ws x
unfolding told_of answered_of
told_answer ws x = go (not (eqb (length ws) 967)) (not (state_holds_in ws))
  where
    v : Verdict
    v = unplug_of (state_in ws) x

    go : (a b : Bool) → ◌≡◌ {A = Told} (told (cond a (Err Length) (cond b (Err Word) (Ok v)))) (cond a (record { returned = 1; number = 0; id = 0 }) (cond b (record { returned = 4; number = 0; id = 0 }) (record { returned = 0; number = v.number; id = v.id })))
    go true b = refl
    go false true = refl
    go false false = refl
