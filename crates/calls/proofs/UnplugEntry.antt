-- What `dimecandle_unplug` returns and leaves, test by test. Assumes nothing.
use Prim.Native.Nat.{ℕ, ◌≤◌, ◌<◌}
use mathlib.Core.Path.{◌≡◌, refl, sym, ◌∙◌}
use mathlib.Core.Bool.{Bool, true, false}
use mathlib.Core.List.{List, [], ◌∷◌}
use native.Mathlib.Omega.{arith}
use borrow.Author.Tests.{eq-eqb, ne_eqb, le-ltb, lt-ltb}
use lib.ListN.{length, drop, set}
use Rattle.changer.specs.Calls.{unplug_of}
use Rattle.std.specs.Prelude.{Result, Ok, Err}
use Rattle.tracker.specs.Apply.{Verdict}
use Rattle.unplug.specs.Unplugs.{answered_of, state_holds_in, state_in}
use Rattle.unplug.specs.declared.Unfit.{Unfit}
use Rattle.calls.specs.Asked.{refusal_number, same_unfit}
use Rattle.calls.specs.declared.asked.Unanswered.{Unanswered}
use Rattle.calls.proofs.WriteCalls.{refusal_positive}
use Rattle.calls.specs.Unplugs.{Unplugs, unplug_answer, unplug_leaves}

abbrev pub map_err : Result Verdict Unfit → Result Verdict Unanswered
map_err (Ok v) = Ok v
map_err (Err e) = Err (same_unfit e)

written : (l : List ℕ) → 2 ≤ length l → (a b : ℕ) → set (set l 0 a) 1 b ≡ a ∷ b ∷ drop 2 l
written [] k a b = absurd (omega arith)
written (y ∷ []) k a b = absurd (omega arith)
written (y ∷ z ∷ l) k a b = refl

module _ (ws : List ℕ) (room : ℕ) where
  pub lacks_length : (length ws ≡ 967 → ⊥) → unplug_answer ws room ≡ 1
  unfolding unplug_answer
  lacks_length h = rw (ne_eqb _ _ h)

  module _ (h : length ws ≡ 967) where
    pub lacks-room : room < 2 → unplug_answer ws room ≡ 2
    unfolding unplug_answer
    lacks-room r = rw (eq-eqb _ _ h, lt-ltb _ _ r)

    module _ (r : 2 ≤ room) (x : ℕ) where
      -- what is answered in words is answered here
      pub answered : Unplugs ws x room (map_err (answered_of ws x))
      unfolding unplug_answer answered_of
      answered = go (state_holds_in ws) refl
        where
          go : (b : Bool) → state_holds_in ws ≡ b → Unplugs ws x room (map_err (answered_of ws x))
          go true f = rw (eq-eqb _ _ h, le-ltb _ _ r, f) (refl, refl, r)
          go false f = rw (eq-eqb _ _ h, le-ltb _ _ r, f) refl

module _ (ws : List ℕ) (x : ℕ) (out : List ℕ) where
  abbrev Says : ℕ → List ℕ → Type 0
  Says r new = (r ≡ unplug_answer ws (length out)) × (new ≡ unplug_leaves ws x out)

  pub entry_done : (v : Verdict) → (unplug_answer ws (length out) ≡ 0) × (v ≡ unplug_of (state_in ws) x) × (2 ≤ length out) → Says 0 (set (set out 0 v.number) 1 v.id)
  unfolding unplug_leaves
  entry_done v (a, e, r) = (sym a, written out r v.number v.id ∙ rw (a, e))

  pub entry_refused : (w : Unanswered) → unplug_answer ws (length out) ≡ refusal_number w → Says (refusal_number w) out
  unfolding unplug_leaves
  entry_refused w e = (sym e, rw (e, ne_eqb (refusal_number w) 0 (refusal_positive w)))
