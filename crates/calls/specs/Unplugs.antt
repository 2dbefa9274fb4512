-- Whether a box can be unplugged, as the entry answers it: docs/EMBEDDING.md. Assumes nothing.
use Rattle.std.specs.Prelude.{◌≡◌, ◌≤◌, Result, MatchResult, Ok, Err, ℕ, not, cond, List, ◌∷◌, eqb, ltb, length, drop}
use Rattle.changer.specs.Calls.{unplug_of}
use Rattle.tracker.specs.Apply.{Verdict, verdict_of}
use Rattle.tracker.specs.Refusals.{said}
use Rattle.tracker.specs.declared.refusal.Refusal.{Refusal}
use Rattle.calls.specs.Asked.{refusal_number}
use Rattle.calls.specs.declared.asked.Unanswered.{Unanswered}
use Rattle.unplug.specs.Unplugs.{state_holds_in, state_in}

-- 1: the state's length; 2: the verdict too short; 4: a word that no field can hold. The numbers are those of `call_answer`.
unfoldable pub unplug_answer : List ℕ → ℕ → ℕ
unplug_answer ws room =
    cond (not (eqb (length ws) 967)) 1
    (cond (ltb room 2) 2
    (cond (not (state_holds_in ws)) 4 0))

-- number and id at the front, every word after them kept; as it was where the answer is not 0
unfoldable pub unplug_leaves : List ℕ → ℕ → List ℕ → List ℕ
unplug_leaves ws x out = cond (eqb (unplug_answer ws (length out)) 0) ((unplug_of (state_in ws) x).number ∷ (unplug_of (state_in ws) x).id ∷ drop 2 out) out

-- the number and id, where they are told; else why not
abbrev pub Unplugs : List ℕ → ℕ → ℕ → Result Verdict Unanswered → Type 0
Unplugs ws x room r = MatchResult r (λ v. (unplug_answer ws room ≡ 0) × (v ≡ unplug_of (state_in ws) x) × (2 ≤ room)) (λ e. unplug_answer ws room ≡ refusal_number e)

-- number and id of an answer
abbrev pub told : {A : Type 0} → Result (Result A Refusal) Unanswered → Result Verdict Unanswered
told (Ok r) = Ok (verdict_of (said r))
told (Err e) = Err e
