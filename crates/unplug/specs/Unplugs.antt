-- Can this box be unplugged?: document 02, d), asked of a STATE in words (docs/EMBEDDING.md). Assumes nothing.
use Rattle.std.specs.Prelude.{ℕ, Bool, not, cond, List, Result, Ok, Err, eqb, length}
use Rattle.tracker.specs.declared.Tracker.{Tracker}
use Rattle.tracker.specs.declared.refusal.Refusal.{Refusal}
use Rattle.tracker.specs.Apply.{Verdict, verdict_of}
use Rattle.tracker.specs.Refusals.{said}
use Rattle.changer.specs.Calls.{unplug_of}
use Rattle.unplug.specs.Words.{at, state_by, state_holds_by}
use Rattle.unplug.specs.declared.Unfit.{Unfit}
use Rattle.unplug.specs.declared.Unfit.TheVariants.{Length, Word}

-- the STATE that the words are
abbrev pub state_in : List ℕ → Tracker
state_in ws = state_by (at ws) 0

-- every word of it can be held by its field
unfoldable pub state_holds_in : List ℕ → Bool
state_holds_in ws = state_holds_by (at ws) 0

-- 0, and number and id; or the number of what is unfit
pub record Told : Type 0 where
  pub returned : ℕ
  pub number : ℕ
  pub id : ℕ

-- 1: not 967 words; 4: a word that no field can hold; else number and id
unfoldable pub told_of : List ℕ → ℕ → Told
told_of ws x =
    cond (not (eqb (length ws) 967)) (record { returned = 1; number = 0; id = 0 })
    (cond (not (state_holds_in ws)) (record { returned = 4; number = 0; id = 0 })
    (record { returned = 0; number = (unplug_of (state_in ws) x).number; id = (unplug_of (state_in ws) x).id }))

-- not 967 words; a word that no field can hold; else number and id
unfoldable pub answered_of : List ℕ → ℕ → Result Verdict Unfit
answered_of ws x =
    cond (not (eqb (length ws) 967)) (Err Length)
    (cond (not (state_holds_in ws)) (Err Word)
    (Ok (unplug_of (state_in ws) x)))

-- number and id of an answer
abbrev pub answered : {A : Type 0} → Result (Result A Refusal) Unfit → Result Verdict Unfit
answered (Ok r) = Ok (verdict_of (said r))
answered (Err e) = Err e

abbrev pub number_of : Unfit → ℕ
number_of Length = 1
number_of Word = 4

-- an answer as it is told
abbrev pub told : Result Verdict Unfit → Told
told (Ok v) = record { returned = 0; number = v.number; id = v.id }
told (Err e) = record { returned = number_of e; number = 0; id = 0 }
