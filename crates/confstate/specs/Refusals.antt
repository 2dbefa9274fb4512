-- The reader's refusals. Assumes nothing.
use Rattle.std.specs.Prelude.{ℕ, Result, Ok, Err}
use Rattle.wire.specs.declared.Fault.{Fault}
use Rattle.wire.specs.declared.Fault.TheVariants as wire
use Rattle.confstate.specs.declared.read.Refusal.{Refusal}
use Rattle.confstate.specs.declared.read.Refusal.TheVariants.{CutShort, Malformed, LongList, FewWords}

-- its number: docs/EMBEDDING.md
abbrev pub number_of : Refusal → ℕ
number_of CutShort = 28
number_of Malformed = 29
number_of LongList = 30
number_of FewWords = 100

-- what a number's fault makes of its field
abbrev pub refusal_for : Fault → Refusal
refusal_for wire.CutShort = CutShort
refusal_for (wire.Malformed next) = Malformed

-- what is told of a result: 0, or the refusal's number
abbrev pub told : {A : Type 0} → Result A Refusal → ℕ
told (Ok x) = 0
told (Err r) = number_of r
