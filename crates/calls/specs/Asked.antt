-- The calls and their numbers, and why a call is not answered: docs/EMBEDDING.md. Assumes nothing.
use Rattle.std.specs.Prelude.{◌≡◌, ℕ, ◌<◌, Result, MatchResult}
use Rattle.unplug.specs.declared.Unfit.{Unfit}
use Rattle.unplug.specs.declared.Unfit.TheVariants as unfit
use Rattle.calls.specs.declared.asked.Call.{Call}
use Rattle.calls.specs.declared.asked.Call.TheVariants.{Check, InOrder, Simple, EnterJoint, LeaveJoint, ApplyConf, ToConfState, Restore, RestoreStepByStep}
use Rattle.calls.specs.declared.asked.Unanswered.{Unanswered}
use Rattle.calls.specs.declared.asked.Unanswered.TheVariants.{Length, Room, UnknownCall, Word}

abbrev pub call_number : Call → ℕ
call_number Check = 0
call_number InOrder = 1
call_number Simple = 2
call_number EnterJoint = 3
call_number LeaveJoint = 4
call_number ApplyConf = 5
call_number ToConfState = 6
call_number Restore = 7
call_number RestoreStepByStep = 8

-- 1: the length of what is given; 2: too short for the answer; 3: unknown call; 4: a word that no field can hold
abbrev pub refusal_number : Unanswered → ℕ
refusal_number Length = 1
refusal_number Room = 2
refusal_number UnknownCall = 3
refusal_number Word = 4

abbrev pub same_unfit : Unfit → Unanswered
same_unfit unfit.Length = Length
same_unfit unfit.Word = Word

-- a number names its call, and one over 8 none
abbrev pub Names : ℕ → Result Call Unanswered → Type 0
Names n r = MatchResult r (λ c. call_number c ≡ n) (λ e. (e ≡ UnknownCall) × (8 < n))
