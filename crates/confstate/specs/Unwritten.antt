-- The writer's refusals. Assumes nothing.
use Rattle.std.specs.Prelude.{ℕ, ◌+◌, Result, Ok, Err}
use Rattle.confstate.specs.declared.write.Unwritten.{Unwritten}
use Rattle.confstate.specs.declared.write.Unwritten.TheVariants.{NoConfState, LongList, SmallOutput}

-- its number: docs/EMBEDDING.md
abbrev pub unwritten_number : Unwritten → ℕ
unwritten_number NoConfState = 1
unwritten_number LongList = 2
unwritten_number SmallOutput = 31

-- 0, or the refusal's number
abbrev pub said : {A : Type 0} → Result A Unwritten → ℕ
said (Ok x) = 0
said (Err r) = unwritten_number r

-- the length, or 2^32 and the refusal's number
abbrev pub answered : Result ℕ Unwritten → ℕ
answered (Ok n) = n
answered (Err r) = 4294967296 + unwritten_number r
