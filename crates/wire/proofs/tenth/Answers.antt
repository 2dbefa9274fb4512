-- `wire::tenth` meets its contract. Assumes nothing.
use borrow.Author.Rules.{rules}
use Rattle.wire.proofs.Reading.{tenth_none, tenth-value, tenth-cut, tenth_over}
use Rattle.wire.proofs.tenth.Goals as goal

pub returns-then-bytes-at : goal.returns-then-bytes-at
returns-then-bytes-at c = search (rules, tenth_none)

pub returns-then-b-lt2 : goal.returns-then-b-lt2
returns-then-b-lt2 c = search (rules, tenth-value, c.requires)

pub returns-in-Some : goal.returns-in-Some
returns-in-Some c = search (rules, tenth_over)

pub returns-in-None : goal.returns-in-None
returns-in-None c = search (rules, tenth-cut)
