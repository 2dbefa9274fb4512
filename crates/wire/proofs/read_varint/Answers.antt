-- `wire::read_varint` meets its contract: the two short ways, then the long one. Assumes nothing.
use borrow.Author.Rules.{rules}
use Rattle.wire.proofs.Reading.{short_none, short-one, short_two}
use Rattle.wire.proofs.read_varint.Goals as goal

pub returns-then-bytes-at : goal.returns-then-bytes-at
returns-then-bytes-at c = search (rules, short_none)

pub returns-then-first-lt128 : goal.returns-then-first-lt128
returns-then-first-lt128 c = search (rules, short-one)

pub returns-then-second-lt128 : goal.returns-then-second-lt128
returns-then-second-lt128 c = search (rules, short_two)
