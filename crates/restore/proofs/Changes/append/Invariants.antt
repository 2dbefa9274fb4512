-- `append`: the ids so far stand behind the list, each of this kind. Assumes nothing.
use Rattle.std.proofs.Common.{take}
use Rattle.restore.specs.Steps.{number_in}
use Rattle.restore.proofs.Lists.{Appending}
use Rattle.restore.proofs.Changes.append.Given as goal

abbrev pub invariant-loop-id : goal.invariant-loop-id
invariant-loop-id l = Appending l.initial.self l.added (number_in l.kind) l.self (take l.id-iterator.n l.id-iterator.iter.rest.now)
