-- `one_by_one`: what is left of the list answers for all of it. Assumes nothing.
use Rattle.std.proofs.Common.{take}
use Rattle.tracker.specs.Bridge.{entries_in}
use Rattle.restore.proofs.OneByOne.{Stepping}
use Rattle.restore.proofs.one_by_one.Given as goal

abbrev pub invariant-loop-id : goal.invariant-loop-id
invariant-loop-id l = Stepping l.next_idx l.kind (entries_in l.fn.list) l.fn.t l.t (take l.id-iterator.n l.id-iterator.iter.rest.now)
