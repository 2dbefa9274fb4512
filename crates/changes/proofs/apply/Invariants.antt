-- `changes::apply` meets its contract. The loop's invariant: what is left of the list, carried out from `work`, answers for all. Assumes nothing.
use lib.ListN.{length}
use Rattle.changes.specs.Change.{started}
use Rattle.changes.proofs.Run.{Running}
use Rattle.changes.proofs.apply.Given as goal

abbrev pub invariant-loop-id : goal.invariant-loop-id
invariant-loop-id l = Running l.base l.ids l.kinds (started l.initial.work) (started l.work) (length l.yielded)
