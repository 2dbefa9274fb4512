-- `write::put_packed` meets its contract: what is left from `p` on are the numbers from the index on. Assumes nothing.
use Rattle.confstate.proofs.Writing.{Packs}
use Rattle.confstate.proofs.write.put_packed.Given as goal

abbrev pub invariant-loop-id : goal.invariant-loop-id
invariant-loop-id l = Packs l.ids l.initial.out l.at l.out l.p l.id-index
