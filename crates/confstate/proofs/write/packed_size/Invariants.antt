-- `write::packed_size` meets its contract: `n` is the bytes of the numbers before the index. Assumes nothing.
use Rattle.confstate.proofs.Sizing.{Counting}
use Rattle.confstate.proofs.write.packed_size.Given as goal

abbrev pub invariant-loop-id : goal.invariant-loop-id
invariant-loop-id l = Counting l.ids l.n l.id-index
