-- `confstate::read::packed` meets its contract. Assumes nothing.
use Rattle.confstate.proofs.Packing.{Packing}
use Rattle.confstate.specs.Words.{list_in}
use lib.ListN.{length}
use Prim.Native.Nat.{◌-◌}
use Rattle.confstate.proofs.read.packed.Given as goal

abbrev pub invariant-loop-p : goal.invariant-loop-p
invariant-loop-p l = Packing l.bytes (list_in l.initial.list 0) (length (list_in l.initial.list 0)) l.list l.n l.p

abbrev pub decreases-loop-p : goal.decreases-loop-p
decreases-loop-p l = length l.bytes - l.p
