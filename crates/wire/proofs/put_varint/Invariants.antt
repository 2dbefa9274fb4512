-- `wire::put_varint` meets its contract: `m` is what is left of the number, from `p` on. Assumes nothing.
use Rattle.wire.proofs.Putting.{Putting}
use Rattle.wire.proofs.put_varint.Given as goal

abbrev pub invariant-loop-m : goal.invariant-loop-m
invariant-loop-m l = Putting l.initial.out l.at l.n l.out l.p l.m

abbrev pub decreases-loop-m : goal.decreases-loop-m
decreases-loop-m l = l.m
