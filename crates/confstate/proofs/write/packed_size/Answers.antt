-- `write::packed_size` meets its contract: `n` is the bytes of the numbers before the index. Assumes nothing.
use native.Mathlib.Omega.{arith}
use borrow.Author.Rules.{rules}
use Rattle.confstate.proofs.Sizing.{counting_start, counting_few, counting_next, counting_end}
use Rattle.confstate.proofs.write.packed_size.Goals as goal

pub loop-id-init : goal.loop-id-init
loop-id-init c = counting_start

pub overflow_add-n : goal.overflow_add-n
overflow_add-n c = omega (arith, counting_few (counting_next c.loop-id.invariant c.loop-id-test.true c.size-n.ensures) c.requires)

pub loop-id-preserved : goal.loop-id-preserved
loop-id-preserved c = search (rules, counting_next)

pub returns : goal.returns
returns c = search (rules, counting_end)
