-- `calls::write::put_each` meets its contract: what is left to be put is that of the others. Assumes nothing.
use native.Mathlib.Omega.{arith}
use Rattle.text.proofs.Outputs.{along_start, along_next, along_end}
use Rattle.calls.proofs.write.put_each.Goals as goal

pub loop-item-init : goal.loop-item-init
loop-item-init g c = λ f h. along_start (omega arith) (omega arith)

pub loop-item-preserved : goal.loop-item-preserved
loop-item-preserved g c = λ f h. along_next (c.loop-item.invariant f h) c.item-item.result c.loop-item-test.true (rw (← c.item-item.is) (h _ _ _ c.put.ensures))

pub returns : goal.returns
returns g c = λ f h. along_end (c.loop-item.invariant f h) (omega arith)
