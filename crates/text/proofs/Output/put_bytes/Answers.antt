-- `Output::put_bytes` meets its contract. Assumes nothing.
use native.Mathlib.Omega.{arith}
use Rattle.text.proofs.Laws.{each_byte}
use Rattle.text.proofs.Outputs.{along_start, along_next, along_end, writes_put}
use Rattle.text.proofs.Output.put_bytes.Goals as goal

pub loop-b-init : goal.loop-b-init
loop-b-init c = along_start (omega arith) (omega arith)

pub loop-b-preserved : goal.loop-b-preserved
loop-b-preserved c = along_next c.loop-b.invariant _ c.loop-b-test.true (writes_put c.put_at-at.ensures)

pub returns : goal.returns
returns c = rw each_byte at (along_end c.loop-b.invariant (omega arith))
