-- `calls::read::records_at` meets its contract: the loop fills one place after the other. Assumes nothing.
use native.Mathlib.Omega.{arith}
use borrow.Author.Rules.{rules}
use Prim.Native.Nat.{◌+◌, ◌*◌}
use Rattle.calls.proofs.ReadFilled.{fill_start, fill_next, records-end}
use Rattle.calls.proofs.read.records_at.Goals as goal

pub loop-i-init : goal.loop-i-init
loop-i-init c = search (rules, fill_start)

pub loop-i-preserved : goal.loop-i-preserved
loop-i-preserved c = fill_next c.loop-i.invariant (c.args.k + 10 * c.loop-i.i) c.loop-i-test.true (omega arith) c.record_at.ensures

pub returns : goal.returns
returns c = records-end c.args.s.now c.loop-i.invariant c.loop-i-test.false
