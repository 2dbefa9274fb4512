-- `calls::read::kinds_at` meets its contract: the loop fills one place after the other. Assumes nothing.
use native.Mathlib.Omega.{arith}
use borrow.Author.Rules.{rules}
use Prim.Native.Nat.{◌+◌, ◌%◌}
use mathlib.Core.Path.{ap}
use Rattle.calls.proofs.ReadFilled.{fill_start, fill_next, kinds-end}
use Rattle.calls.proofs.read.kinds_at.Goals as goal

pub loop-i-init : goal.loop-i-init
loop-i-init c = search (rules, fill_start)

pub loop-i-preserved : goal.loop-i-preserved
loop-i-preserved c = fill_next c.loop-i.invariant (c.args.k + c.loop-i.i) c.loop-i-test.true (omega arith) (ap (λ w. w % 256) c.word.ensures)

pub returns : goal.returns
returns c = kinds-end c.args.s.now c.loop-i.invariant c.loop-i-test.false
