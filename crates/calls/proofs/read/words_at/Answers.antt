-- `calls::read::words_at` meets its contract: the loop fills one place after the other. Assumes nothing.
use native.Mathlib.Omega.{arith}
use borrow.Author.Rules.{rules}
use lib.ListN.{length-replicate}
use Prim.Native.Nat.{◌+◌}
use Rattle.calls.proofs.ReadFilled.{fill_start, fill_next, words-end}
use Rattle.calls.proofs.read.words_at.Goals as goal

pub loop-i-init : goal.loop-i-init
loop-i-init g c = search (rules, fill_start, length-replicate)

pub loop-i-preserved : goal.loop-i-preserved
loop-i-preserved g c = fill_next c.loop-i.invariant (c.args.k + c.loop-i.i) c.loop-i-test.true (omega arith) c.word.ensures

pub returns : goal.returns
returns g c = words-end c.args.s.now c.loop-i.invariant c.loop-i-test.false
