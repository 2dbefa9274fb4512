-- `calls::read::number_at` meets its contract: eight bytes are there, or the first i of them are read. Assumes nothing.
use native.Mathlib.Omega.{arith}
use borrow.Author.Rules.{rules}
use Rattle.calls.proofs.ReadFilled.{fill_start, fill_next}
use Rattle.calls.proofs.ReadNumbers.{number_read, number_chunk}
use Prim.Native.Nat.{◌+◌}
use Rattle.calls.proofs.read.number_at.Goals as goal

pub returns-in-Some : goal.returns-in-Some
returns-in-Some c = number_chunk c.args.s.now c.args.at (omega arith) c.in-Some.ensures.cases c.from_le_bytes.ensures

pub loop-i-init : goal.loop-i-init
loop-i-init c = search (rules, fill_start)

pub loop-i-preserved : goal.loop-i-preserved
loop-i-preserved c = fill_next c.loop-i.invariant (c.args.at + c.loop-i.i) c.loop-i-test.true (omega arith) (search rules)

pub returns : goal.returns
returns c = rw (number_read c.args.s.now c.args.at c.loop-i.invariant c.loop-i-test.false) at c.from_le_bytes-2.ensures
