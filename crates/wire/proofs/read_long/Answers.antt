-- `wire::read_long` meets its contract: `i` bytes from `at` on are passed, and worth `value`. Assumes nothing.
use native.Mathlib.Omega.{arith}
use borrow.Author.Rules.{rules}
use Rattle.wire.proofs.Reading.{read-cut, read-value, read_next, unit_small, sum_small, sum_more, nine_then}
use Rattle.wire.proofs.read_long.Goals as goal

pub returns-then-bytes-at : goal.returns-then-bytes-at
returns-then-bytes-at c = search (rules, read-cut)

pub overflow_mul-result : goal.overflow_mul-result
overflow_mul-result c = omega (arith, sum_small c.loop-i.invariant c.loop-i-test.true c.if-byte-lt128.true)

pub overflow_add-result : goal.overflow_add-result
overflow_add-result c = omega (arith, sum_small c.loop-i.invariant c.loop-i-test.true c.if-byte-lt128.true)

pub returns-then-byte-lt128 : goal.returns-then-byte-lt128
returns-then-byte-lt128 c = search (rules, read-value)

pub overflow_mul-value : goal.overflow_mul-value
overflow_mul-value c = omega (arith, sum_more c.loop-i.invariant c.loop-i-test.true c.if-byte-lt128.false (omega arith))

pub overflow_add-value : goal.overflow_add-value
overflow_add-value c = omega (arith, sum_more c.loop-i.invariant c.loop-i-test.true c.if-byte-lt128.false (omega arith))

pub overflow_mul-unit : goal.overflow_mul-unit
overflow_mul-unit c = omega (arith, unit_small c.loop-i.invariant c.loop-i-test.true)

pub loop-i-preserved : goal.loop-i-preserved
loop-i-preserved c = read_next c.loop-i.invariant c.if-bytes-at.false c.loop-i-test.true (omega arith) c.if-byte-lt128.false (omega arith)

pub returns : goal.returns
returns c = search (rules, nine_then)
