-- `listing::number_at` meets its contract: the loop reads from the last byte to the first. Assumes nothing.
use native.Mathlib.Omega.{arith}
use Prim.Native.Nat.{◌+◌, ◌-◌}
use borrow.Author.Rules.{rules}
use Rattle.listing.proofs.Numbers.{read-start, read_small, read_next, read-end}
use Rattle.listing.proofs.number_at.Goals as goal

pub loop-i-init : goal.loop-i-init
loop-i-init c = read-start

pub overflow_mul-n : goal.overflow_mul-n
overflow_mul-n c = omega (arith, read_small c.loop-i.invariant c.loop-i-test.true)

pub overflow_add-n : goal.overflow_add-n
overflow_add-n c = omega (arith, read_small c.loop-i.invariant c.loop-i-test.true, c.byte_at.ensures, c.type_inv.s (c.args.at + (c.loop-i.i - 1)))

pub loop-i-preserved : goal.loop-i-preserved
loop-i-preserved c = read_next c.loop-i.invariant c.loop-i-test.true c.byte_at.ensures (omega (arith, c.byte_at.ensures, c.type_inv.s (c.args.at + (c.loop-i.i - 1))))

pub returns : goal.returns
returns c = search (rules, read-end)
