-- `wire::put_varint` meets its contract: `m` is what is left of the number, from `p` on. Assumes nothing.
use native.Mathlib.Omega.{arith}
use borrow.Author.Rules.{rules}
use Rattle.wire.proofs.Putting.{putting_start, putting_length, putting_room, putting_next, putting_last}
use Rattle.wire.proofs.put_varint.Goals as goal

pub loop-m-init : goal.loop-m-init
loop-m-init c = search (rules, putting_start)

pub bounds-out-p : goal.bounds-out-p
bounds-out-p c = search (rules, putting_room)

pub loop-m-preserved : goal.loop-m-preserved
loop-m-preserved c = search (rules, putting_next)

pub bounds-out-p-2 : goal.bounds-out-p-2
bounds-out-p-2 c = search (rules, putting_room)

pub shape_of-out : goal.shape_of-out
shape_of-out c = search (rules, putting_length)

pub returns : goal.returns
returns c = putting_last c.loop-m.invariant c.loop-m-test.false (omega arith)
