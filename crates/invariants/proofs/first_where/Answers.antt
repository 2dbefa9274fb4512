use borrow.Author.Rules.{rules}
use Rattle.invariants.proofs.Walk.{walk_end, walk_halt, walk_next}
use Rattle.invariants.proofs.first_where.Goals as goal

pub returns-then-stands_at-among : goal.returns-then-stands_at-among
returns-then-stands_at-among c = walk_halt c.loop-id.invariant c.loop-id-test.true _ c.seek-place.ensures _ c.stands_at.ensures c.if-stands_at-among.true

pub loop-id-preserved : goal.loop-id-preserved
loop-id-preserved c = walk_next c.loop-id.invariant c.loop-id-test.true _ c.seek-place.ensures _ c.stands_at.ensures c.if-stands_at-among.false

pub returns : goal.returns
returns c = walk_end c.loop-id.invariant c.loop-id-test.false
