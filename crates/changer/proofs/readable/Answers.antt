-- `changer::readable` meets its contract: the first test that refuses, or none. Assumes nothing.
use Rattle.changer.proofs.Tests.{reads-long, reads-above, reads_well}
use Rattle.changer.proofs.readable.Goals as goal

pub returns-then-ids-kinds : goal.returns-then-ids-kinds
returns-then-ids-kinds c = reads-long _ _ c.then-ids-kinds.either

pub returns-then-above_2 : goal.returns-then-above_2
returns-then-above_2 c = reads-above _ _ c.if-ids-kinds.false c.if-ids-gt-MAX_CHANGES.false c.above_2.ensures c.if-above_2.true

pub returns : goal.returns
returns c = reads_well _ _ c.if-ids-kinds.false c.if-ids-gt-MAX_CHANGES.false c.above_2.ensures c.if-above_2.false
