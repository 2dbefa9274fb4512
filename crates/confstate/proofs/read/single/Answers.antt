-- `confstate::read::single` meets its contract. Assumes nothing.
use Rattle.confstate.proofs.Fields.{single-full, single_more}
use Rattle.confstate.proofs.read.single.Goals as goal

pub returns-then-n-ge-IDS : goal.returns-then-n-ge-IDS
returns-then-n-ge-IDS c = single-full c.requires c.args.value c.if-n-ge-IDS.true

pub returns : goal.returns
returns c = single_more c.requires c.args.value c.if-n-ge-IDS.false
