-- `to_conf_change_single`: the four lists one behind the other. Assumes nothing.
use Rattle.restore.proofs.Lists.{listed-all}
use Rattle.restore.proofs.to_conf_change_single.Goals as goal

pub returns : goal.returns
returns c = listed-all c.args.cs.now _ _ _ _ _ c.new-list.ensures c.append.ensures c.append-2.ensures c.append-3.ensures c.append-4.ensures
