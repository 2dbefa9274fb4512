-- `changes::pending::tracked_in` meets its contract: the base is asked, then the log. Assumes nothing.
use lib.ListN.{take}
use Rattle.changes.proofs.Log.{memb_any, says_fold}
use Rattle.changes.proofs.pending.tracked_in.Goals as goal

pub returns : goal.returns
returns c = let a = c.args in
    rw (← says_fold a.id (take a.count a.log.now.entries), ← memb_any a.id a.base.now, ← c.contains.ensures.value) c.says.ensures
