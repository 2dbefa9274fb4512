-- `append`: the ids so far stand behind the list, each of this kind. Assumes nothing.
use Rattle.changer.proofs.Taken.{taken-next, taken-none}
use borrow.Author.Rules.{rules}
use Rattle.tracker.proofs.Sizes.{list_sized}
use Rattle.restore.proofs.Lists.{coded, appending_end, appending_next, appending_room, appending_start}
use Rattle.restore.proofs.Changes.append.Goals as goal

pub loop-id-init : goal.loop-id-init
loop-id-init c = appending_start _ _ _ (search (rules, list_sized)) c.requires (cc)

pub push-requires : goal.push-requires
push-requires c = appending_room c.loop-id.invariant (taken-next _ c.in-Some.ensures.steps)

pub loop-id-preserved : goal.loop-id-preserved
loop-id-preserved c = appending_next c.loop-id.invariant (taken-next _ c.in-Some.ensures.steps) c.push.ensures (coded _)

pub returns : goal.returns
returns c = appending_end c.loop-id.invariant (taken-none _ _ c.in-None.ensures.steps)
