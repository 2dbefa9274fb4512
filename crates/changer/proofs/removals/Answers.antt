-- `changer::removals` meets its contract: what is left of the walk, logged after `log`, is the whole log. Assumes nothing.
use mathlib.Core.Path.{◌∙◌}
use lib.ListN.{drop_of_length-le}
use Rattle.idset.proofs.Sizes.{set_sized}
use Rattle.changer.proofs.Removed.{next_left, leave-start, leave-end, leave-kept, leave-logged}
use Rattle.changer.proofs.removals.Goals as goal
use Rattle.changer.proofs.removals.Goals.{then-not-is_voter+then-not-is_learner, else-not-is_voter}

pub loop-id-init : goal.loop-id-init
loop-id-init c = leave-start _ _ _ (set_sized c.args.outgoing c.well_formed.0) c.as_slice-id-items.ensures c.new-log.ensures

pub loop-id-preserved : goal.loop-id-preserved
loop-id-preserved c =
    let h = next_left c.as_slice-id-items.result.now c.loop-id.id-index c.loop-id-test.true in
    let p = rw c.as_slice-voters.ensures at c.seek-voter.ensures in
    let q = rw c.as_slice-others.ensures at c.seek-learner.ensures in
    let v = rw c.as_slice-voters.ensures at c.stands_at-is_voter.ensures in
    let l = rw c.as_slice-others.ensures at c.stands_at-is_learner.ensures in
    elim c.if-not-is_voter.branch [
      | then-not-is_voter+then-not-is_learner w ↦ leave-logged c.loop-id.invariant h p q v l w.if-not-is_voter.true w.if-not-is_learner.true (w.log-is ∙ w.push.ensures)
      | else-not-is_voter w ↦ rw w.log-is (leave-kept c.loop-id.invariant h p q v l w.else-not-is_voter.either)
    ]

pub returns : goal.returns
returns c = leave-end c.loop-id.invariant (drop_of_length-le _ c.loop-id-test.false)
