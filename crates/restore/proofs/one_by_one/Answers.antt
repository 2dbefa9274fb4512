-- `one_by_one`: what is left of the list answers for all of it. Assumes nothing.
use Rattle.std.proofs.Common.{◌∙◌}
use Rattle.changer.proofs.Taken.{taken-next, taken-none}
use Rattle.restore.proofs.Told.{accepted-number, given-back, refused-number}
use Rattle.restore.proofs.OneByOne.{stepping_end, stepping_stop, stepping_next}
use Rattle.restore.proofs.one_by_one.Goals as goal

pub returns-in_err-step : goal.returns-in_err-step
returns-in_err-step c =
    given-back c.in_err-step.was _ c.from_residual.ensures.1 _
    ∙ stepping_stop c.loop-id.invariant (taken-next _ c.in-Some.ensures.steps) c.step.ensures (refused-number c.in_err-step.was)

pub loop-id-preserved : goal.loop-id-preserved
loop-id-preserved c = stepping_next c.loop-id.invariant (taken-next _ c.in-Some.ensures.steps) c.step.ensures (accepted-number c.in_ok-step.was)

pub returns : goal.returns
returns c = stepping_end c.loop-id.invariant (taken-none _ _ c.in-None.ensures.steps)
