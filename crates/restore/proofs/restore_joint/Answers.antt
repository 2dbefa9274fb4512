-- `restore_joint`: outgoing voters one by one, then the entering; a refused step ends it. Assumes nothing.
use Rattle.std.proofs.Common.{◌∙◌}
use Rattle.restore.proofs.Told.{accepted-number, given-back, refused-number}
use Rattle.restore.proofs.Answers.{joint_1, joint_2, joint-formed}
use Rattle.restore.proofs.restore_joint.Goals as goal

pub returns-in_err-one_by_one : goal.returns-in_err-one_by_one
returns-in_err-one_by_one c =
    given-back c.in_err-one_by_one.was _ c.from_residual.ensures.1 _
    ∙ joint_1 _ c.requires c.args.cs.now _ c.one_by_one.ensures (refused-number c.in_err-one_by_one.was)

pub enter-requires : goal.enter-requires
enter-requires c = joint-formed _ c.requires c.args.cs.now _ c.one_by_one.ensures

pub returns : goal.returns
returns c = joint_2 _ c.requires c.args.cs.now _ c.one_by_one.ensures (accepted-number c.in_ok-one_by_one.was) c.enter.ensures
