-- `restore_single`: voters, learners, staged, one after the other; a refused step ends it. Assumes nothing.
use Rattle.std.proofs.Common.{◌∙◌}
use Rattle.restore.proofs.Told.{accepted-number, given-back, refused-number}
use Rattle.restore.proofs.Answers.{single_1, single_2, single_3, single-formed, single_formed_2}
use Rattle.restore.proofs.restore_single.Goals as goal

pub returns-in_err-one_by_one : goal.returns-in_err-one_by_one
returns-in_err-one_by_one c =
    given-back c.in_err-one_by_one.was _ c.from_residual.ensures.1 _
    ∙ single_1 _ c.requires c.args.cs.now _ c.one_by_one.ensures (refused-number c.in_err-one_by_one.was)

pub one_by_one-requires-2 : goal.one_by_one-requires-2
one_by_one-requires-2 c = single-formed _ c.requires c.args.cs.now _ c.one_by_one.ensures

pub returns-in_err-one_by_one-2 : goal.returns-in_err-one_by_one-2
returns-in_err-one_by_one-2 c =
    given-back c.in_err-one_by_one-2.was _ c.from_residual-in_err-one_by_one-2.ensures.1 _
    ∙ single_2 _ c.requires c.args.cs.now _ c.one_by_one.ensures (accepted-number c.in_ok-one_by_one.was) c.one_by_one-2.ensures (refused-number c.in_err-one_by_one-2.was)

pub one_by_one-requires-3 : goal.one_by_one-requires-3
one_by_one-requires-3 c = single_formed_2 _ c.requires c.args.cs.now _ c.one_by_one.ensures (accepted-number c.in_ok-one_by_one.was) c.one_by_one-2.ensures

pub returns : goal.returns
returns c = single_3 _ c.requires c.args.cs.now _ c.one_by_one.ensures (accepted-number c.in_ok-one_by_one.was) c.one_by_one-2.ensures (accepted-number c.in_ok-one_by_one-2.was) c.one_by_one-3.ensures
