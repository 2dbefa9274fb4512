-- `enter`: the answer of `enter_joint` to the list made of the `ConfState`, applied. Assumes nothing.
use mathlib.Core.Path.{sym}
use lib.Seq.{length-take-le}
use Rattle.restore.proofs.Sizes.{ids-room, kinds-room}
use Rattle.restore.proofs.Answers.{entered_once}
use Rattle.restore.proofs.enter.Goals as goal

pub slice_bounds-enter_joint-end : goal.slice_bounds-enter_joint-end
slice_bounds-enter_joint-end c = let made = c.to_conf_change_single-incoming in
    sym (length-take-le _ _ (ids-room made.result made.type_inv made.ensures))

pub slice_bounds-enter_joint-end-2 : goal.slice_bounds-enter_joint-end-2
slice_bounds-enter_joint-end-2 c = let made = c.to_conf_change_single-incoming in
    sym (length-take-le _ _ (kinds-room made.result made.type_inv made.ensures))

pub returns : goal.returns
returns c = entered_once _ c.requires c.args.cs.now _ _ c.to_conf_change_single-incoming.ensures c.enter_joint-answer.ensures c.apply_answer.ensures
