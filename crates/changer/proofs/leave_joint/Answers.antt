-- `changer::leave_joint` meets its contract, at each place where it returns. Assumes nothing.
use Rattle.std.proofs.lemmas.Result.{err_from_is_err_and}
use Rattle.changer.proofs.Called.{leave-stops, leave-faulty, leave_passes}
use Rattle.changer.proofs.leave_joint.Goals as goal

pub returns-in_err-may_leave : goal.returns-in_err-may_leave
returns-in_err-may_leave c =
    let p = err_from_is_err_and c.from_residual.result c.from_residual.ensures.1 in
    rw (p.1, p.2) (leave-stops _ _ c.in_err-may_leave.ensures)

pub returns-in_err-check_again : goal.returns-in_err-check_again
returns-in_err-check_again c =
    let p = err_from_is_err_and c.from_residual-in_err-check_again.result c.from_residual-in_err-check_again.ensures.1 in
    rw (p.1, p.2) (leave-faulty _ c.in_ok-may_leave.ensures c.leave-changed.ensures _ c.in_err-check_again.ensures)

pub returns : goal.returns
returns c = leave_passes _ c.in_ok-may_leave.ensures c.leave-changed.ensures c.in_ok-check_again.ensures
