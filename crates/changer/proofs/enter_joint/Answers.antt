-- `changer::enter_joint` meets its contract, at each place where it returns. Assumes nothing.
use Rattle.std.proofs.lemmas.Result.{err_from_is_err_and}
use Rattle.changer.proofs.Called.{enter-stops, enter_list, enter-faulty, enter_passes}
use Rattle.changer.proofs.enter_joint.Goals as goal

pub returns-in_err-may_enter : goal.returns-in_err-may_enter
returns-in_err-may_enter c =
    let p = err_from_is_err_and c.from_residual.result c.from_residual.ensures.1 in
    rw (p.1, p.2) (enter-stops _ _ _ _ _ c.in_err-may_enter.ensures)

pub returns-in_err-changed : goal.returns-in_err-changed
returns-in_err-changed c =
    let p = err_from_is_err_and c.from_residual-in_err-changed.result c.from_residual-in_err-changed.ensures.1 in
    rw (p.1, p.2) (enter_list _ _ _ _ c.in_ok-may_enter.ensures c.entering.ensures _ c.in_err-changed.ensures)

pub returns-in_err-check_again : goal.returns-in_err-check_again
returns-in_err-check_again c =
    let p = err_from_is_err_and c.from_residual-in_err-check_again.result c.from_residual-in_err-check_again.ensures.1 in
    rw (p.1, p.2) (enter-faulty _ _ _ _ c.in_ok-may_enter.ensures c.entering.ensures c.in_ok-changed.ensures _ c.in_err-check_again.ensures)

pub returns : goal.returns
returns c = enter_passes _ _ _ _ c.in_ok-may_enter.ensures c.entering.ensures c.in_ok-changed.ensures c.in_ok-check_again.ensures
