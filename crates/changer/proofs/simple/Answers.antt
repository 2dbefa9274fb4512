-- `changer::simple` meets its contract, at each place where it returns. Assumes nothing.
use mathlib.Core.Path.{◌∙◌, sym}
use Rattle.std.proofs.lemmas.Result.{err_from_is_err_and}
use Rattle.changer.proofs.Called.{simple-stops, simple_list, simple-apart, simple-faulty, simple_passes}
use Rattle.changer.proofs.simple.Goals as goal

pub returns-in_err-may_simple : goal.returns-in_err-may_simple
returns-in_err-may_simple c =
    let p = err_from_is_err_and c.from_residual.result c.from_residual.ensures.1 in
    rw (p.1, p.2) (simple-stops _ _ _ _ c.in_err-may_simple.ensures)

pub returns-in_err-changed : goal.returns-in_err-changed
returns-in_err-changed c =
    let p = err_from_is_err_and c.from_residual-in_err-changed.result c.from_residual-in_err-changed.ensures.1 in
    rw (p.1, p.2) (simple_list _ _ _ c.in_ok-may_simple.ensures _ c.in_err-changed.ensures)

pub returns-then-two_apart : goal.returns-then-two_apart
returns-then-two_apart c =
    simple-apart _ _ _ c.in_ok-may_simple.ensures c.in_ok-changed.ensures (sym c.if-two_apart.true ∙ rw (← c.as_slice-new.ensures, ← c.as_slice-old.ensures) c.two_apart.ensures)

pub returns-in_err-check_again : goal.returns-in_err-check_again
returns-in_err-check_again c =
    let p = err_from_is_err_and c.from_residual-in_err-check_again.result c.from_residual-in_err-check_again.ensures.1 in
    let d = sym c.if-two_apart.false ∙ rw (← c.as_slice-new.ensures, ← c.as_slice-old.ensures) c.two_apart.ensures in
    rw (p.1, p.2) (simple-faulty _ _ _ c.in_ok-may_simple.ensures c.in_ok-changed.ensures d _ c.in_err-check_again.ensures)

pub returns : goal.returns
returns c =
    let d = sym c.if-two_apart.false ∙ rw (← c.as_slice-new.ensures, ← c.as_slice-old.ensures) c.two_apart.ensures in
    simple_passes _ _ _ c.in_ok-may_simple.ensures c.in_ok-changed.ensures d c.in_ok-check_again.ensures
