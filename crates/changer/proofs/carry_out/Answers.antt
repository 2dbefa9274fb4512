-- `changer::carry_out` meets its contract: over the tracked ids, 16, 17, or what the list came to. Assumes nothing.
use borrow.Author.Rules.{rules}
use mathlib.Core.Path.{◌∙◌, sym}
use Rattle.std.proofs.lemmas.Result.{err_from_is_err_and}
use Rattle.changer.proofs.Worked.{list_stops, list_empties, list_ends}
use Rattle.changer.proofs.carry_out.Goals as goal

pub returns-in_err-apply : goal.returns-in_err-apply
returns-in_err-apply c =
    let p = err_from_is_err_and c.from_residual.result c.from_residual.ensures.1 in
    rw (p.1, p.2) (list_stops c.args.tracked.now c.as_slice-base.ensures (search rules) c.args.conf _ _ c.new.ensures _ c.in_err-apply.ensures.answer)

pub returns-then-is_empty : goal.returns-then-is_empty
returns-then-is_empty c =
    list_empties c.args.tracked.now c.as_slice-base.ensures (search rules) c.args.conf _ _ c.new.ensures c.in_ok-apply.ensures.answer c.in_ok-apply.ensures.after
    (sym c.if-is_empty.true ∙ c.is_empty.ensures)

pub returns : goal.returns
returns c =
    list_ends c.args.tracked.now c.as_slice-base.ensures (search rules) c.args.conf _ _ c.new.ensures c.in_ok-apply.ensures.answer c.in_ok-apply.ensures.after
    (sym c.if-is_empty.false ∙ c.is_empty.ensures)
