-- `apply_conf`: three tests, then the log; nothing has changed where it is refused. Assumes nothing.
use borrow.Author.Rules.{rules}
use Rattle.std.proofs.lemmas.Result.{err_from_is_err_and}
use Rattle.tracker.specs.Apply.{apply_of}
use Rattle.tracker.proofs.Bridge.{log-parts, rostered}
use Rattle.tracker.proofs.Answers.{passed}
use Rattle.tracker.proofs.EnrolApply.{apply-full, apply-done}
use Rattle.tracker.proofs.apply.apply_conf.Goals as goal

pub returns-then-is_malformed : goal.returns-then-is_malformed
unfolding apply_of
returns-then-is_malformed c = search rules

pub invariant_of-roster : goal.invariant_of-roster
invariant_of-roster c = rostered _ (passed _ _ c.is_malformed.ensures c.if-is_malformed.false)

pub shared_ref_as_front-enrol : goal.shared_ref_as_front-enrol
shared_ref_as_front-enrol c = (log-parts _ (passed _ _ c.is_malformed-else-is_malformed-2.ensures c.if-is_malformed-3.false)).few

pub returns-in_err-enrol : goal.returns-in_err-enrol
returns-in_err-enrol c =
    let p = err_from_is_err_and c.from_residual.result c.from_residual.ensures.1 in
    rw (p.1, p.2)
    (apply-full _ _ _ _ (passed _ _ c.is_malformed.ensures c.if-is_malformed.false) (passed _ _ c.is_malformed-else-is_malformed.ensures c.if-is_malformed-2.false)
    (passed _ _ c.is_malformed-else-is_malformed-2.ensures c.if-is_malformed-3.false) _ _ _ c.in_err-enrol.ensures.value (search))

pub returns : goal.returns
returns c =
    apply-done _ _ _ _ (passed _ _ c.is_malformed.ensures c.if-is_malformed.false) (passed _ _ c.is_malformed-else-is_malformed.ensures c.if-is_malformed-2.false)
    (passed _ _ c.is_malformed-else-is_malformed-2.ensures c.if-is_malformed-3.false) _ _ c.fresh-fresh.ensures c.in_ok-enrol.ensures.value _ c.roster.invariant c.roster.view_is
    c.in_ok-enrol.ensures.after (search)
