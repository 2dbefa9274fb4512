-- `restore`: `restore_step_by_step`, made whole. Assumes nothing.
use Rattle.restore.proofs.Restored.{whole-accepted, whole-refused}
use Rattle.restore.proofs.restore.Goals as goal

pub returns-then-is_err : goal.returns-then-is_err
returns-then-is_err c = whole-refused _ _ _ _ c.restore_step_by_step-result.ensures c.is_err.ensures.value c.if-is_err.true

pub returns-else-is_err : goal.returns-else-is_err
returns-else-is_err c = whole-accepted _ _ _ _ c.restore_step_by_step-result.ensures c.is_err.ensures.value c.if-is_err.false
