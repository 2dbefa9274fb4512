-- `apply_answer`: a refused answer leaves the state; an accepted one is applied. Assumes nothing.
use Rattle.std.proofs.Common.{◌∙◌}
use Rattle.restore.proofs.Told.{given-back}
use Rattle.restore.proofs.Answers.{answer-applied, answer-refused}
use Rattle.restore.proofs.apply_answer.Goals as goal

pub returns-in_err-changed : goal.returns-in_err-changed
returns-in_err-changed c = given-back c.in_err-changed.was _ c.from_residual.ensures.1 _ ∙ answer-refused _ _ c.in_err-changed.was

pub returns : goal.returns
returns c = answer-applied _ _ c.in_ok-changed.was c.apply_conf.ensures
