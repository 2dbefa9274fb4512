-- `too_long` tests the four lists, as the definition does. Assumes nothing.
use Rattle.std.proofs.Common.{rules}
use Rattle.restore.proofs.Answers.{any_long}
use Rattle.restore.proofs.too_long.Goals as goal

pub returns : goal.returns
returns c = search (rules, any_long)
