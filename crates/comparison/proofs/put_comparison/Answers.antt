-- `comparison::put_comparison` meets its contract: `refused N`, or the lines of the messages that were read. Assumes nothing.
use mathlib.Core.Path.{refl}
use Rattle.comparison.proofs.Messages.{number-some, compared_refused, both_ascend, compared_lines}
use Rattle.comparison.proofs.put_comparison.Goals as goal

pub put_lines-requires : goal.put_lines-requires
put_lines-requires c = both_ascend c.in-Ok.ensures refl

pub returns-in-Ok : goal.returns-in-Ok
returns-in-Ok c = rw (compared_lines c.in-Ok.ensures refl) c.put_lines.ensures

pub returns-in-Err : goal.returns-in-Err
returns-in-Err c = rw (compared_refused c.in-Err.ensures (number-some c.in-Err.refusal)) c.put_refused.ensures
