-- `confstate::read::fixed_field` meets its contract. Assumes nothing.
use Rattle.std.proofs.Common.{arith}
use Rattle.std.proofs.lemmas.Grind.{common_steps}
use Rattle.confstate.specs.Steps.{fixed_at}
use Rattle.confstate.proofs.read.fixed_field.Goals as goal

pub returns-then-bytes-at : goal.returns-then-bytes-at
unfolding fixed_at
returns-then-bytes-at c = grind (arith, common_steps)

pub returns-then-misnumbered : goal.returns-then-misnumbered
unfolding fixed_at
returns-then-misnumbered c = grind (arith, common_steps, c.then-misnumbered.either)

pub returns : goal.returns
unfolding fixed_at
returns c = grind (arith, common_steps)
