-- `write::ids` meets its contract: the list is lent as its count says. Assumes nothing.
use mathlib.Core.Path.{refl}
use native.Mathlib.Omega.{arith}
use Rattle.confstate.proofs.Sizing.{block-count, block_lent}
use Rattle.confstate.proofs.write.ids.Goals as goal

pub overflow_add-result : goal.overflow_add-result
overflow_add-result c = omega (arith, block-count c.requires, c.requires.words)

pub slice_bounds-result-end : goal.slice_bounds-result-end
slice_bounds-result-end c = omega (arith, block-count c.requires, c.requires.words)

pub returns : goal.returns
returns c = block_lent c.args.words.now c.args.start refl
