-- `comparison::walk::is_at` meets its contract: the ids that count lie within the words. Assumes nothing.
use native.Mathlib.Omega.{arith}
use Rattle.comparison.proofs.Places.{list-ends, stands_in_lem}
use Rattle.comparison.proofs.walk.is_at.Goals as goal

pub overflow_add-k : goal.overflow_add-k
overflow_add-k c = omega (arith, c.well_formed, list-ends c.args.words.now c.args.k c.requires.0 c.requires.1)

pub slice_bounds-stands_at-end : goal.slice_bounds-stands_at-end
slice_bounds-stands_at-end c = list-ends c.args.words.now c.args.k c.requires.0 c.requires.1

pub returns : goal.returns
returns c = stands_in_lem c.args.words.now c.args.k c.requires.0 c.requires.1 c.args.at c.args.id c.stands_at.ensures
