-- `comparison::walk::lesser` meets its contract: at the end of the list what was found, else the lesser of it and the id that stands there. Assumes nothing.
use native.Mathlib.Omega.{arith}
use borrow.Author.Rules.{rules}
use Rattle.comparison.proofs.ListWords.{count-few}
use Rattle.comparison.proofs.Places.{lesser_end, lesser_met, lesser_first}
use Rattle.comparison.proofs.walk.lesser.Goals as goal

pub returns-then-count-at : goal.returns-then-count-at
returns-then-count-at c = search (rules, lesser_end)

pub overflow_add-id : goal.overflow_add-id
overflow_add-id c = omega (arith, count-few c.args.words.now c.args.k c.requires.0 c.requires.1)

pub offset_bounds-words-k-2 : goal.offset_bounds-words-k-2
offset_bounds-words-k-2 c = omega (arith, count-few c.args.words.now c.args.k c.requires.0 c.requires.1)

pub bounds-words-k-2 : goal.bounds-words-k-2
bounds-words-k-2 c = omega (arith, count-few c.args.words.now c.args.k c.requires.0 c.requires.1)

pub returns-in-Some : goal.returns-in-Some
returns-in-Some c = rw c.min.ensures (lesser_met c.args.words.now c.args.k c.requires.0 c.requires.1 c.args.at c.if-count-at.false c.in-Some.is)

pub returns-in-None : goal.returns-in-None
returns-in-None c = lesser_first c.args.words.now c.args.k c.requires.0 c.requires.1 c.args.at c.if-count-at.false c.in-None.is
