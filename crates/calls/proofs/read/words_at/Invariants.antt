-- `calls::read::words_at` meets its contract: the loop fills N words. Assumes nothing.
use Rattle.calls.specs.Layout.{word}
use Rattle.calls.proofs.ReadFilled.{Filled}
use Rattle.calls.proofs.read.words_at.Given as goal

abbrev pub invariant-loop-i : goal.invariant-loop-i
invariant-loop-i g l = Filled g.row.N (word l.s) 1 l.k l.i l.words
