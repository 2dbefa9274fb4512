-- `unplug::words_at_most` meets its contract: the loop's invariant says what is left to ask. Assumes nothing.
use Rattle.unplug.specs.Words.{at}
use Rattle.unplug.proofs.Within.{Asking}
use Rattle.unplug.proofs.words_at_most.Given as goal

abbrev pub invariant-loop-i : goal.invariant-loop-i
invariant-loop-i l = Asking (at l.s) l.k l.n l.step l.most l.i
