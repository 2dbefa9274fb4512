-- `calls::read::at_most` meets its contract: the loop's invariant says what is left to ask. Assumes nothing.
use Rattle.calls.specs.Layout.{word}
use Rattle.unplug.proofs.Within.{Asking}
use Rattle.calls.proofs.read.at_most.Given as goal

abbrev pub invariant-loop-i : goal.invariant-loop-i
invariant-loop-i l = Asking (word l.s) l.k l.n l.step l.most l.i
