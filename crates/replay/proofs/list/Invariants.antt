-- `replay::list`: what is left to be printed is what the records left print.
use Rattle.replay.proofs.Printing.{Printing}
use Rattle.replay.proofs.list.Given as goal

abbrev pub invariant-loop-k : goal.invariant-loop-k
invariant-loop-k g l = Printing l.script (g.W.Write.contents l.initial.out) (g.W.Write.contents l.out) l.to.bytes.now l.to.at l.session l.k
