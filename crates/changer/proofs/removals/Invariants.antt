-- `changer::removals` meets its contract: what is left of the walk, logged after `log`, is the whole log. Assumes nothing.
use lib.ListN.{drop}
use Rattle.changer.proofs.Removed.{Leaving}
use Rattle.changer.proofs.removals.Given as goal

abbrev pub invariant-loop-id : goal.invariant-loop-id
invariant-loop-id l = Leaving l.fn.outgoing l.incoming l.learners (drop l.id-index l.id-items) l.log l.voter l.learner
