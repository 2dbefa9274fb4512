-- `enrol`: what is left of the entries answers for all of them. Assumes nothing.
use Rattle.tracker.proofs.EnrolLog.{Enrolling}
use Rattle.tracker.proofs.roster.Roster.enrol.Given as goal

abbrev pub invariant-loop-change : goal.invariant-loop-change
invariant-loop-change l = Enrolling l.fresh l.changes l.initial.self l.self l.change-index
