-- `changer::tracked_after` meets its contract: what is left of the log, over `ids`, comes to the same. Assumes nothing.
use Rattle.std.proofs.Common.{◌≡◌, take}
use Rattle.tracker.specs.Bridge.{entries_of, log_of}
use Rattle.changer.specs.Stages.{pending_in}
use Rattle.changer.proofs.tracked_after.Given as goal

abbrev pub invariant-loop-entry : goal.invariant-loop-entry
invariant-loop-entry l = pending_in (entries_of (take l.entry-iterator.n l.entry-iterator.iter.rest.now)) l.ids ≡ pending_in (log_of l.fn.log) l.fn.tracked
