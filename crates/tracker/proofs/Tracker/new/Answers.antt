-- `Tracker::new` makes the fresh state: each of its parts is what a constructor ensures. Assumes nothing.
use Rattle.rules.specs.State.{ids}
use Rattle.tracker.specs.Bridge.{record_places, records_of}
use Rattle.tracker.proofs.Tracker.new.Goals as goal

pub returns : goal.returns
unfolding record_places records_of ids
returns c = cc
