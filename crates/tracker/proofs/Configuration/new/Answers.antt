-- `Configuration::new` makes the configuration of four empty sets, from what `IdSet::new` ensures. Assumes nothing.
use Rattle.tracker.proofs.Configuration.new.Goals as goal

pub returns : goal.returns
returns c = cc
