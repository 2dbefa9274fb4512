-- `ChangeLog::new` makes the log of no entries: each of its places is blank. Assumes nothing.
use borrow.Author.Rules.{rules}
use mathlib.Core.Path.{◌≡◌}
use Rattle.tracker.specs.Bridge.{blank, change_log_of, map_changes_of}
use Rattle.tracker.proofs.ChangeLog.new.Goals as goal

pub returns : goal.returns
unfolding change_log_of map_changes_of
returns c = let e : c.default.result ≡ blank = search rules in rw e
