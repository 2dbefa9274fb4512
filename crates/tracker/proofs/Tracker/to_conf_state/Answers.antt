-- `Tracker::to_conf_state` answers 1 of a malformed state, and of any other the lists of its sets. Assumes nothing.
use borrow.Author.Rules.{rules}
use Rattle.tracker.proofs.Answers.{written_none, written-lists}
use Rattle.tracker.proofs.Tracker.to_conf_state.Goals as goal

pub returns-then-is_malformed : goal.returns-then-is_malformed
returns-then-is_malformed c = search (rules, written_none)

pub returns : goal.returns
returns c = search (rules, written-lists)
