-- `listing::line::put_log` meets its contract: what is left to be put is the entries from `e-index` on. Assumes nothing.
use Rattle.text.specs.Text.{each}
use Rattle.text.proofs.Outputs.{Along}
use Rattle.listing.proofs.Lines.{spaced_change}
use Rattle.listing.proofs.line.put_log.Given as goal

abbrev pub invariant-loop-e : goal.invariant-loop-e
invariant-loop-e l = Along spaced_change l.rest (each spaced_change l.rest) l.initial.to l.to l.e-index
