-- `listing::line::put_log` meets its contract: the parentheses, and between them nothing or the first entry and the others. Assumes nothing.
use native.Mathlib.Omega.{arith}
use borrow.Author.Rules.{rules}
use mathlib.Core.Path.{ap, sym, ◌∙◌}
use lib.ListN.{length}
use Rattle.text.proofs.Outputs.{along_start, along_next, along_end, writes_length}
use Rattle.listing.proofs.Lines.{log_none, log-some}
use Rattle.listing.proofs.Pieces.{then}
use Rattle.listing.proofs.line.put_log.Goals as goal
use Rattle.listing.proofs.line.put_log.Goals.{in-Some+else-loop-e-test, in_default}

pub loop-e-init : goal.loop-e-init
loop-e-init c = along_start (omega (arith, writes_length c.put_entry.ensures, writes_length c.put_byte.ensures)) (omega (arith, c.put_entry.ensures.put.end))

pub loop-e-preserved : goal.loop-e-preserved
loop-e-preserved c = search (rules, along_next)

pub returns : goal.returns
returns c = elim c.match-split_first.branch [
  | in-Some+else-loop-e-test w ↦ rw (log-some c.args.log.now (sym c.entries.ensures ∙ w.in-Some.ensures.cases.0))
      (then (omega arith) c.put_byte.ensures (λ h. then h w.put_entry.ensures (λ h. then h (along_end w.loop-e.invariant (omega (arith, w.loop-e-test.false))) (λ h. rw w.to-is at c.put_byte-2.ensures))))
  | in_default w ↦ rw (log_none c.args.log.now (ap length (sym c.entries.ensures) ∙ w.in_default.ensures.cases)) (then (omega arith) c.put_byte.ensures (λ h. rw w.to-is at c.put_byte-2.ensures))
]
