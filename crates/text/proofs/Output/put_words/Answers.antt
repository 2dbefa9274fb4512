-- `Output::put_words` meets its contract. Assumes nothing.
use native.Mathlib.Omega.{arith}
use borrow.Author.Rules.{rules}
use Rattle.text.proofs.Laws.{words_none, words-some}
use Rattle.text.proofs.Outputs.{along_start, along_next, along_end, writes_none, writes_then, writes_length}
use Rattle.text.proofs.Output.put_words.Goals as goal

pub returns-in_default : goal.returns-in_default
returns-in_default c = rw (words_none _ c.in_default.ensures.cases) (writes_none (omega arith))

pub loop-x-init : goal.loop-x-init
loop-x-init c = along_start (omega (arith, writes_length c.put_decimal.ensures)) (omega arith)

pub loop-x-preserved : goal.loop-x-preserved
loop-x-preserved c = search (rules, along_next)

pub returns : goal.returns
returns c = rw (words-some c.in-Some.ensures.cases.0) (writes_then (omega arith) c.put_decimal.ensures (along_end c.loop-x.invariant (omega arith)))
