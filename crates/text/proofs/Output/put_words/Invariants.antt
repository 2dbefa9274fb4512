-- `Output::put_words` meets its contract: what is left to be put is the numbers from `x-index` on. Assumes nothing.
use Rattle.text.specs.Text.{each, spaced}
use Rattle.text.proofs.Outputs.{Along}
use Rattle.text.proofs.Output.put_words.Given as goal

abbrev pub invariant-loop-x : goal.invariant-loop-x
invariant-loop-x l = Along spaced l.rest (each spaced l.rest) l.initial.self l.self l.x-index
