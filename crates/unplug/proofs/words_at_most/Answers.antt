-- `unplug::words_at_most` meets its contract: the loop's invariant says what is left to ask. Assumes nothing.
use native.Mathlib.Omega.{arith}
use Rattle.unplug.proofs.Within.{ask-start, ask-room, ask-stop, ask-next, ask-end}
use Rattle.unplug.proofs.words_at_most.Goals as goal

pub loop-i-init : goal.loop-i-init
loop-i-init c = ask-start

pub overflow_mul-i : goal.overflow_mul-i
overflow_mul-i c = let room = ask-room _ _ _ _ _ c.requires c.loop-i-test.true in omega arith

pub overflow_add-k : goal.overflow_add-k
overflow_add-k c = let room = ask-room _ _ _ _ _ c.requires c.loop-i-test.true in omega arith

pub returns-then-most-word : goal.returns-then-most-word
returns-then-most-word c = ask-stop c.loop-i.invariant c.loop-i-test.true c.word.ensures c.if-most-word.true

pub loop-i-preserved : goal.loop-i-preserved
loop-i-preserved c = ask-next c.loop-i.invariant c.loop-i-test.true c.word.ensures c.if-most-word.false

pub returns : goal.returns
returns c = ask-end c.loop-i.invariant c.loop-i-test.false
