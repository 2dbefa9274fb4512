-- `write::write` meets its contract: the words are refused, the slice is too small, or the message is put. Assumes nothing.
use native.Mathlib.Omega.{arith}
use mathlib.Core.Path.{ap}
use Rattle.confstate.specs.Unwritten.{said}
use Rattle.confstate.proofs.Fields.{given_back}
use Rattle.confstate.proofs.Sizing.{writable, sizes_few, counted-length}
use Rattle.confstate.proofs.Writing.{answer-unwritten, answer-small, answer-written}
use Rattle.confstate.proofs.write.write.Goals as goal

pub returns-in_err-check : goal.returns-in_err-check
returns-in_err-check c = answer-unwritten c.args.conf_state.now c.args.bytes.now c.check.ensures c.in_err-check.was (given_back c.from_residual.ensures.1)

pub count-s-requires : goal.count-s-requires
count-s-requires c = writable c.check.ensures (ap said c.in_ok-check.was)

pub bounds-conf_state-260 : goal.bounds-conf_state-260
bounds-conf_state-260 c = omega (arith, (writable c.check.ensures (ap said c.in_ok-check.was)).words)

pub total-requires : goal.total-requires
total-requires c = sizes_few (writable c.check.ensures (ap said c.in_ok-check.was)) c.count-s.ensures

pub returns-then-bytes-total : goal.returns-then-bytes-total
returns-then-bytes-total c = let w = writable c.check.ensures (ap said c.in_ok-check.was) in
    answer-small w c.args.bytes.now (omega (arith, counted-length w c.count-s.ensures c.total.ensures))

pub put_message-requires : goal.put_message-requires
put_message-requires c = let w = writable c.check.ensures (ap said c.in_ok-check.was) in
    (w, c.count-s.ensures, omega (arith, counted-length w c.count-s.ensures c.total.ensures))

pub returns : goal.returns
returns c = let w = writable c.check.ensures (ap said c.in_ok-check.was) in
    answer-written w c.args.bytes.now (omega arith) (omega (arith, counted-length w c.count-s.ensures c.total.ensures)) c.put_message.ensures
