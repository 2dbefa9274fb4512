-- `wire::read_long` meets its contract: `i` bytes from `at` on are passed, and worth `value`. Assumes nothing.
use Rattle.wire.proofs.Reading.{Reading}
use Rattle.wire.proofs.read_long.Given as goal

abbrev pub invariant-loop-i : goal.invariant-loop-i
invariant-loop-i l = Reading l.bytes l.at l.value l.unit l.i
