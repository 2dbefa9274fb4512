-- `calls::read::number_at` meets its contract: the first i bytes are read. Assumes nothing.
use Rattle.calls.proofs.ReadFilled.{Filled}
use Rattle.calls.proofs.ReadNumbers.{byte_at}
use Rattle.calls.proofs.read.number_at.Given as goal

abbrev pub invariant-loop-i : goal.invariant-loop-i
invariant-loop-i l = Filled 8 (byte_at l.s) 1 l.at l.i l.bytes
