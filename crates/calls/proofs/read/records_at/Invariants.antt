-- `calls::read::records_at` meets its contract: the loop fills 64 records, 10 words apart. Assumes nothing.
use Rattle.calls.specs.Layout.{record_at}
use Rattle.calls.proofs.ReadFilled.{Filled}
use Rattle.calls.proofs.read.records_at.Given as goal

abbrev pub invariant-loop-i : goal.invariant-loop-i
invariant-loop-i l = Filled 64 (record_at l.s) 10 l.k l.i l.records
