use lib.ListN.{take}
use Rattle.invariants.proofs.Walk.{Walking}
use Rattle.invariants.proofs.first_where.Given as goal

abbrev pub invariant-loop-id : goal.invariant-loop-id
invariant-loop-id l = Walking l.among l.a l.b l.place l.id-index
