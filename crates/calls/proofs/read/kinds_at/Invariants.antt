-- `calls::read::kinds_at` meets its contract: the loop fills 260 kinds. Assumes nothing.

use Rattle.calls.proofs.ReadFilled.{Filled, kind_at}
use Rattle.calls.proofs.read.kinds_at.Given as goal

abbrev pub invariant-loop-i : goal.invariant-loop-i
invariant-loop-i l = Filled 260 (kind_at l.s) 1 l.k l.i l.kinds
