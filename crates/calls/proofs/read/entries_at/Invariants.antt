-- `calls::read::entries_at` meets its contract: the loop fills 256 entries, 2 words apart. Assumes nothing.

use Rattle.calls.proofs.ReadFilled.{Filled, entry_at}
use Rattle.calls.proofs.read.entries_at.Given as goal

abbrev pub invariant-loop-i : goal.invariant-loop-i
invariant-loop-i l = Filled 256 (entry_at l.s) 2 l.k l.i l.entries
