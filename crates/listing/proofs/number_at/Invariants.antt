-- `listing::number_at` meets its contract: the loop reads from the last byte to the first. Assumes nothing.
use Rattle.listing.proofs.Numbers.{Reading}
use Rattle.listing.proofs.number_at.Given as goal

abbrev pub invariant-loop-i : goal.invariant-loop-i
invariant-loop-i l = Reading l.s l.at l.n l.i
