-- `vectors::case::first_difference`: the bytes passed are the same.
use Rattle.std.proofs.Common.{◌≡◌, ℕ, ◌<◌, get_or}
use Rattle.vectors.proofs.case.first_difference.Given as goal

abbrev pub invariant-loop-at : goal.invariant-loop-at
invariant-loop-at l = (k : ℕ) → k < l.at → get_or l.lent k 0 ≡ get_or l.wanted k 0
