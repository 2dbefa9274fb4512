-- `vectors::unpack::unpack` ends: each piece leaves fewer bytes. Assumes nothing.
use lib.ListN.{length}
use Rattle.vectors.proofs.unpack.unpack.Given as goal

abbrev pub decreases-loop-left : goal.decreases-loop-left
decreases-loop-left l = length l.left
