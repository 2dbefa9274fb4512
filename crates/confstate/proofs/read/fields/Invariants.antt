-- `confstate::read::fields` meets its contract. Assumes nothing.
use Rattle.confstate.proofs.Tags.{Going}
use lib.ListN.{length}
use Prim.Native.Nat.{◌-◌}
use Rattle.confstate.proofs.read.fields.Given as goal

abbrev pub invariant-loop-at : goal.invariant-loop-at
invariant-loop-at l = Going l.bytes l.words l.at

abbrev pub decreases-loop-at : goal.decreases-loop-at
decreases-loop-at l = length l.bytes - l.at
