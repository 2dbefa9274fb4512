-- `listing::put_listing` meets its contract: what is left to be put is what the records left print. Assumes nothing.
use Rattle.listing.proofs.Replay.{Replaying}
use Rattle.listing.proofs.put_listing.Given as goal

abbrev pub invariant-loop-k : goal.invariant-loop-k
invariant-loop-k l = Replaying l.script l.initial.out l.out l.z l.p l.k
