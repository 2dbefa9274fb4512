-- `listing::put_listing` meets its contract: what is left to be put is what the records left print. Assumes nothing.
use native.Mathlib.Omega.{arith}
use borrow.Author.Rules.{rules}
use Rattle.listing.proofs.Pieces.{from_front}
use Rattle.listing.proofs.Replay.{replay-start, replay-next, replay-stop, replay-end}
use Rattle.listing.proofs.put_listing.Goals as goal

pub loop-k-init : goal.loop-k-init
loop-k-init c = replay-start _ c.requires (omega arith) (omega arith) c.begin-session.ensures

pub returns-then-stops : goal.returns-then-stops
returns-then-stops c = let w = replay-stop c.loop-k.invariant c.loop-k-test.true c.stops.ensures c.if-stops.true c.put_stopped.ensures in
    search (rules, from_front)

pub loop-k-preserved : goal.loop-k-preserved
loop-k-preserved c = replay-next c.loop-k.invariant c.loop-k-test.true c.stops.ensures c.if-stops.false c.number_at.ensures c.turn.ensures.put c.turn.ensures.after

pub returns : goal.returns
returns c = let w = replay-end c.loop-k.invariant (omega arith) c.put_ending.ensures in
    search (rules, from_front)
