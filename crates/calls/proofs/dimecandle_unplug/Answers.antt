-- `calls::dimecandle_unplug` meets its contract, one law for each answer. Assumes nothing.
use Prim.Native.Nat.{◌≤◌}
use lib.ListN.{length, length-set}
use native.Mathlib.Omega.{arith}
use Rattle.tracker.specs.Apply.{verdict_of}
use Rattle.tracker.specs.Refusals.{said}
use Rattle.calls.proofs.UnplugEntry.{entry_done, entry_refused}
use Rattle.calls.proofs.dimecandle_unplug.Goals as goal

pub bounds-verdict-0 : goal.bounds-verdict-0
bounds-verdict-0 c = let r : 2 ≤ length c.args.verdict.now = c.in-Ok.ensures.2 in omega arith

pub bounds-verdict-1 : goal.bounds-verdict-1
bounds-verdict-1 c = let r : 2 ≤ length c.args.verdict.now = c.in-Ok.ensures.2 in grind (arith, length-set)

pub returns-in-Ok : goal.returns-in-Ok
returns-in-Ok c = rw c.number_and_id-number.ensures (entry_done c.args.state.now c.args.id c.args.verdict.now (verdict_of (said c.in-Ok.answer)) c.in-Ok.ensures)

pub returns-in-Err : goal.returns-in-Err
returns-in-Err c = rw c.number.ensures (entry_refused c.args.state.now c.args.id c.args.verdict.now c.in-Err.why c.in-Err.ensures)
