-- `confstate::read::fields` meets its contract. Assumes nothing.
use native.Mathlib.Omega.{arith}
use Rattle.confstate.proofs.Fields.{given_back}
use Rattle.confstate.proofs.Tags.{going_start, going_end, going_stop, going_next}
use Rattle.confstate.proofs.read.fields.Goals as goal

pub loop-at-init : goal.loop-at-init
loop-at-init c = going_start _ c.requires

pub returns-in_err-at : goal.returns-in_err-at
returns-in_err-at c = going_stop c.loop-at.invariant c.loop-at-test.true _ _ c.field.ensures c.in_err-at.was (given_back c.from_residual.ensures.1)

pub loop-at-smaller : goal.loop-at-smaller
loop-at-smaller c = let h = going_next c.loop-at.invariant c.loop-at-test.true _ _ c.field.ensures c.in_ok-at.was in omega (arith, h.0.spot, h.1)

pub loop-at-preserved : goal.loop-at-preserved
loop-at-preserved c = (going_next c.loop-at.invariant c.loop-at-test.true _ _ c.field.ensures c.in_ok-at.was).0

pub returns : goal.returns
returns c = going_end c.loop-at.invariant c.loop-at-test.false
