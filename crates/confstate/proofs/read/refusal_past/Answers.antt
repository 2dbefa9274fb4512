-- `confstate::read::refusal_past` meets its contract. Assumes nothing.
use mathlib.Core.Path.{◌∙◌, ap}
use native.Mathlib.Omega.{arith}
use Rattle.std.specs.Prelude.{Err}
use Rattle.confstate.proofs.Packing.{passing_start, passing_cut, passing_next, passing_over, passing_end}
use Rattle.confstate.proofs.read.refusal_past.Goals as goal

pub loop-p-init : goal.loop-p-init
loop-p-init c = passing_start c.requires

pub loop-p-smaller-in-Ok : goal.loop-p-smaller-in-Ok
loop-p-smaller-in-Ok c = let h = passing_next c.loop-p.invariant c.loop-p-test.true c.read_varint.ensures c.in-Ok.is in omega (arith, h.0.spot, h.1)

pub loop-p-preserved-in-Ok : goal.loop-p-preserved-in-Ok
loop-p-preserved-in-Ok c = (passing_next c.loop-p.invariant c.loop-p-test.true c.read_varint.ensures c.in-Ok.is).0

pub loop-p-smaller : goal.loop-p-smaller
loop-p-smaller c =
    let h = passing_over c.loop-p.invariant c.loop-p-test.true c.read_varint.ensures (c.in-Err-Malformed.is ∙ ap Err c.in-Err-Malformed.field-0-is) in
    omega (arith, h.0.spot, h.1)

pub loop-p-preserved : goal.loop-p-preserved
loop-p-preserved c = (passing_over c.loop-p.invariant c.loop-p-test.true c.read_varint.ensures (c.in-Err-Malformed.is ∙ ap Err c.in-Err-Malformed.field-0-is)).0

pub returns-in-Err-CutShort : goal.returns-in-Err-CutShort
returns-in-Err-CutShort c = passing_cut c.loop-p.invariant c.loop-p-test.true c.read_varint.ensures (c.in-Err-CutShort.is ∙ ap Err c.in-Err-CutShort.field-0-is)

pub returns : goal.returns
returns c = passing_end c.loop-p.invariant c.loop-p-test.false
