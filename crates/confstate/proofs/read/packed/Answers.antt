-- `confstate::read::packed` meets its contract. Assumes nothing.
use Rattle.confstate.proofs.Packing.{packing_start, packing_one, packing_cut, packing_next, packing_over, value-within, over_within, packing_30, packing_all}
use mathlib.Core.Path.{◌∙◌, ap}
use native.Mathlib.Omega.{arith}
use Rattle.std.specs.Prelude.{Err}
use Rattle.confstate.proofs.read.packed.Goals as goal

pub loop-p-init : goal.loop-p-init
loop-p-init c = packing_start c.requires

pub loop-p-preserved-then-b-lt128 : goal.loop-p-preserved-then-b-lt128
loop-p-preserved-then-b-lt128 c = packing_one c.loop-p.invariant c.loop-p-test.true c.from-b.ensures c.if-b-lt128.true c.store.ensures

pub loop-p-smaller : goal.loop-p-smaller
loop-p-smaller c = omega (arith, value-within c.loop-p.invariant c.loop-p-test.true c.read_varint.ensures c.in-Ok.is)

pub loop-p-preserved : goal.loop-p-preserved
loop-p-preserved c = packing_next c.loop-p.invariant c.loop-p-test.true c.read_varint.ensures c.in-Ok.is c.store-in-Ok.ensures

pub returns-in-Err-CutShort : goal.returns-in-Err-CutShort
returns-in-Err-CutShort c = packing_cut c.loop-p.invariant c.loop-p-test.true c.read_varint.ensures (c.in-Err-CutShort.is ∙ ap Err c.in-Err-CutShort.field-0-is)

pub refusal_past-requires : goal.refusal_past-requires
refusal_past-requires c = omega (arith, over_within c.loop-p.invariant c.loop-p-test.true c.read_varint.ensures (c.in-Err-Malformed.is ∙ ap Err c.in-Err-Malformed.field-0-is))

pub returns-in-Err-Malformed : goal.returns-in-Err-Malformed
returns-in-Err-Malformed c =
    packing_over c.loop-p.invariant c.loop-p-test.true c.read_varint.ensures (c.in-Err-Malformed.is ∙ ap Err c.in-Err-Malformed.field-0-is) _ c.refusal_past.ensures

pub returns-then-too_many : goal.returns-then-too_many
returns-then-too_many c = packing_30 c.loop-p.invariant c.loop-p-test.false c.if-too_many.true

pub returns : goal.returns
returns c = packing_all c.loop-p.invariant c.loop-p-test.false c.if-too_many.false
