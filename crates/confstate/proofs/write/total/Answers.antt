-- `write::total` meets its contract: each field takes at most 651 bytes. Assumes nothing.
use native.Mathlib.Omega.{arith}
use Rattle.confstate.specs.Sizes.{total_of}
use Rattle.confstate.proofs.Sizing.{field-few}
use Rattle.confstate.proofs.write.total.Goals as goal

pub overflow_add-result : goal.overflow_add-result
overflow_add-result c = let s = c.args.s in
    let p = c.requires in
    omega (arith, c.field_size.ensures, c.field_size-2.ensures, field-few s.voters p.0, field-few s.learners p.1)

pub overflow_add-result-2 : goal.overflow_add-result-2
overflow_add-result-2 c = let s = c.args.s in
    let p = c.requires in
    omega (arith, c.field_size.ensures, c.field_size-2.ensures, c.field_size-3.ensures, field-few s.voters p.0, field-few s.learners p.1, field-few s.outgoing p.2)

pub overflow_add-result-3 : goal.overflow_add-result-3
overflow_add-result-3 c = let s = c.args.s in
    let p = c.requires in
    omega (arith, c.field_size.ensures, c.field_size-2.ensures, c.field_size-3.ensures, c.field_size-4.ensures, field-few s.voters p.0, field-few s.learners p.1, field-few s.outgoing p.2, field-few s.next p.3)

pub overflow_add-result-4 : goal.overflow_add-result-4
overflow_add-result-4 c = let s = c.args.s in
    let p = c.requires in
    omega (arith, c.field_size.ensures, c.field_size-2.ensures, c.field_size-3.ensures, c.field_size-4.ensures, field-few s.voters p.0, field-few s.learners p.1, field-few s.outgoing p.2, field-few s.next p.3, p.4)

pub returns : goal.returns
unfolding total_of
returns c = cc
