-- `write::field_size` meets its contract: none, or the tag, the length and the numbers. Assumes nothing.
use native.Mathlib.Omega.{arith}
use borrow.Author.Rules.{rules}
use Rattle.rules.proofs.Wire.{varint-length}
use Rattle.confstate.proofs.Sizing.{field_none, field-some}
use Rattle.confstate.proofs.write.field_size.Goals as goal

pub returns-then-packed-eq0 : goal.returns-then-packed-eq0
returns-then-packed-eq0 c = search (rules, field_none)

pub overflow_add-result : goal.overflow_add-result
overflow_add-result c = omega (arith, c.size.ensures, varint-length c.args.packed)

pub overflow_add-result-2 : goal.overflow_add-result-2
overflow_add-result-2 c = omega (arith, c.size.ensures, varint-length c.args.packed)

pub returns : goal.returns
returns c = search (rules, field-some)
