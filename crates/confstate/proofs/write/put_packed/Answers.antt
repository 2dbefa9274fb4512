-- `write::put_packed` meets its contract: what is left from `p` on are the numbers from the index on. Assumes nothing.
use native.Mathlib.Omega.{arith}
use borrow.Author.Rules.{rules}
use Rattle.confstate.proofs.Writing.{packs_start, packs_length, packs_room, packs_next, packs_end}
use Rattle.confstate.proofs.write.put_packed.Goals as goal

pub loop-id-init : goal.loop-id-init
loop-id-init c = packs_start (omega arith) (search rules)

pub put_varint-p-requires : goal.put_varint-p-requires
put_varint-p-requires c = search (rules, packs_room)

pub loop-id-preserved : goal.loop-id-preserved
loop-id-preserved c = search (rules, packs_next)

pub shape_of-out : goal.shape_of-out
shape_of-out c = search (rules, packs_length)

pub returns : goal.returns
returns c = search (rules, packs_end)
