-- `write::put_list` meets its contract: nothing, or the tag, the length and the numbers. Assumes nothing.
use mathlib.Core.Path.{refl}
use native.Mathlib.Omega.{arith}
use Rattle.text.proofs.Laws.{put-length}
use Rattle.confstate.proofs.Writing.{listing_none, listing-room, listing-first, listing-next, listing-put}
use Rattle.confstate.proofs.write.put_list.Goals as goal

pub returns-then-packed-eq0 : goal.returns-then-packed-eq0
returns-then-packed-eq0 c = listing_none c.requires c.if-packed-eq0.true (omega arith)

pub bounds-out-at : goal.bounds-out-at
bounds-out-at c = omega (arith, listing-room c.requires c.if-packed-eq0.false)

pub put_varint-p-requires : goal.put_varint-p-requires
put_varint-p-requires c = listing-first c.requires c.if-packed-eq0.false c.args.out.now (omega arith) refl

pub ids-requires : goal.ids-requires
ids-requires c = c.requires.block

pub put_packed-requires : goal.put_packed-requires
put_packed-requires c = listing-next c.requires c.if-packed-eq0.false c.args.out.now (omega arith) refl c.put_varint-p.ensures c.ids.ensures

pub shape_of-out : goal.shape_of-out
shape_of-out c = put-length (listing-put c.requires c.if-packed-eq0.false c.args.out.now (omega arith) refl c.put_varint-p.ensures c.ids.ensures c.put_packed.ensures)

pub returns : goal.returns
returns c = listing-put c.requires c.if-packed-eq0.false c.args.out.now (omega arith) refl c.put_varint-p.ensures c.ids.ensures c.put_packed.ensures
