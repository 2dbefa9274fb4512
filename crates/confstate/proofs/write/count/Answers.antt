-- `write::count` meets its contract: the four lists one after the other. Assumes nothing.
use Rattle.confstate.specs.Words.{message_in}
use Rattle.confstate.specs.Sizes.{sizes_of}
use Rattle.confstate.proofs.Sizing.{block_1, block_2, block_3, block_4, lent_few}
use Rattle.confstate.proofs.write.count.Goals as goal

pub ids-requires : goal.ids-requires
ids-requires c = block_1 c.requires

pub packed_size-requires : goal.packed_size-requires
packed_size-requires c = lent_few (block_1 c.requires) c.ids.ensures

pub ids-requires-2 : goal.ids-requires-2
ids-requires-2 c = block_2 c.requires

pub packed_size-requires-2 : goal.packed_size-requires-2
packed_size-requires-2 c = lent_few (block_2 c.requires) c.ids-2.ensures

pub ids-requires-3 : goal.ids-requires-3
ids-requires-3 c = block_3 c.requires

pub packed_size-requires-3 : goal.packed_size-requires-3
packed_size-requires-3 c = lent_few (block_3 c.requires) c.ids-3.ensures

pub ids-requires-4 : goal.ids-requires-4
ids-requires-4 c = block_4 c.requires

pub packed_size-requires-4 : goal.packed_size-requires-4
packed_size-requires-4 c = lent_few (block_4 c.requires) c.ids-4.ensures

pub returns : goal.returns
unfolding sizes_of message_in
returns c = cc
