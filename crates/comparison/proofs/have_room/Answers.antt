-- `comparison::have_room` meets its contract: room for the longest lines, or for those that were counted. Assumes nothing.
use Rattle.comparison.proofs.Messages.{room_most}
use Rattle.comparison.proofs.have_room.Goals as goal

pub returns-then-room-ge-LONGEST : goal.returns-then-room-ge-LONGEST
returns-then-room-ge-LONGEST c = room_most c.args.a.now c.args.b.now c.requires.0 c.requires.1 c.args.room c.if-room-ge-LONGEST.true
