-- `wire::size` meets its contract. Assumes nothing.
use Rattle.wire.proofs.Putting.{size-one}
use Rattle.wire.proofs.size.Goals as goal

pub returns-then-n-lt128 : goal.returns-then-n-lt128
returns-then-n-lt128 c = size-one c.args.n c.if-n-lt128.true
