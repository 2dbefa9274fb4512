-- `wire::size_to_5` meets its contract. Assumes nothing.
use mathlib.Core.Path.{refl}
use native.Mathlib.Omega.{arith}
use Rattle.wire.proofs.Putting.{size-more}
use Rattle.wire.proofs.size_to_5.Goals as goal

pub returns-then-n-lt16384 : goal.returns-then-n-lt16384
returns-then-n-lt16384 c = size-more 1 8 c.args.n refl c.requires.0 c.if-n-lt16384.true

pub returns-then-n-lt268435456 : goal.returns-then-n-lt268435456
returns-then-n-lt268435456 c = size-more 3 6 c.args.n refl (omega arith) c.if-n-lt268435456.true

pub returns : goal.returns
returns c = size-more 4 5 c.args.n refl c.if-n-lt268435456.false c.requires.1
