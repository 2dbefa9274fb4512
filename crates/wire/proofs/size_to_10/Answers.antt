-- `wire::size_to_10` meets its contract. Assumes nothing.
use mathlib.Core.Path.{refl}
use Rattle.wire.proofs.Putting.{size-more}
use native.Mathlib.Omega.{arith}
use Rattle.wire.proofs.size_to_10.Goals as goal

pub returns-then-n-lt4398046511104 : goal.returns-then-n-lt4398046511104
returns-then-n-lt4398046511104 c = size-more 5 4 c.args.n refl c.requires c.if-n-lt4398046511104.true

pub returns-then-n-lt562949953421312 : goal.returns-then-n-lt562949953421312
returns-then-n-lt562949953421312 c = size-more 6 3 c.args.n refl c.if-n-lt4398046511104.false c.if-n-lt562949953421312.true

pub returns-then-n-lt72057594037927936 : goal.returns-then-n-lt72057594037927936
returns-then-n-lt72057594037927936 c = size-more 7 2 c.args.n refl c.if-n-lt562949953421312.false c.if-n-lt72057594037927936.true

pub returns-then-n-lt9223372036854775808 : goal.returns-then-n-lt9223372036854775808
returns-then-n-lt9223372036854775808 c = size-more 8 1 c.args.n refl c.if-n-lt72057594037927936.false c.if-n-lt9223372036854775808.true

pub returns : goal.returns
returns c = size-more 9 0 c.args.n refl c.if-n-lt9223372036854775808.false (omega (arith, c.ranges.n))
