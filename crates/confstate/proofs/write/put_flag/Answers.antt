-- `write::put_flag` meets its contract: nothing, or two bytes. Assumes nothing.
use native.Mathlib.Omega.{arith}
use lib.Seq.{lt-length-set}
use Rattle.confstate.proofs.Writing.{flag_none, flag-room, flag-put}
use Rattle.confstate.proofs.write.put_flag.Goals as goal

pub returns-then-flag-eq0 : goal.returns-then-flag-eq0
returns-then-flag-eq0 c = flag_none c.if-flag-eq0.true (omega arith)

pub bounds-out-at : goal.bounds-out-at
bounds-out-at c = omega (arith, flag-room c.args.at c.requires.0 c.if-flag-eq0.false c.requires.1)

pub bounds-out-at-2 : goal.bounds-out-at-2
bounds-out-at-2 c = lt-length-set c.args.out.now c.args.at _
    (omega (arith, flag-room c.args.at c.requires.0 c.if-flag-eq0.false c.requires.1))

pub returns : goal.returns
returns c = flag-put c.requires.0 c.if-flag-eq0.false (omega (arith, flag-room c.args.at c.requires.0 c.if-flag-eq0.false c.requires.1))
