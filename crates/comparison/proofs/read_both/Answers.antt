-- `comparison::read_both` meets its contract: 32, or what the two readings answer. Assumes nothing.
use mathlib.Core.Path.{refl}
use Rattle.std.proofs.lemmas.Result.{err_from_is_err_and}
use Rattle.comparison.proofs.Messages.{number-some, unreadable, first-long, second-long, first-refused, both_read}
use Rattle.comparison.proofs.read_both.Goals as goal
use Rattle.comparison.proofs.read_both.Goals.{then-not-readable-via-then-not-readable, then-not-readable-via-else-not-readable+then-first_long, then-not-readable-via-else-not-readable+else-first_long+then-second_long}

pub returns-then-not-readable : goal.returns-then-not-readable
returns-then-not-readable c =
    let r = c.args.readable in
    let l = c.args.first.now in
    let m = c.args.second.now in
    elim c.then-not-readable.branch [
      | then-not-readable-via-then-not-readable w ↦ unreadable r l m w.if-not-readable.true
      | then-not-readable-via-else-not-readable+then-first_long w ↦ first-long r l m w.if-not-readable.false w.if-first_long.true
      | then-not-readable-via-else-not-readable+else-first_long+then-second_long w ↦ second-long r l m w.if-not-readable.false w.if-first_long.false w.if-second_long.true
    ]

pub returns-in_err-read_sets : goal.returns-in_err-read_sets
returns-in_err-read_sets c =
    let p = err_from_is_err_and c.from_residual.result c.from_residual.ensures.1 in
    rw (p.1, p.2)
    (first-refused c.args.readable c.args.first.now c.args.second.now c.if-not-readable.false c.if-first_long.false c.if-second_long.false c.in_err-read_sets.ensures
    (number-some c.in_err-read_sets.field-0.0))

pub returns : goal.returns
returns c = let e = c.in_ok-read_sets.ensures in both_read c.args.readable c.args.first.now c.args.second.now c.if-not-readable.false c.if-first_long.false c.if-second_long.false c.in_ok-read_sets.ensures refl c.read_sets-2.ensures
