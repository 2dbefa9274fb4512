-- `comparison::put_compared` meets its contract: a message that is refused, lines that do not fit, lines that fit. Assumes nothing.
use native.Mathlib.Omega.{arith}
use mathlib.Core.Path.{refl, ◌∙◌}
use borrow.Author.Rules.{rules}
use lib.ListN.{length}
use Rattle.std.proofs.lemmas.Result.{err_from_is_err_and}
use Rattle.comparison.proofs.Pieces.{front}
use Rattle.comparison.proofs.Messages.{number-some, both_ascend, answer-refused, leaves-refused, answer_none, leaves_none, answer-all, leaves_all}
use Rattle.comparison.proofs.put_compared.Goals as goal

pub returns-in_err-read_both : goal.returns-in_err-read_both
returns-in_err-read_both c =
    let p = err_from_is_err_and c.from_residual.result c.from_residual.ensures.1 in
    let r = c.in_err-read_both.ensures in
    let z = number-some c.in_err-read_both.field-0.0 in
    rw (p.1, p.2) (answer-refused r z (length c.args.out.now), leaves-refused r z c.args.out.now)

pub have_room-requires : goal.have_room-requires
have_room-requires c = both_ascend c.in_ok-read_both.ensures refl

pub returns-then-not-have_room : goal.returns-then-not-have_room
returns-then-not-have_room c =
    let o = c.args.out.now in
    let r = c.in_ok-read_both.ensures in
    (answer_none r refl o c.have_room.ensures c.if-not-have_room.true, leaves_none r refl o c.have_room.ensures c.if-not-have_room.true)

pub put_lines-requires : goal.put_lines-requires
put_lines-requires c = both_ascend c.in_ok-read_both.ensures refl

pub returns : goal.returns
returns c =
    let o = c.args.out.now in
    let r = c.in_ok-read_both.ensures in
    let f = c.have_room.ensures in
    let k = c.if-not-have_room.false in
    let g = front c.new-to.ensures.untouched c.new-to.ensures.front c.put_lines.ensures in
    (answer-all r refl o f k (omega (arith, c.well_formed)) g, search rules ∙ leaves_all r refl o f k (omega (arith, c.well_formed)) g)
