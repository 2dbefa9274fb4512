-- `comparison::line::put_standing` meets its contract: `none`, or the names one after the other. Assumes nothing.
use native.Mathlib.Omega.{arith}
use Rattle.comparison.proofs.Pieces.{left_all, left_put, left_last}
use Rattle.comparison.proofs.Lines.{or_then, or_else, text_none, text_names}
use Rattle.comparison.proofs.line.put_standing.Goals as goal
use Rattle.comparison.proofs.line.put_standing.Goals.{then-second, else-second, then-third, else-third, then-fourth, else-fourth}

pub returns-then-not-s : goal.returns-then-not-s
returns-then-not-s c =
    rw (text_none c.args.s
    (elim c.if-second.branch [ then-second w ↦ or_then _ _ w.if-second.true w.third-is | else-second w ↦ or_else _ _ w.if-second.false w.third-is ])
    (elim c.if-third.branch [ then-third w ↦ or_then _ _ w.if-third.true w.fourth-is | else-third w ↦ or_else _ _ w.if-third.false w.fourth-is ])
    (elim c.if-fourth.branch [ then-fourth w ↦ or_then _ _ w.if-fourth.true w.value-is | else-fourth w ↦ or_else _ _ w.if-fourth.false w.value-is ])
    c.if-not-s.true)
    c.put_bytes.ensures

pub returns : goal.returns
returns c =
    rw (text_names c.args.s
    (elim c.if-second.branch [ then-second w ↦ or_then _ _ w.if-second.true w.third-is | else-second w ↦ or_else _ _ w.if-second.false w.third-is ])
    (elim c.if-third.branch [ then-third w ↦ or_then _ _ w.if-third.true w.fourth-is | else-third w ↦ or_else _ _ w.if-third.false w.fourth-is ])
    (elim c.if-fourth.branch [ then-fourth w ↦ or_then _ _ w.if-fourth.true w.value-is | else-fourth w ↦ or_else _ _ w.if-fourth.false w.value-is ])
    c.if-not-s.false)
    (left_last (left_put (left_put (left_put (left_all (omega arith)) c.put_name.ensures) c.put_name-2.ensures) c.put_name-3.ensures) c.put_name-4.ensures)
