-- `comparison::line::put_flag` meets its contract: each text where it is wanted, one of the two or none. Assumes nothing.
use mathlib.Core.Bool.{◌&&◌, not}
use mathlib.Core.Path.{◌≡◌}
use native.Mathlib.Omega.{arith}
use Rattle.text.proofs.Outputs.{writes_then}
use Rattle.comparison.proofs.Lines.{and_then, and_else, flag_pieces}
use Rattle.comparison.proofs.line.put_flag.Goals as goal
use Rattle.comparison.proofs.line.put_flag.Goals.{then-second, else-second, then-first, else-first}

pub returns : goal.returns
returns c =
    let f : c.if-second.put_if ≡ c.args.second && not c.args.first = elim c.if-second.branch [ then-second w ↦ and_then _ _ w.if-second.true w.put_if-is | else-second w ↦ and_else _ _ w.if-second.false w.put_if-is ] in
    let g : c.if-first.put_if ≡ c.args.first && not c.args.second = elim c.if-first.branch [ then-first w ↦ and_then _ _ w.if-first.true w.put_if-is | else-first w ↦ and_else _ _ w.if-first.false w.put_if-is ] in
    rw (← flag_pieces c.args.first c.args.second) (writes_then (omega arith) (rw f at c.put_if.ensures) (rw g at c.put_if-2.ensures))
