-- `comparison::line::put_name` meets its contract: a `+` where it is wanted, then the name where it is. Assumes nothing.
use mathlib.Core.Bool.{◌&&◌}
use mathlib.Core.Path.{◌≡◌}
use native.Mathlib.Omega.{arith}
use Rattle.text.proofs.Outputs.{writes_then}
use Rattle.comparison.proofs.Lines.{and_then, and_else, name_pieces}
use Rattle.comparison.proofs.line.put_name.Goals as goal
use Rattle.comparison.proofs.line.put_name.Goals.{then-is_in, else-is_in}

pub returns : goal.returns
returns c =
    let f : c.if-is_in.put_if ≡ c.args.is_in && c.args.later = elim c.if-is_in.branch [ then-is_in w ↦ and_then _ _ w.if-is_in.true w.put_if-is | else-is_in w ↦ and_else _ _ w.if-is_in.false w.put_if-is ] in
    rw (← name_pieces c.args.is_in c.args.later c.args.name.now) (writes_then (omega arith) (rw f at c.put_if.ensures) c.put_if-2.ensures)
