-- `comparison::line::put_line` meets its contract: its pieces, one after the other. Assumes nothing.
use native.Mathlib.Omega.{arith}
use Rattle.comparison.specs.Compare.{line}
use Rattle.comparison.proofs.Pieces.{left_all, left_put, left_last}
use Rattle.comparison.proofs.line.put_line.Goals as goal

pub returns : goal.returns
unfolding line
returns c = left_last (left_put (left_put (left_put (left_put (left_put (left_all (omega arith)) c.put_decimal.ensures) c.put_byte.ensures) c.put_standing.ensures) c.put_bytes.ensures) c.put_standing-2.ensures) c.put_byte-2.ensures
