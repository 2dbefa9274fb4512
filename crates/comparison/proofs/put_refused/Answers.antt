-- `comparison::put_refused` meets its contract: its pieces, one after the other. Assumes nothing.
use native.Mathlib.Omega.{arith}
use Rattle.comparison.specs.Compare.{refused_text}
use Rattle.comparison.proofs.Pieces.{left_all, left_put, left_last}
use Rattle.comparison.proofs.put_refused.Goals as goal

pub returns : goal.returns
unfolding refused_text
returns c = left_last (left_put (left_put (left_all (omega arith)) c.put_bytes.ensures) (rw c.number.ensures at c.put_decimal.ensures)) c.put_byte.ensures
