-- `calls::read::word` meets its contract: a word past the end is 0. Assumes nothing.
use native.Mathlib.Omega.{arith}
use Prim.Native.Nat.{◌*◌}
use mathlib.Core.Path.{sym}
use Rattle.calls.proofs.ReadNumbers.{number_past}
use Rattle.calls.proofs.read.word.Goals as goal

pub returns-then-s-k : goal.returns-then-s-k
returns-then-s-k c = let a = c.args in sym (number_past 8 a.s.now (8 * a.k) (omega arith))
