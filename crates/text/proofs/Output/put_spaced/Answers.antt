-- `Output::put_spaced` meets its contract. Assumes nothing.
use native.Mathlib.Omega.{arith}
use Rattle.text.proofs.Outputs.{writes_then}
use Rattle.text.proofs.Output.put_spaced.Goals as goal

pub returns : goal.returns
returns c = writes_then (omega arith) c.put_byte.ensures c.put_decimal.ensures
