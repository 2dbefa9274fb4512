-- `Output::put_group` meets its contract. Assumes nothing.
use native.Mathlib.Omega.{arith}
use Rattle.text.specs.Text.{group}
use Rattle.text.proofs.Outputs.{writes_then, writes_length}
use Rattle.text.proofs.Output.put_group.Goals as goal

pub returns : goal.returns
unfolding group
returns c = writes_then (omega arith) c.put_byte.ensures (writes_then (omega (arith, writes_length c.put_byte.ensures)) c.put_words.ensures c.put_byte-2.ensures)
