-- `calls::write::put_word` meets its contract: the bytes are those of the number. Assumes nothing.
use native.Mathlib.Omega.{arith}
use mathlib.Core.Path.{◌∙◌}
use Rattle.calls.proofs.WriteWords.{word_le, word_fits}
use Rattle.calls.proofs.write.put_word.Goals as goal

pub returns-then-to-at-ge8 : goal.returns-then-to-at-ge8
returns-then-to-at-ge8 c = word_fits c.args.n (omega arith) (omega arith) (c.copy_from_slice.ensures.after ∙ c.to_le_bytes-bytes.ensures) (omega arith)

pub returns : goal.returns
returns c = rw (c.to_le_bytes-bytes.ensures, word_le c.args.n) at c.put_bytes.ensures
