-- `calls::write::put_ids` meets its contract. Assumes nothing.
use native.Mathlib.Omega.{arith}
use Rattle.calls.proofs.WriteWords.{piece_then, set-bytes}
use Rattle.calls.proofs.write.put_ids.Goals as goal

pub returns : goal.returns
returns c = rw set-bytes (piece_then (omega arith) c.put_words.ensures (λ h. c.put_word.ensures))
