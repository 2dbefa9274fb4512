-- `calls::write::put_log` meets its contract. Assumes nothing.
use borrow.Author.Rules.{rules}
use native.Mathlib.Omega.{arith}
use Rattle.calls.proofs.WriteWords.{piece_then, log-bytes, entry_bytes, each-entry}
use Rattle.calls.proofs.write.put_log.Goals as goal

pub returns : goal.returns
returns c = rw log-bytes (piece_then (omega arith) (rw each-entry at (c.put_each.ensures entry_bytes (λ p x q k. search rules))) (λ h. c.put_word.ensures))
