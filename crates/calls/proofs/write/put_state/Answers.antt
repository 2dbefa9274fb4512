-- `calls::write::put_state` meets its contract. Assumes nothing.
use borrow.Author.Rules.{rules}
use native.Mathlib.Omega.{arith}
use Rattle.calls.proofs.WriteWords.{piece_then, state-bytes, record_bytes, each_record}
use Rattle.calls.proofs.write.put_state.Goals as goal

pub returns : goal.returns
returns c = rw state-bytes (piece_then (omega arith) c.put_conf.ensures (λ h. piece_then h c.put_ids.ensures (λ h. piece_then h (rw each_record at (c.put_each.ensures record_bytes (λ p x q k. search rules))) (λ h. c.put_word.ensures))))
