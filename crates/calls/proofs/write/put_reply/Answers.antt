-- `calls::write::put_reply` meets its contract. Assumes nothing.
use native.Mathlib.Omega.{arith}
use Rattle.calls.proofs.WriteWords.{piece_then, reply-bytes}
use Rattle.calls.proofs.write.put_reply.Goals as goal

pub returns : goal.returns
returns c = rw reply-bytes (piece_then (omega arith) c.put_word.ensures (λ h. piece_then h c.put_word-2.ensures (λ h. piece_then h c.put_flag.ensures (λ h. piece_then h c.put_state.ensures (λ h. piece_then h c.put_log.ensures (λ h. piece_then h c.put_conf_state.ensures (λ h. c.put_word-3.ensures)))))))
