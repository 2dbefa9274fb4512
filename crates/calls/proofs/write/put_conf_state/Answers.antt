-- `calls::write::put_conf_state` meets its contract. Assumes nothing.
use native.Mathlib.Omega.{arith}
use Rattle.calls.proofs.WriteWords.{piece_then, conf-state-bytes}
use Rattle.calls.proofs.write.put_conf_state.Goals as goal

pub returns : goal.returns
returns c = rw conf-state-bytes (piece_then (omega arith) c.put_ids.ensures (λ h. piece_then h c.put_ids-2.ensures (λ h. piece_then h c.put_ids-3.ensures (λ h. piece_then h c.put_ids-4.ensures (λ h. c.put_flag.ensures)))))
