-- `calls::write::put_conf` meets its contract. Assumes nothing.
use native.Mathlib.Omega.{arith}
use Rattle.calls.proofs.WriteWords.{piece_then, conf-bytes}
use Rattle.calls.proofs.write.put_conf.Goals as goal

pub returns : goal.returns
returns c = rw conf-bytes (piece_then (omega arith) c.put_ids.ensures (λ h. piece_then h c.put_ids-2.ensures (λ h. piece_then h c.put_ids-3.ensures (λ h. piece_then h c.put_ids-4.ensures (λ h. c.put_flag.ensures)))))
