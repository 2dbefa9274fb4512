-- `Session::turn` meets its contract. Assumes nothing.
use Prim.Native.Nat.{◌≤◌, ◌<◌}
use native.Mathlib.Omega.{arith}
use mathlib.Core.Path.{◌≡◌, ◌∙◌}
use Rattle.text.proofs.Outputs.{writes_none}
use Rattle.listing.specs.Kinds.{byte_of}
use Rattle.listing.specs.Sessions.{answer_in}
use Rattle.listing.proofs.Answers.{result_line}
use Rattle.listing.proofs.Records.{byte_is, run-answer, unknown-answer}
use Rattle.listing.proofs.Turns.{change-shown, change-after, run-shown, run-after}
use Rattle.listing.proofs.Session.turn.Goals as goal
use Rattle.listing.proofs.Session.turn.Goals.{in-Some-Run, in-None}

pub returns-in-Some-Change : goal.returns-in-Some-Change
returns-in-Some-Change c = let h : c.args.kind ≤ 2 = byte_is c.args.kind c.in-Some-Change.field-0-is c.in-Some-Change.ensures in
    record { put = rw (change-shown _ _ h) (writes_none (omega arith)); after = c.pend.ensures ∙ change-after _ _ _ h }

pub returns : goal.returns
returns c =
    let z = c.args.self.now in
    let h : (2 < c.args.kind) × (answer_in z (byte_of c.match-of.run) ≡ answer_in z c.args.kind) = elim c.match-of.branch [
      | in-Some-Run w ↦ run-answer z w.run-is (byte_is c.args.kind w.in-Some-Run.field-0-is w.in-Some-Run.ensures)
      | in-None w ↦ unknown-answer z w.run-is w.in-None.ensures
    ] in
    let e = c.answer_to-answer.ensures ∙ h.1 in
    let f = c.apply.ensures in
    record { put = rw (run-shown _ _ _ h.0 e f, result_line _ _ _) c.put_answer.ensures; after = run-after _ _ _ h.0 e f }
