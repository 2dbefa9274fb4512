-- `calls::call_in` meets its contract, one law for each answer. Assumes nothing.
use Prim.Native.Nat.{ℕ}
use mathlib.Core.Path.{◌≡◌, ap, sym, ◌∙◌}
use mathlib.Core.Bool.{false≢true}
use mathlib.Core.List.{List}
use native.Mathlib.Omega.{arith}
use Rattle.std.specs.Prelude.{Result, Ok, Err, IsErr, IsErrAnd}
use Rattle.calls.specs.Asked.{refusal_number}
use Rattle.calls.specs.Call.{Asks, call_answer}
use Rattle.calls.specs.declared.asked.Call.{Call}
use Rattle.calls.specs.declared.asked.Unanswered.{Unanswered}
use Rattle.calls.proofs.WriteCalls.{lacks-length, lacks-room, lacks-call, lacks-field, asks-call}
use Rattle.calls.proofs.call_in.Goals as goal

-- what `?` gives on is the refusal
refused_with : (s : List ℕ) (room : ℕ) (w : Unanswered) → call_answer s room ≡ refusal_number w → (r : Result Call Unanswered) → IsErr r × IsErrAnd r (λ e. e ≡ w) → Asks s room r
refused_with s room w a (Ok c) h = absurd (false≢true h.0)
refused_with s room w a (Err e) h = a ∙ ap refusal_number (sym h.1)

pub returns-then-request-ne-REQUEST : goal.returns-then-request-ne-REQUEST
returns-then-request-ne-REQUEST c = lacks-length c.args.request.now c.args.room c.if-request-ne-REQUEST.true

pub returns-then-room-lt-REPLY : goal.returns-then-room-lt-REPLY
returns-then-room-lt-REPLY c = lacks-room c.args.request.now c.args.room c.if-request-ne-REQUEST.false c.if-room-lt-REPLY.true

pub returns-in_err-call : goal.returns-in_err-call
returns-in_err-call c = let e = c.in_err-call.ensures in
    refused_with c.args.request.now c.args.room c.in_err-call.field-0.0
    (lacks-call c.args.request.now c.args.room c.if-request-ne-REQUEST.false c.if-room-lt-REPLY.false (omega (arith, c.word.ensures, e.1)) ∙ sym (ap refusal_number e.0))
    c.from_residual.result c.from_residual.ensures

pub returns-then-not-holds : goal.returns-then-not-holds
returns-then-not-holds c = lacks-field c.args.request.now c.args.room c.if-request-ne-REQUEST.false c.if-room-lt-REPLY.false c.in_ok-call.call (c.in_ok-call.ensures ∙ c.word.ensures) (sym c.if-not-holds.ensures)

pub returns : goal.returns
returns c = (
  asks-call c.args.request.now c.args.room c.if-request-ne-REQUEST.false c.if-room-lt-REPLY.false c.in_ok-call.call (c.in_ok-call.ensures ∙ c.word.ensures) (sym c.if-not-holds.ensures),
  c.in_ok-call.ensures ∙ c.word.ensures,
  c.if-room-lt-REPLY.false,
)
