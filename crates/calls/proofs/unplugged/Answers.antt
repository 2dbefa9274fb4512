-- `calls::unplugged` meets its contract, one law for each answer. Assumes nothing.
use Prim.Native.Nat.{ℕ}
use mathlib.Core.Path.{◌≡◌, ap, sym, subst, ◌∙◌}
use mathlib.Core.Bool.{false≢true}
use mathlib.Core.List.{List}
use Rattle.std.specs.Prelude.{Result, Ok, Err, IsErr, IsErrAnd}
use Rattle.tracker.specs.declared.refusal.Refusal.{Refusal}
use Rattle.calls.specs.Asked.{refusal_number, same_unfit}
use Rattle.calls.specs.Unplugs.{Unplugs, told, unplug_answer}
use Rattle.calls.specs.declared.asked.Unanswered.{Unanswered}
use Rattle.calls.proofs.UnplugEntry.{lacks_length, lacks-room, answered, map_err}
use Rattle.calls.proofs.unplugged.Goals as goal

-- what `?` gives on is the refusal
refused_with : {A : Type 0} (ws : List ℕ) (x room : ℕ) (w : Unanswered) → unplug_answer ws room ≡ refusal_number w → (r : Result (Result A Refusal) Unanswered) → IsErr r × IsErrAnd r (λ e. e ≡ w) → Unplugs ws x room (told r)
refused_with ws x room w a (Ok v) h = absurd (false≢true h.0)
refused_with ws x room w a (Err e) h = a ∙ ap refusal_number (sym h.1)

pub returns-then-state-ne-WORDS : goal.returns-then-state-ne-WORDS
returns-then-state-ne-WORDS c = lacks_length c.args.state.now c.args.room c.if-state-ne-WORDS.true

pub returns-then-room-lt2 : goal.returns-then-room-lt2
returns-then-room-lt2 c = lacks-room c.args.state.now c.args.room c.if-state-ne-WORDS.false c.if-room-lt2.true

pub returns-in_err-unplug : goal.returns-in_err-unplug
returns-in_err-unplug c = let a = c.args in
    refused_with a.state.now a.id a.room (same_unfit c.in_err-unplug.field-0.0)
    (subst (λ r. Unplugs a.state.now a.id a.room (map_err r)) (sym c.in_err-unplug.ensures) (answered a.state.now a.room c.if-state-ne-WORDS.false c.if-room-lt2.false a.id))
    c.from_residual.result c.from_residual.ensures

pub returns : goal.returns
returns c = let a = c.args in
    subst (λ r. Unplugs a.state.now a.id a.room (map_err r)) (sym c.in_ok-unplug.ensures) (answered a.state.now a.room c.if-state-ne-WORDS.false c.if-room-lt2.false a.id)
