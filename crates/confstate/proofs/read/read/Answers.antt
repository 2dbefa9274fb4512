-- `confstate::read::read` meets its contract. Assumes nothing.
use Prim.Native.Nat.{ℕ}
use mathlib.Core.Path.{refl, ap, ◌∙◌}
use borrow.Author.Rules.{rules}
use lib.ListN.{replicate}
use Rattle.confstate.proofs.Answers.{too_short, zeros, accepted, refusing}
use Rattle.confstate.proofs.read.read.Goals as goal

pub returns-then-conf_state-lt-WORDS : goal.returns-then-conf_state-lt-WORDS
returns-then-conf_state-lt-WORDS c = too_short c.args.bytes.now c.args.conf_state.now c.if-conf_state-lt-WORDS.true

pub fields-requires : goal.fields-requires
fields-requires c = zeros c.args.bytes.now c.args.conf_state.now c.if-conf_state-lt-WORDS.false (c.fill.ensures.after (λ y h. search rules))

pub returns-in-Ok : goal.returns-in-Ok
returns-in-Ok c = accepted c.args.bytes.now c.args.conf_state.now c.if-conf_state-lt-WORDS.false _ _ c.fields.ensures c.in-Ok.is

pub returns-in-Err : goal.returns-in-Err
returns-in-Err c =
    let e = c.fill-in-Err.ensures.after (λ y h. search rules) ∙ ap (λ (n : ℕ). replicate n 0) (c.fields.auto.words ∙ c.fill.ensures.len) in
    refusing c.args.bytes.now c.args.conf_state.now c.if-conf_state-lt-WORDS.false _ _ c.fields.ensures c.in-Err.is refl
    (zeros c.args.bytes.now c.args.conf_state.now c.if-conf_state-lt-WORDS.false e)
