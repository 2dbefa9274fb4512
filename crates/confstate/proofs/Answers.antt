-- What the reader answers and leaves. Assumes nothing.
use Prim.Native.Nat.{ℕ, ◌≤◌, ◌<◌}
use mathlib.Core.Path.{◌≡◌, refl, ap, sym, ◌∙◌}
use mathlib.Core.List.{List, ◌++◌}
use native.Mathlib.Omega.{arith}
use borrow.Author.Tests.{lt-ltb, le-ltb}
use lib.ListN.{length, take, drop, replicate}
use lib.Seq.{length-take-le}
use Rattle.std.specs.Prelude.{Result, Ok, Err}
use Rattle.rules.specs.Apply.{no_conf_state}
use Rattle.rules.specs.Message.{Read, refused, taken, read, number_read, message_read}
use Rattle.rules.proofs.Refusals.{read_named}
use Rattle.confstate.specs.Words.{conf_state_words}
use Rattle.confstate.specs.Entries.{read_answer, read_leaves}
use Rattle.confstate.specs.Refusals.{number_of, told}
use Rattle.confstate.specs.Steps.{Reads}
use Rattle.confstate.specs.declared.read.Refusal.{Refusal}
use Rattle.confstate.proofs.Clearing.{cleared}
use Rattle.confstate.proofs.Fields.{named}

-- less than 261 words
pub too_short : (l old : List ℕ) → length old < 261 → (100 ≡ read_answer l (length old)) × (old ≡ read_leaves l old)
unfolding read_answer read_leaves
too_short l old h = (rw (lt-ltb _ _ h), rw (lt-ltb _ _ h))

module _ (l old : List ℕ) (h : 261 ≤ length old) where
  pub answer : read_answer l (length old) ≡ number_read (read l)
  unfolding read_answer
  answer = rw (le-ltb (length old) 261 h)

  pub leaves : read_leaves l old ≡ conf_state_words (message_read (read l)) ++ drop 261 old
  unfolding read_leaves
  leaves = rw (le-ltb (length old) 261 h)

  -- the words cleared, as many as were lent
  pub zeros : {c : List ℕ} → c ≡ replicate (length (take 261 old)) 0 → c ≡ conf_state_words no_conf_state
  zeros e = e ∙ (ap (λ (n : ℕ). replicate n 0) (length-take-le 261 old h) ∙ cleared)

  -- what comes of the fields
  module _ (new : List ℕ) (r : Result (Unit {0}) Refusal) (w : Reads (read l) r new) where
    pub accepted : {u : Unit {0}} → r ≡ Ok u → (0 ≡ read_answer l (length old)) × (new ++ drop 261 old ≡ read_leaves l old)
    unfolding Reads
    accepted z = by (read l) refl w
      where
        by : (x : Read) → read l ≡ x → Reads x r new → (0 ≡ read_answer l (length old)) × (new ++ drop 261 old ≡ read_leaves l old)
        by (refused d) g y = absurd (omega (arith, (read_named l g).0, y, ap told z))
        by (taken m) g y = (
          sym (answer ∙ ap number_read g),
          ap (λ (i : List ℕ). i ++ drop 261 old) y.1 ∙ sym (leaves ∙ ap (λ (x : Read). conf_state_words (message_read x) ++ drop 261 old) g),
        )

    pub refusing : {e : Refusal} {n : ℕ} {d : List ℕ} → r ≡ Err e → n ≡ number_of e → d ≡ conf_state_words no_conf_state
        → (n ≡ read_answer l (length old)) × (d ++ drop 261 old ≡ read_leaves l old)
    unfolding Reads
    refusing {e} {n} {d} z i f = by (read l) refl w
      where
        by : (x : Read) → read l ≡ x → Reads x r new → (n ≡ read_answer l (length old)) × (d ++ drop 261 old ≡ read_leaves l old)
        by (refused k) g y = (
          i ∙ (sym (ap told z) ∙ (y ∙ sym (answer ∙ ap number_read g))),
          ap (λ (j : List ℕ). j ++ drop 261 old) f ∙ sym (leaves ∙ ap (λ (x : Read). conf_state_words (message_read x) ++ drop 261 old) g),
        )
        by (taken m) g y = absurd (named e (sym (ap told z) ∙ y.0))
