-- What a record is answered, of a well-formed state: an accepted answer fits its structs and is applied, a refusal's number is not 0.
-- Assumes nothing.
use Prim.Native.Nat.{ℕ}
use mathlib.Core.Path.{◌≡◌, refl}
use mathlib.Core.Bool.{true}
use lib.Dec.{eqb}
use Rattle.rules.specs.State.{State, formed}
use Rattle.rules.specs.Answers.{Answer, accepted, refused}
use Rattle.std.specs.Prelude.{Result, Ok, Err}
use Rattle.tracker.specs.declared.Configuration.{Configuration}
use Rattle.tracker.specs.declared.refusal.Refusal.{Refusal}
use Rattle.tracker.proofs.Bridge.{conf-back, log_back}
use Rattle.changer.specs.Calls.{answered, answer_of}
use Rattle.changer.specs.declared.Changed.{Changed}
use Rattle.changer.proofs.Answered.{refused_number}
use Rattle.restore.proofs.Applied.{Fits, simple-fits, enter-fits, leave_fits, applied-formed}
use Rattle.listing.specs.Script.{Session, is_change, answer_to, after}
use Rattle.listing.specs.Lines.{answer_line}
use Rattle.listing.specs.Sessions.{answer_text, result_text}
use Rattle.listing.proofs.Cases.{either}

module _ (y : Session) (f : formed y.state ≡ true) (kind n : ℕ) where
  pub answer-fits : Fits y.state n (answer_to y kind)
  unfolding answer_to
  answer-fits =
      either (eqb kind 3) (λ a. rw a (simple-fits y.state n f y.ids y.kinds))
      (λ a. either (eqb kind 6) (λ b. rw (a, b) (leave_fits y.state n f)) (λ b. rw (a, b) (enter-fits y.state n f (eqb kind 5) y.ids y.kinds)))

  pub after-formed : formed (after y kind n).state ≡ true
  unfolding after
  after-formed = either (is_change kind) (λ c. rw c f) (λ c. rw c (applied-formed y.state n f (answer_to y kind) answer-fits))

-- a fitting answer's line, from its struct
pub text_same : (s : State) (n : ℕ) (given : Configuration) (i : ℕ) (a : Answer) → Fits s n a → (k : ℕ) → answer_text k (answer_of given i a) ≡ answer_line k a
unfolding answer_text Fits
text_same s n given i (accepted c log) h k = rw (conf-back c h.fits, log_back log h.short)
text_same s n given i (refused m x) h k = rw h

-- an answer's line is that of the call's result, whatever the configuration that a refusal gives back
pub result_line : (k : ℕ) (given : Configuration) (r : Result Changed Refusal) → answer_text k (answered given r) ≡ result_text k r
unfolding answer_text
result_line k given (Ok a) = refl
result_line k given (Err q) = rw (refused_number q) refl
