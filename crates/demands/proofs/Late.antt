-- A step is refused with a number over 3: 1, 2 and 3 are asked before the first. Assumes nothing.
use Prim.Native.Nat.{ℕ}
use mathlib.Core.Path.{◌≡◌, refl}
use mathlib.Core.Bool.{true}
use mathlib.Core.List.{List, [], ◌∷◌}
use native.Mathlib.Omega.{arith}
use borrow.Author.Tests.{lt-ltb, ltb-true}
use lib.Dec.{ltb}
use Rattle.rules.specs.State.{State, formed}
use Rattle.rules.specs.Answers.{Answer, Verdict, accepted, fault, ok, refused}
use Rattle.rules.specs.Restore.{Step, apply_answer, ask, attempt, go_on, run}
use Rattle.rules.proofs.Applied.{any_applied}
use Rattle.rules.proofs.Demand3.{all_short}
use Rattle.rules.proofs.Numbers.{Numbered, NumberedAnswer, asked-numbered, check-numbered}
use Rattle.rules.proofs.Order.{step_short}
use Rattle.restore.proofs.Applied.{applied-formed, asked-fits}

abbrev Over3 : ℕ → Type 0
Over3 n = ltb 3 n ≡ true

abbrev pub Late : Verdict → Type 0
Late v = Numbered Over3 v

over : (n : ℕ) → ltb 6 n ≡ true → Over3 n
over n h = lt-ltb 3 n (omega (arith, ltb-true 6 n h))

late_ask : (s : State) (p : Step) → NumberedAnswer Over3 (ask s p)
late_ask = asked-numbered Over3 (check-numbered Over3 over) (λ n h e. h)

-- ** A run

module _ (n : ℕ) where
  late_attempt : (s : State) → formed s ≡ true → (p : Step) → step_short p → Late (attempt n s p).verdict
  unfolding Numbered NumberedAnswer
  late_attempt s f p h = go (ask s p) refl (late_ask s p)
    where
      go : (a : Answer) → ask s p ≡ a → NumberedAnswer Over3 a → Late (apply_answer s n a).verdict
      go (accepted c log) e k = rw (any_applied s f n p h c log e).done tt
      go (refused m x) e k = k

  pub late_run : (ps : List Step) → all_short ps → (s : State) → formed s ≡ true → Late (run n s ps).verdict
  unfolding run Numbered
  late_run [] h s f = tt
  late_run (p ∷ ps) h s f =
      go (attempt n s p).verdict (attempt n s p).state (late_attempt s f p h.0) (applied-formed s n f (ask s p) (asked-fits s n f p h.0)) (late_run ps h.1)
    where
      go : (v : Verdict) (u : State) → Late v → formed u ≡ true → ((u : State) → formed u ≡ true → Late (run n u ps).verdict)
          → Late (go_on (record { verdict = v; state = u }) (λ u. run n u ps)).verdict
      go ok u l g k = k u g
      go (fault m x) u l g k = l
