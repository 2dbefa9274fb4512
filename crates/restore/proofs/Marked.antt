-- A refusal has a number other than 0, which says accepted: of every test, and of every step. Assumes nothing.
use Prim.Native.Nat.{ℕ}
use mathlib.Core.Path.{◌≡◌}
use mathlib.Core.Bool.{true, false}
use native.Mathlib.Omega.{arith}
use borrow.Author.Tests.{ltb-true, ne_eqb}
use lib.Dec.{eqb, ltb}
use Rattle.rules.specs.State.{State}
use Rattle.rules.specs.Answers.{Answer, Verdict}
use Rattle.rules.specs.Restore.{Step, ask}
use Rattle.rules.proofs.Numbers.{Numbered, NumberedAnswer, asked-numbered, check-numbered}

abbrev pub NotZero : ℕ → Type 0
NotZero n = eqb n 0 ≡ false

abbrev pub Marked : Verdict → Type 0
Marked v = Numbered NotZero v

abbrev pub Answered : Answer → Type 0
Answered a = NumberedAnswer NotZero a

over : (k n : ℕ) → ltb k n ≡ true → NotZero n
over k n h = ne_eqb n 0 (λ e. omega (arith, ltb-true k n h))

pub asked-answered : (s : State) (p : Step) → Answered (ask s p)
asked-answered = asked-numbered NotZero (check-numbered NotZero (over 6)) (λ n h e. over 3 n h)
