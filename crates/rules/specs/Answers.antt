-- What a call answers: document 01, "Refusal numbers". Assumes nothing.
use Rattle.std.specs.Prelude.{ℕ, Bool, true, false, List, [], ◌∷◌}
use Rattle.rules.specs.State.{Conf, Entry, State}

-- what a test says: nothing ("0 is accepted"), or a refusal's number and id
pub data Verdict : Type 0 where
  ok : Verdict
  fault : ℕ → ℕ → Verdict

-- "A refusal gives the number and the id named here, else id 0, the state given and an empty log."
-- What `simple`, `enter_joint` and `leave_joint` answer: the new configuration with the log, or number and id.
pub data Answer : Type 0 where
  accepted : Conf → List Entry → Answer
  refused : ℕ → ℕ → Answer

-- what a call that changes the state answers and leaves
pub record Outcome : Type 0 where
  pub verdict : Verdict
  pub state : State

-- the test, refused with this number and id where it is true
abbrev pub refuse : Bool → ℕ → ℕ → Verdict
refuse true n x = fault n x
refuse false n x = ok

-- one test after the other: the first fault is what they say
infixr 20 ◌▸◌
abbrev pub ◌▸◌ : Verdict → Verdict → Verdict
◌▸◌ ok v = v
◌▸◌ (fault n x) v = fault n x

-- the tests passed, the answer; else their refusal
infixr 15 ◌⇒◌
abbrev pub ◌⇒◌ : Verdict → Answer → Answer
◌⇒◌ ok a = a
◌⇒◌ (fault n x) a = refused n x

-- the test of each id, in the list's order
unfoldable pub each : (ℕ → Verdict) → List ℕ → Verdict
each f [] = ok
each f (x ∷ xs) = f x ▸ each f xs

abbrev pub passes : Verdict → Bool
passes ok = true
passes (fault n x) = false

-- the tests passed, the new state; else their refusal with the state given
abbrev pub settle : Verdict → State → State → Outcome
settle ok s t = record { verdict = ok; state = t }
settle (fault n x) s t = record { verdict = fault n x; state = s }
