-- Can this box be unplugged?: document 02, d). Assumes nothing.
use Rattle.std.specs.Prelude.{ℕ, Bool, false, ◌||◌, not, cond, List, [], ◌∷◌, eqb}
use Rattle.rules.specs.Ids.{is_empty}
use Rattle.rules.specs.State.{State, formed}
use Rattle.rules.specs.Answers.{Answer, Verdict, ◌▸◌, accepted, fault, ok, refuse, refused}
use Rattle.rules.specs.Check.{check, is_tracked, joint}
use Rattle.rules.specs.Calls.{simple}

-- the number and id of an answer
abbrev pub verdict_in : Answer → Verdict
verdict_in (accepted c log) = ok
verdict_in (refused n x) = fault n x

-- "the number and id returned equal those of `simple` with that single removal. Any other state gets the full call's answer."
unfoldable pub unplug : State → ℕ → Verdict
unplug s x = verdict_in (simple s (x ∷ []) (1 ∷ []))

-- ** What it comes to

-- "whether another incoming voter exists": one that is not x
unfoldable pub another : ℕ → List ℕ → Bool
another x [] = false
another x (y ∷ ys) = not (eqb y x) || another x ys

-- "For every state in order": "from .. joint or not, and whether another incoming voter exists". The box's own standing does not matter.
abbrev pub quick : State → ℕ → Verdict
quick s x = refuse (joint s.conf) 6 0 ▸ refuse (not (another x s.conf.incoming)) 17 0

-- a voter is left without x: "a change with id 0 is skipped", so of 0 any voter is
abbrev pub voter_left : ℕ → List ℕ → Bool
voter_left x xs = cond (eqb x 0) (not (is_empty xs)) (another x xs)

-- for every state: 1, 6, the check, 17
unfoldable pub straight : State → ℕ → Verdict
straight s x =
    refuse (not (formed s)) 1 0
    ▸ refuse (joint s.conf) 6 0
    ▸ check (is_tracked s) s.conf
    ▸ refuse (not (voter_left x s.conf.incoming)) 17 0
