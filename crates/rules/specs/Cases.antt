-- The states that the further examples are asked of. Assumes nothing.
use Rattle.std.specs.Prelude.{ℕ, zero, suc, true, List, [], ◌∷◌}
use Rattle.rules.specs.State.{Conf, State, fresh, ConfState}
use Rattle.rules.specs.Rows.{old, olds, conf, of}

-- n copies of x; 1 to n, before l
abbrev pub times : ℕ → ℕ → List ℕ
times zero x = []
times (suc n) x = x ∷ times n x

abbrev pub up_to : ℕ → List ℕ → List ℕ
up_to zero l = l
up_to (suc n) l = up_to n (suc n ∷ l)

abbrev pub s0 : State
s0 = fresh 256

abbrev pub s1 : State
s1 = of (old 1 ∷ []) (conf (1 ∷ []) [] [] [])

abbrev pub s2 : State
s2 = of (olds (1 ∷ 2 ∷ [])) (conf (1 ∷ 2 ∷ []) [] [] [])

-- joint: (1)&&(1 2)
abbrev pub sj : State
sj = of (olds (1 ∷ 2 ∷ [])) (conf (1 ∷ []) (1 ∷ 2 ∷ []) [] [])

-- joint with the flag, (1 2)&&(1); joint with two that go, (1)&&(1 2 3)
abbrev pub sf : State
sf = of (olds (1 ∷ 2 ∷ [])) (record { incoming = 1 ∷ 2 ∷ []; outgoing = 1 ∷ []; learners = []; staged = []; auto_leave = true })

abbrev pub sg : State
sg = of (olds (1 ∷ 2 ∷ 3 ∷ [])) (conf (1 ∷ []) (1 ∷ 2 ∷ 3 ∷ []) [] [])

-- the same lists, with the flag
abbrev pub flagged : List ℕ → List ℕ → List ℕ → List ℕ → ConfState
flagged v l o g = record { voters = v; learners = l; voters_outgoing = o; learners_next = g; auto_leave = true }

-- malformed: a set that does not ascend, one with an id twice, one of 65; the tracked list likewise
abbrev pub down : Conf
down = conf (2 ∷ 1 ∷ []) [] [] []

abbrev pub m1 : State
m1 = of (olds (1 ∷ 2 ∷ [])) down

abbrev pub m2 : State
m2 = of (olds (1 ∷ [])) (conf (1 ∷ []) (1 ∷ 1 ∷ []) [] [])

abbrev pub m3 : State
m3 = of (olds (1 ∷ [])) (conf (1 ∷ []) [] (up_to 65 []) [])

abbrev pub m4 : State
m4 = of (olds (1 ∷ [])) (conf (1 ∷ []) [] [] (3 ∷ 2 ∷ []))

abbrev pub m5 : State
m5 = of (olds (up_to 65 [])) (conf (1 ∷ []) [] [] [])

-- example 14, example 15, and 64 tracked with a single voter
abbrev pub s14 : State
s14 = of (olds (1 ∷ 2 ∷ [])) (conf (1 ∷ 2 ∷ []) (1 ∷ 2 ∷ []) [] (2 ∷ []))

abbrev pub s15 : State
s15 = of (olds (up_to 64 [])) (conf (up_to 63 []) [] (64 ∷ []) [])

abbrev pub s16 : State
s16 = of (olds (up_to 64 [])) (conf (1 ∷ []) [] [] [])

-- auto_leave while not joint
abbrev pub s17 : State
s17 = of (old 1 ∷ []) (record { incoming = 1 ∷ []; outgoing = []; learners = []; staged = []; auto_leave = true })
