-- The faults of one field, each by its own clause of document 02, k): what "within it the lower number" chooses from. The reader does not need them: that it
-- tells the least is proved (proofs/Lowest.antt). Assumes nothing.
use Rattle.std.specs.Prelude.{ℕ, ◌+◌, ◌/◌, ◌%◌, min, ◌≡◌, cond, List, [], ◌∷◌, ◌++◌, eqb, leb, length, drop}
use Rattle.rules.specs.State.{ConfState}
use Rattle.rules.specs.Wire.{Front, cut, num, fits, Found, bad, found, Payload, varint, fixed, bytes, Field, numbered, payload_in, varint_in, field_in}
use Rattle.rules.specs.Message.{Read, refused, taken, fronts, entered}

-- "28, cut short", "29, a varint over ten bytes or 64 bits"
abbrev pub varint_faults : Front → List ℕ
varint_faults cut = 28 ∷ []
varint_faults (num v n) = cond (fits v n) [] (29 ∷ [])

-- of packed numbers, each one's
unfoldable pub packed_faults : List Front → List ℕ
packed_faults [] = []
packed_faults (f ∷ fs) = varint_faults f ++ packed_faults fs

-- "29, .. field number 0 or over 2^29 − 1"
abbrev pub number_faults : ℕ → List ℕ
number_faults f = cond (numbered f) [] (29 ∷ [])

-- "30, a list over 64": of a list that is to have n ids
abbrev pub length_faults : ℕ → List ℕ
length_faults n = cond (leb n 64) [] (30 ∷ [])

-- of a field that is a list of n ids so far; "29, .. a known field under a wrong wire type"
abbrev pub list_faults : ℕ → Payload → List ℕ
list_faults n (varint v) = length_faults (n + 1)
list_faults n fixed = 29 ∷ []
list_faults n (bytes l) = packed_faults (fronts l) ++ length_faults (n + length (fronts l))

abbrev pub flag_faults : Payload → List ℕ
flag_faults (varint v) = []
flag_faults fixed = 29 ∷ []
flag_faults (bytes l) = 29 ∷ []

unfoldable pub meaning_faults : ℕ → Payload → ConfState → List ℕ
meaning_faults f p m =
    cond (eqb f 1) (list_faults (length m.voters) p)
    (cond (eqb f 2) (list_faults (length m.learners) p)
    (cond (eqb f 3) (list_faults (length m.voters_outgoing) p)
    (cond (eqb f 4) (list_faults (length m.learners_next) p)
    (cond (eqb f 5) (flag_faults p) []))))

-- of a field of number f: its payload's, its number's, and, where it has a payload, those of what it means
abbrev pub field_faults : ℕ → Found Payload → ConfState → List ℕ
field_faults f (bad e) m = e ∷ number_faults f
field_faults f (found p k) m = number_faults f ++ meaning_faults f p m

-- of what stands at the front of bytes, behind the message m; of a faulty tag no more is known
abbrev pub tag_faults : List ℕ → Found ℕ → ConfState → List ℕ
tag_faults l (bad e) m = e ∷ []
tag_faults l (found t n) m = field_faults (t / 8) (payload_in (t % 8) (drop n l)) m

unfoldable pub faults : List ℕ → ConfState → List ℕ
faults l m = tag_faults l (varint_in l) m

-- the least of some numbers
abbrev pub least_of : ℕ → List ℕ → ℕ
least_of x [] = x
least_of x (y ∷ ys) = min x (least_of y ys)

-- what the reader makes of the field at the front of bytes
abbrev pub step : Found Field → ConfState → Read
step (bad e) m = refused e
step (found f n) m = entered f m

-- a refusal is the least of some faults; what is taken has none
abbrev pub Least : Read → List ℕ → Type 0
Least (refused e) [] = ⊥
Least (refused e) (x ∷ xs) = e ≡ least_of x xs
Least (taken m) fs = fs ≡ []

-- "within it the lower number"
abbrev pub LowestTold : List ℕ → ConfState → Type 0
LowestTold l m = Least (step (field_in l) m) (faults l m)
