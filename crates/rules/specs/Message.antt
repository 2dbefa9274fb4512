-- ConfState as it travels: document 02, k). Assumes nothing.
use Rattle.std.specs.Prelude.{ℕ, ◌-◌, ◌^◌, ◌≤◌, ◌<◌, ◌≡◌, Bool, true, false, ◌||◌, not, cond, List, [], ◌∷◌, ◌++◌, eqb, leb, ltb, length, drop}
use Rattle.rules.specs.State.{ConfState}
use Rattle.rules.specs.Apply.{no_conf_state}
use Rattle.rules.specs.Wire.{Front, cut, num, more, judged, Found, bad, found, Payload, varint, fixed, bytes, Field, Row, end, fault, next, row, varint_of, tag_of, length_field}

-- ** The numbers of a list

-- numbers, or the refusal
pub data Numbers : Type 0 where
  faulty : ℕ → Numbers
  all : List ℕ → Numbers

-- the varints of packed bytes, one after the other; bytes that follow the last are a cut one
abbrev pub carried : ℕ → List Front → List Front
carried low [] = cut ∷ []
carried low (f ∷ fs) = more low f ∷ fs

unfoldable pub fronts : List ℕ → List Front
fronts [] = []
fronts (b ∷ bs) = cond (ltb b 128) (num b 1 ∷ fronts bs) (carried (b - 128) (fronts bs))

-- "within it the lower number"
abbrev pub lower : ℕ → Numbers → Numbers
lower e (faulty d) = faulty (cond (ltb e d) e d)
lower e (all xs) = faulty e

abbrev pub before : Found ℕ → Numbers → Numbers
before (bad e) r = lower e r
before (found v n) (faulty d) = faulty d
before (found v n) (all xs) = all (v ∷ xs)

unfoldable pub gathered : List Front → Numbers
gathered [] = all []
gathered (f ∷ fs) = before (judged f) (gathered fs)

unfoldable pub packed : List ℕ → Numbers
packed l = gathered (fronts l)

-- "The reader takes repeated numbers packed or single"; "29, .. a known field under a wrong wire type"
abbrev pub numbers : Payload → Numbers
numbers (varint v) = all (v ∷ [])
numbers fixed = faulty 29
numbers (bytes l) = packed l

-- the list with them after it; "30, a list over 64"
abbrev pub grown : List ℕ → Numbers → Numbers
grown old (faulty e) = faulty e
grown old (all xs) = cond (leb (length (old ++ xs)) 64) (all (old ++ xs)) (faulty 30)

-- ** A field's meaning

-- what the reader makes of bytes
pub data Read : Type 0 where
  refused : ℕ → Read
  taken : ConfState → Read

-- the message with another list or flag
abbrev pub with_voters : List ℕ → ConfState → ConfState
with_voters xs m =
    record { voters = xs; learners = m.learners; voters_outgoing = m.voters_outgoing; learners_next = m.learners_next; auto_leave = m.auto_leave }

abbrev pub with_learners : List ℕ → ConfState → ConfState
with_learners xs m =
    record { voters = m.voters; learners = xs; voters_outgoing = m.voters_outgoing; learners_next = m.learners_next; auto_leave = m.auto_leave }

abbrev pub with_outgoing : List ℕ → ConfState → ConfState
with_outgoing xs m = record { voters = m.voters; learners = m.learners; voters_outgoing = xs; learners_next = m.learners_next; auto_leave = m.auto_leave }

abbrev pub with_next : List ℕ → ConfState → ConfState
with_next xs m = record { voters = m.voters; learners = m.learners; voters_outgoing = m.voters_outgoing; learners_next = xs; auto_leave = m.auto_leave }

abbrev pub with_flag : Bool → ConfState → ConfState
with_flag b m =
    record { voters = m.voters; learners = m.learners; voters_outgoing = m.voters_outgoing; learners_next = m.learners_next; auto_leave = b }

abbrev pub listed : (List ℕ → ConfState) → Numbers → Read
listed put (faulty e) = refused e
listed put (all xs) = taken (put xs)

-- "lets the last flag decide"; any number but 0 is true
abbrev pub flagged : Payload → ConfState → Read
flagged (varint v) m = taken (with_flag (not (eqb v 0)) m)
flagged fixed m = refused 29
flagged (bytes l) m = refused 29

-- A field taken into what was read before it: voters 1, learners 2, voters_outgoing 3, learners_next 4, auto_leave 5; the reader "skips unknown
-- fields".
unfoldable pub entered : Field → ConfState → Read
entered f m =
    cond (eqb f.number 1) (listed (λ xs. with_voters xs m) (grown m.voters (numbers f.payload)))
    (cond (eqb f.number 2) (listed (λ xs. with_learners xs m) (grown m.learners (numbers f.payload)))
    (cond (eqb f.number 3) (listed (λ xs. with_outgoing xs m) (grown m.voters_outgoing (numbers f.payload)))
    (cond (eqb f.number 4) (listed (λ xs. with_next xs m) (grown m.learners_next (numbers f.payload)))
    (cond (eqb f.number 5) (flagged f.payload m) (taken m)))))

-- ** The reader

abbrev pub go_on : Read → (ConfState → Read) → Read
go_on (refused e) k = refused e
go_on (taken m) k = k m

-- "The first faulty field wins"
unfoldable pub read_row : Row → ConfState → Read
read_row end m = taken m
read_row (fault e) m = refused e
read_row (next f r) m = go_on (entered f m) (read_row r)

unfoldable pub read : List ℕ → Read
read l = read_row (row l) no_conf_state

-- the number answered
abbrev pub number_read : Read → ℕ
number_read (refused e) = e
number_read (taken m) = 0

-- 0, or one of the three refusals
pub data Answered (e : ℕ) : Type 0 where
  accepted : e ≡ 0 → Answered e
  cut_short : e ≡ 28 → Answered e
  malformed : e ≡ 29 → Answered e
  too_many : e ≡ 30 → Answered e

-- "A refused reader gives empty lists and a false flag"
abbrev pub message_read : Read → ConfState
message_read (refused e) = no_conf_state
message_read (taken m) = m

-- ** The writer

-- a message of at most 64 ids in each list
pub record Few64 (m : ConfState) : Type 0 where
  pub voters : length m.voters ≤ 64
  pub learners : length m.learners ≤ 64
  pub voters_outgoing : length m.voters_outgoing ≤ 64
  pub learners_next : length m.learners_next ≤ 64

-- each id is a 64-bit number
abbrev pub Below : List ℕ → Type 0
Below [] = Unit {0}
Below (x ∷ xs) = (x < 2 ^ 64) × Below xs

pub record Below64 (m : ConfState) : Type 0 where
  pub voters : Below m.voters
  pub learners : Below m.learners
  pub voters_outgoing : Below m.voters_outgoing
  pub learners_next : Below m.learners_next

-- the numbers one after the other
unfoldable pub packed_of : List ℕ → List ℕ
packed_of [] = []
packed_of (x ∷ xs) = varint_of x ++ packed_of xs

-- a list is written packed, an empty one not at all
unfoldable pub list_field : ℕ → List ℕ → List ℕ
list_field f [] = []
list_field f (x ∷ xs) = length_field f (packed_of (x ∷ xs))

-- a flag that is set is the varint 1, one that is not is not written
unfoldable pub flag_field : Bool → List ℕ
flag_field false = []
flag_field true = tag_of 5 0 ++ varint_of 1

-- "The writer has one encoding for each message"
unfoldable pub encoded : ConfState → List ℕ
encoded m =
    list_field 1 m.voters
    ++ (list_field 2 m.learners ++ (list_field 3 m.voters_outgoing ++ (list_field 4 m.learners_next ++ flag_field m.auto_leave)))

-- "the writer first refuses lists over 64 with 2"
unfoldable pub overlong : ConfState → Bool
overlong m = ltb 64 (length m.voters) || ltb 64 (length m.learners) || ltb 64 (length m.voters_outgoing) || ltb 64 (length m.learners_next)

-- the number answered, of a buffer of so many bytes: 2; then "31, output too small"
unfoldable pub number_written : ConfState → ℕ → ℕ
number_written m room = cond (overlong m) 2 (cond (ltb room (length (encoded m))) 31 0)

-- what the buffer holds then: the message and the bytes after it as they were; a refused one is "untouched"
unfoldable pub buffer_written : ConfState → List ℕ → List ℕ
buffer_written m old = cond (eqb (number_written m (length old)) 0) (encoded m ++ drop (length (encoded m)) old) old
