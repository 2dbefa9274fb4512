-- Reading what the writer wrote gives the message back; two messages have two encodings, of at most 2574 bytes. Assumes nothing.
use Prim.Native.Nat.{ℕ, ◌+◌, ◌-◌, ◌*◌, ◌/◌, ◌%◌, ◌^◌, ◌≤◌, ◌<◌}
use mathlib.Core.Path.{◌≡◌, refl, ap, sym, ◌∙◌}
use mathlib.Core.Bool.{Bool, true, false}
use mathlib.Core.List.{List, [], ◌∷◌, ◌++◌, append_assoc, append-nil}
use native.Mathlib.Omega.{arith}
use borrow.Author.Tests.{le-leb, lt-ltb, ltb-true, ltb-false, ne_eqb}
use lib.Dec.{ltb}
use lib.ListN.{length, length-append}
use lib.Seq.{drop-append_seam, take-append_seam}
use Rattle.rules.specs.State.{ConfState, State, formed}
use Rattle.rules.specs.Apply.{no_conf_state, to_conf_state}
use Rattle.rules.specs.Wire.{found, Payload, varint, bytes, payload_in, Field, field_in, row, groups, varint_of, tag_of, length_field}
use Rattle.rules.specs.Message.{Few64, Below, Below64, taken, with_voters, with_learners, with_outgoing, with_next, with_flag, entered, read_row, read, message_read, packed_of, list_field, flag_field, encoded}
use Rattle.rules.proofs.Wire.{groups-one, groups-more, varint-back}
use Rattle.rules.proofs.Packed.{numbers-back, packed-size}
use Rattle.rules.proofs.Formed.{whole_of}
use Rattle.rules.proofs.Lists64.{few_none}
use Rattle.rules.proofs.MessageFirst.{row-end, row_first}

-- ** A field that was written

-- a tag taken apart
tag-number : (f w : ℕ) → w < 8 → (8 * f + w) / 8 ≡ f
tag-number f w h = omega arith

tag_type : (f w : ℕ) → w < 8 → (8 * f + w) % 8 ≡ w
tag_type f w h = omega arith

-- what follows it
payload-length : (l rest : List ℕ) → length l < 2 ^ 64
    → payload_in 2 (varint_of (length l) ++ (l ++ rest)) ≡ found (bytes l) (length (varint_of (length l)) + length l)
unfolding payload_in
payload-length l rest h =
    rw (
      varint-back (length l) (l ++ rest) h,
      le-leb (length l) (length (varint_of (length l) ++ (l ++ rest)) - length (varint_of (length l))) (simp length-append (omega arith)),
      drop-append_seam (varint_of (length l)) (l ++ rest),
      take-append_seam l rest,
    )

payload-varint : (v : ℕ) (rest : List ℕ) → v < 2 ^ 64 → payload_in 0 (varint_of v ++ rest) ≡ found (varint v) (length (varint_of v))
unfolding payload_in
payload-varint v rest h = rw (varint-back v rest h)

module _ (f : ℕ) (some : 0 < f) (below : f < 2 ^ 29) where
  -- both
  tag_back : (w : ℕ) {p : Payload} {k : ℕ} (rest : List ℕ) → w < 8 → payload_in w rest ≡ found p k
      → field_in (tag_of f w ++ rest) ≡ found (record { number = f; payload = p }) (length (tag_of f w) + k)
  unfolding field_in
  tag_back w rest h e =
      rw (
        varint-back (8 * f + w) rest (omega arith),
        drop-append_seam (tag_of f w) rest,
        tag-number f w h,
        tag_type f w h,
        e,
        ne_eqb f 0 (omega arith),
        lt-ltb f (2 ^ 29) below,
      )

  pub bytes_back : (l rest : List ℕ) → length l < 2 ^ 64
      → field_in (length_field f l ++ rest) ≡ found (record { number = f; payload = bytes l }) (length (length_field f l))
  bytes_back l rest h =
      rw (
        append_assoc (tag_of f 2) (varint_of (length l) ++ l) rest,
        append_assoc (varint_of (length l)) l rest,
        length-append (tag_of f 2) (varint_of (length l) ++ l),
        length-append (varint_of (length l)) l,
      )
      (tag_back 2 (varint_of (length l) ++ (l ++ rest)) (omega arith) (payload-length l rest h))

  pub varint-field-back : (v : ℕ) (rest : List ℕ) → v < 2 ^ 64
      → field_in ((tag_of f 0 ++ varint_of v) ++ rest) ≡ found (record { number = f; payload = varint v }) (length (tag_of f 0 ++ varint_of v))
  varint-field-back v rest h =
      rw (append_assoc (tag_of f 0) (varint_of v) rest, length-append (tag_of f 0) (varint_of v))
      (tag_back 0 (varint_of v ++ rest) (omega arith) (payload-varint v rest h))

-- ** Fields one after the other

read_next : (a rest : List ℕ) (m : ConfState) {f : Field} {n : ConfState} → field_in (a ++ rest) ≡ found f (length a) → entered f m ≡ taken n
    → read_row (row (a ++ rest)) m ≡ read_row (row rest) n
unfolding read_row
read_next a rest m e g = rw (row_first (a ++ rest) e, g, drop-append_seam a rest)

-- ** A list, where there was none

module _ (m : ConfState) (xs : List ℕ) (few : length xs ≤ 64) (b : Below xs) where
  voters_in : m.voters ≡ [] → entered (record { number = 1; payload = bytes (packed_of xs) }) m ≡ taken (with_voters xs m)
  unfolding entered
  voters_in e = rw (e, numbers-back xs b, le-leb (length xs) 64 few)

  learners_in : m.learners ≡ [] → entered (record { number = 2; payload = bytes (packed_of xs) }) m ≡ taken (with_learners xs m)
  unfolding entered
  learners_in e = rw (e, numbers-back xs b, le-leb (length xs) 64 few)

  outgoing_in : m.voters_outgoing ≡ [] → entered (record { number = 3; payload = bytes (packed_of xs) }) m ≡ taken (with_outgoing xs m)
  unfolding entered
  outgoing_in e = rw (e, numbers-back xs b, le-leb (length xs) 64 few)

  next_in_lem : m.learners_next ≡ [] → entered (record { number = 4; payload = bytes (packed_of xs) }) m ≡ taken (with_next xs m)
  unfolding entered
  next_in_lem e = rw (e, numbers-back xs b, le-leb (length xs) 64 few)

read_list : (m : ConfState) (f : ℕ) → 0 < f → f < 2 ^ 29 → (xs rest : List ℕ) {n : ConfState} → length xs ≤ 64
    → entered (record { number = f; payload = bytes (packed_of xs) }) m ≡ taken n → (xs ≡ [] → n ≡ m)
    → read_row (row (list_field f xs ++ rest)) m ≡ read_row (row rest) n
unfolding list_field
read_list m f p q [] rest few e keep = ap (read_row (row rest)) (sym (keep refl))
read_list m f p q (x ∷ xs) rest few e keep =
    read_next (length_field f (packed_of (x ∷ xs))) rest m (bytes_back f p q (packed_of (x ∷ xs)) rest (omega (arith, packed-size (x ∷ xs)))) e

-- the flag, where it was not set
flag_in : (m : ConfState) → entered (record { number = 5; payload = varint 1 }) m ≡ taken (with_flag true m)
unfolding entered
flag_in m = refl

read_none : (m : ConfState) → read_row (row []) m ≡ taken m
unfolding read_row
read_none m = rw row-end

read-flag : (b : Bool) (m : ConfState) → m.auto_leave ≡ false → read_row (row (flag_field b)) m ≡ taken (with_flag b m)
unfolding flag_field
read-flag false m e = read_none m ∙ rw (← e)
read-flag true m e =
    rw (← append-nil (tag_of 5 0 ++ varint_of 1))
    (read_next (tag_of 5 0 ++ varint_of 1) [] m (varint-field-back 5 (omega arith) (omega arith) 1 [] (omega arith)) (flag_in m) ∙ read_none (with_flag true m))

-- ** The message

-- the message after its first lists
abbrev part_1 : ConfState → ConfState
part_1 m = with_voters m.voters no_conf_state

abbrev part_2 : ConfState → ConfState
part_2 m = with_learners m.learners (part_1 m)

abbrev part_3 : ConfState → ConfState
part_3 m = with_outgoing m.voters_outgoing (part_2 m)

abbrev part_4 : ConfState → ConfState
part_4 m = with_next m.learners_next (part_3 m)

pub read-encoded : (m : ConfState) → Few64 m → Below64 m → read (encoded m) ≡ taken m
unfolding read encoded
read-encoded m s b =
    read_list no_conf_state 1 (omega arith) (omega arith) m.voters _ s.voters
    (voters_in no_conf_state m.voters s.voters b.voters refl) (λ e. rw e)
    ∙ (read_list (part_1 m) 2 (omega arith) (omega arith) m.learners _ s.learners
    (learners_in (part_1 m) m.learners s.learners b.learners refl) (λ e. rw e)
    ∙ (read_list (part_2 m) 3 (omega arith) (omega arith) m.voters_outgoing _ s.voters_outgoing
    (outgoing_in (part_2 m) m.voters_outgoing s.voters_outgoing b.voters_outgoing refl) (λ e. rw e)
    ∙ (read_list (part_3 m) 4 (omega arith) (omega arith) m.learners_next _ s.learners_next
    (next_in_lem (part_3 m) m.learners_next s.learners_next b.learners_next refl) (λ e. rw e)
    ∙ read-flag m.auto_leave (part_4 m) refl)))

-- two messages have two encodings
pub encoded-one : (m n : ConfState) → Few64 m → Below64 m → Few64 n → Below64 n → encoded m ≡ encoded n → m ≡ n
encoded-one m n s b t d e = ap message_read (sym (read-encoded m s b) ∙ (ap read e ∙ read-encoded n t d))

-- ** How long it is

-- a tag takes one byte, the length of a list one or two
length-one : (n : ℕ) → n < 128 → length (varint_of n) ≡ 1
unfolding varint_of
length-one n h = rw (groups-one 9 n h)

length_two : (n : ℕ) → n < 16384 → length (varint_of n) ≤ 2
unfolding varint_of
length_two n h = by (ltb n 128) refl
  where
    by : (t : Bool) → ltb n 128 ≡ t → length (groups 10 n) ≤ 2
    by true t = rw (groups-one 9 n (ltb-true n 128 t)) (omega arith)
    by false t = rw (groups-more 9 n (ltb-false n 128 t), groups-one 8 (n / 128) (omega arith)) (omega arith)

list_length : (f : ℕ) (xs : List ℕ) → f < 16 → length xs ≤ 64 → length (list_field f xs) ≤ 643
unfolding list_field
list_length f [] h few = omega arith
list_length f (x ∷ xs) h few =
    omega (
      arith,
      length-append (tag_of f 2) (varint_of (length (packed_of (x ∷ xs))) ++ packed_of (x ∷ xs)),
      length-append (varint_of (length (packed_of (x ∷ xs)))) (packed_of (x ∷ xs)),
      length-one (8 * f + 2) (omega arith),
      length_two (length (packed_of (x ∷ xs))) (omega (arith, packed-size (x ∷ xs))),
      packed-size (x ∷ xs),
    )

flag-length : (b : Bool) → length (flag_field b) ≤ 2
unfolding flag_field
flag-length false = omega arith
flag-length true = omega (arith, length-append (tag_of 5 0) (varint_of 1), length-one (8 * 5 + 0) (omega arith), length-one 1 (omega arith))

pub encoded-length : (m : ConfState) → Few64 m → length (encoded m) ≤ 2574
unfolding encoded
encoded-length m s =
    simp length-append
    (omega (
      arith,
      list_length 1 m.voters (omega arith) s.voters,
      list_length 2 m.learners (omega arith) s.learners,
      list_length 3 m.voters_outgoing (omega arith) s.voters_outgoing,
      list_length 4 m.learners_next (omega arith) s.learners_next,
      flag-length m.auto_leave,
    ))

-- ** A configuration that travels

few-written : (s : State) (b : Bool) → formed s ≡ b → Few64 (to_conf_state s).conf_state
unfolding to_conf_state
few-written s true h =
    let w = (whole_of s h).sets in
    rw h (record { voters = w.incoming.few; learners = w.learners.few; voters_outgoing = w.outgoing.few; learners_next = w.staged.few })
few-written s false h = rw h few_none

pub travels : (s : State) → Below64 (to_conf_state s).conf_state → read (encoded (to_conf_state s).conf_state) ≡ taken (to_conf_state s).conf_state
travels s b = read-encoded (to_conf_state s).conf_state (few-written s (formed s) refl) b
