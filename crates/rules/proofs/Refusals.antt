-- Any bytes are accepted, or refused with 28, 29 or 30. Assumes nothing.
use Prim.Native.Nat.{ℕ, zero, suc, ◌+◌, ◌-◌, ◌/◌, ◌%◌, ◌≤◌}
use mathlib.Core.Path.{◌≡◌, refl, subst}
use mathlib.Core.Bool.{Bool, true, false, cond}
use mathlib.Core.List.{List, [], ◌∷◌, ◌++◌}
use native.Mathlib.Omega.{arith}
use borrow.Author.Tests.{eqb-true, eqb-false}
use lib.Dec.{eqb, leb, ltb}
use lib.ListN.{length, take, drop}
use Rattle.rules.specs.State.{ConfState}
use Rattle.rules.specs.Apply.{no_conf_state}
use Rattle.rules.specs.Wire.{Front, cut, num, front, Found, bad, found, fits, judged, varint_in, Payload, varint, fixed, bytes, single, fixed_in, length_in, payload_in, Field, numbered, held, tagged, field_in, Row, end, fault, next, onward, row_of, row}
use Rattle.rules.specs.Message.{Answered, accepted, cut_short, malformed, too_many, Numbers, faulty, all, fronts, lower, before, gathered, packed, numbers, grown, Read, refused, taken, with_voters, with_learners, with_outgoing, with_next, listed, flagged, entered, go_on, read_row, read, number_read}

-- ** The numbers of a refusal

abbrev pub Named : ℕ → Type 0
Named e = (28 ≤ e) × (e ≤ 30)

at_28 : Named 28
at_28 = (omega arith, omega arith)

at_29 : Named 29
at_29 = (omega arith, omega arith)

at_30 : Named 30
at_30 = (omega arith, omega arith)

-- what the wire alone refuses
abbrev pub Early : ℕ → Type 0
Early e = (28 ≤ e) × (e ≤ 29)

early_28 : Early 28
early_28 = (omega arith, omega arith)

early_29 : Early 29
early_29 = (omega arith, omega arith)

named : {e : ℕ} → Early e → Named e
named h = (h.0, omega (arith, h.1))

-- a refusal, if it is one, is named
abbrev InFound : {A : Type 0} → Found A → Type 0
InFound (bad e) = Early e
InFound (found x n) = Unit {0}

abbrev InNumbers : Numbers → Type 0
InNumbers (faulty e) = Named e
InNumbers (all xs) = Unit {0}

abbrev InRow : Row → Type 0
InRow end = Unit {0}
InRow (fault e) = Named e
InRow (next f r) = InRow r

abbrev InRead : Read → Type 0
InRead (refused e) = Named e
InRead (taken m) = Unit {0}

-- ** A varint, a field, a row

in_judged : (f : Front) → InFound (judged f)
in_judged cut = early_28
in_judged (num v n) = by (fits v n)
  where
    by : (t : Bool) → InFound (cond t (found v n) (bad 29))
    by true = tt
    by false = early_29

in_varint : (l : List ℕ) → InFound (varint_in l)
unfolding varint_in
in_varint l = in_judged (front l)

pub varint-named : (l : List ℕ) {e : ℕ} → varint_in l ≡ bad e → Named e
varint-named l h = named (subst InFound h (in_varint l))

in_single : (x : Found ℕ) → InFound x → InFound (single x)
in_single (bad e) h = h
in_single (found v n) h = tt

in_fixed : (n : ℕ) (l : List ℕ) → InFound (fixed_in n l)
in_fixed n l = by (leb n (length l))
  where
    by : (t : Bool) → InFound (cond t (found fixed n) (bad 28))
    by true = tt
    by false = early_28

in_length : (l : List ℕ) (x : Found ℕ) → InFound x → InFound (length_in l x)
in_length l (bad e) h = h
in_length l (found v n) h = by (leb v (length l - n))
  where
    by : (t : Bool) → InFound (cond t (found (bytes (take v (drop n l))) (n + v)) (bad 28))
    by true = tt
    by false = early_28

in_payload : (w : ℕ) (l : List ℕ) → InFound (payload_in w l)
unfolding payload_in
in_payload w l = by (eqb w 0) (eqb w 1) (eqb w 2) (eqb w 5)
  where
    by : (a b c d : Bool) → InFound
        (cond a (single (varint_in l)) (cond b (fixed_in 8 l) (cond c (length_in l (varint_in l)) (cond d (fixed_in 4 l) (bad 29)))))
    by true b c d = in_single (varint_in l) (in_varint l)
    by false true c d = in_fixed 8 l
    by false false true d = in_length l (varint_in l) (in_varint l)
    by false false false true = in_fixed 4 l
    by false false false false = early_29

pub payload-named : (w : ℕ) (l : List ℕ) {e : ℕ} → payload_in w l ≡ bad e → Early e
payload-named w l h = subst InFound h (in_payload w l)

in_held : (f n : ℕ) (x : Found Payload) → InFound x → InFound (held f n x)
in_held f n (bad e) h = h
in_held f n (found p k) h = by (numbered f)
  where
    by : (t : Bool) → InFound {A = Field} (cond t (found (record { number = f; payload = p }) (n + k)) (bad 29))
    by true = tt
    by false = early_29

in_tagged : (l : List ℕ) (x : Found ℕ) → InFound x → InFound (tagged l x)
in_tagged l (bad e) h = h
in_tagged l (found t n) h = in_held (t / 8) n (payload_in (t % 8) (drop n l)) (in_payload (t % 8) (drop n l))

in_field : (l : List ℕ) → InFound (field_in l)
unfolding field_in
in_field l = in_tagged l (varint_in l) (in_varint l)

pub field-named : (l : List ℕ) {e : ℕ} → field_in l ≡ bad e → Named e
field-named l h = named (subst InFound h (in_field l))

in_row : (k : ℕ) (l : List ℕ) → InRow (row_of k l)
unfolding row_of
in_row zero [] = tt
in_row zero (b ∷ bs) = at_28
in_row (suc k) [] = tt
in_row (suc k) (b ∷ bs) = by (in_row k) (field_in (b ∷ bs)) (in_field (b ∷ bs))
  where
    by : ((l : List ℕ) → InRow (row_of k l)) → (x : Found Field) → InFound x → InRow (onward x (λ n. row_of k (drop n (b ∷ bs))))
    by r (bad e) h = named h
    by r (found f n) h = r (drop n (b ∷ bs))

-- ** The numbers of a list, a field taken in

in_lower : {e : ℕ} → Named e → (x : Numbers) → InNumbers x → InNumbers (lower e x)
in_lower {e} h (faulty d) k = by (ltb e d)
  where
    by : (t : Bool) → Named (cond t e d)
    by true = h
    by false = k
in_lower h (all xs) k = h

in_before : (x : Found ℕ) (r : Numbers) → InFound x → InNumbers r → InNumbers (before x r)
in_before (bad e) r h k = in_lower (named h) r k
in_before (found v n) (faulty d) h k = k
in_before (found v n) (all xs) h k = tt

in_gathered : (fs : List Front) → InNumbers (gathered fs)
unfolding gathered
in_gathered [] = tt
in_gathered (f ∷ fs) = in_before (judged f) (gathered fs) (in_judged f) (in_gathered fs)

in_numbers : (p : Payload) → InNumbers (numbers p)
unfolding packed
in_numbers (varint v) = tt
in_numbers fixed = at_29
in_numbers (bytes l) = in_gathered (fronts l)

in_grown : (old : List ℕ) (x : Numbers) → InNumbers x → InNumbers (grown old x)
in_grown old (faulty e) h = h
in_grown old (all xs) h = by (leb (length (old ++ xs)) 64)
  where
    by : (t : Bool) → InNumbers (cond t (all (old ++ xs)) (faulty 30))
    by true = tt
    by false = at_30

in_more : (old : List ℕ) (p : Payload) → InNumbers (grown old (numbers p))
in_more old p = in_grown old (numbers p) (in_numbers p)

pub grown-named : (old : List ℕ) (p : Payload) {e : ℕ} → grown old (numbers p) ≡ faulty e → Named e
grown-named old p h = subst InNumbers h (in_more old p)

in_listed : (put : List ℕ → ConfState) (x : Numbers) → InNumbers x → InRead (listed put x)
in_listed put (faulty e) h = h
in_listed put (all xs) h = tt

in_flagged : (p : Payload) (m : ConfState) → InRead (flagged p m)
in_flagged (varint v) m = tt
in_flagged fixed m = at_29
in_flagged (bytes l) m = at_29

in_entered : (f : Field) (m : ConfState) → InRead (entered f m)
unfolding entered
in_entered f m = by (eqb f.number 1) (eqb f.number 2) (eqb f.number 3) (eqb f.number 4) (eqb f.number 5)
  where
    by : (a b c d e : Bool) → InRead
        (cond a (listed (λ xs. with_voters xs m) (grown m.voters (numbers f.payload)))
        (cond b (listed (λ xs. with_learners xs m) (grown m.learners (numbers f.payload)))
        (cond c (listed (λ xs. with_outgoing xs m) (grown m.voters_outgoing (numbers f.payload)))
        (cond d (listed (λ xs. with_next xs m) (grown m.learners_next (numbers f.payload)))
        (cond e (flagged f.payload m) (taken m))))))
    by true b c d e = in_listed (λ xs. with_voters xs m) (grown m.voters (numbers f.payload)) (in_more m.voters f.payload)
    by false true c d e = in_listed (λ xs. with_learners xs m) (grown m.learners (numbers f.payload)) (in_more m.learners f.payload)
    by false false true d e = in_listed (λ xs. with_outgoing xs m) (grown m.voters_outgoing (numbers f.payload)) (in_more m.voters_outgoing f.payload)
    by false false false true e = in_listed (λ xs. with_next xs m) (grown m.learners_next (numbers f.payload)) (in_more m.learners_next f.payload)
    by false false false false true = in_flagged f.payload m
    by false false false false false = tt

pub entered-named : (f : Field) (m : ConfState) {e : ℕ} → entered f m ≡ refused e → Named e
entered-named f m h = subst InRead h (in_entered f m)

-- ** The message

in_read_row : (r : Row) (m : ConfState) → InRow r → InRead (read_row r m)
unfolding read_row
in_read_row end m h = tt
in_read_row (fault e) m h = h
in_read_row (next f r) m h = by (λ n. in_read_row r n h) (entered f m) (in_entered f m)
  where
    by : ((n : ConfState) → InRead (read_row r n)) → (x : Read) → InRead x → InRead (go_on x (read_row r))
    by s (refused e) k = k
    by s (taken n) k = s n

in_read : (l : List ℕ) → InRead (read l)
unfolding read row
in_read l = in_read_row (row_of (length l) l) no_conf_state (in_row (length l) l)

pub read_named : (l : List ℕ) {e : ℕ} → read l ≡ refused e → Named e
read_named l h = subst InRead h (in_read l)

-- the number answered is 0, or 28, 29 or 30
answered : (e : ℕ) → Named e → Answered e
answered e h = by (eqb e 28) refl (eqb e 29) refl
  where
    by : (a : Bool) → eqb e 28 ≡ a → (b : Bool) → eqb e 29 ≡ b → Answered e
    by true p b q = cut_short (eqb-true e 28 p)
    by false p true q = malformed (eqb-true e 29 q)
    by false p false q = too_many (omega (arith, h.0, h.1, eqb-false e 28 p, eqb-false e 29 q))

pub accepted_or_named : (l : List ℕ) → Answered (number_read (read l))
accepted_or_named l = by (read l) (in_read l)
  where
    by : (r : Read) → InRead r → Answered (number_read r)
    by (refused e) h = answered e h
    by (taken m) h = accepted refl
