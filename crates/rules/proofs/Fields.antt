-- A property of lists through the fields of a message: if the empty list has it and each field keeps it, each list that the reader accepts has it.
-- Assumes nothing.
use Prim.Native.Nat.{ℕ, zero, suc, ◌≤◌}
use mathlib.Core.Path.{◌≡◌, refl, subst}
use mathlib.Core.Bool.{Bool, true, false, cond}
use mathlib.Core.List.{List, [], ◌∷◌, ◌++◌}
use borrow.Author.Tests.{leb-true}
use lib.Dec.{eqb, leb}
use lib.ListN.{length, drop}
use Rattle.rules.specs.State.{ConfState}
use Rattle.rules.specs.Apply.{no_conf_state}
use Rattle.rules.specs.Wire.{Found, bad, found, Payload, varint, fixed, bytes, Field, field_in, Row, onward, row_of, row}
use Rattle.rules.specs.Message.{Numbers, faulty, all, numbers, grown, Read, refused, taken, with_voters, with_learners, with_outgoing, with_next, listed, flagged, entered, go_on, read_row, read, message_read}

-- the numbers, where they are not refused, have the property
abbrev pub InNumbers : (List ℕ → Type 0) → Numbers → Type 0
InNumbers P (faulty e) = Unit {0}
InNumbers P (all xs) = P xs

-- a list that has it still has it with these numbers after it
abbrev pub Keeps : (List ℕ → Type 0) → Numbers → Type 0
Keeps P x = (old : List ℕ) → P old → (xs : List ℕ) → x ≡ all xs → length (old ++ xs) ≤ 64 → P (old ++ xs)

-- each list of a message has it
abbrev pub Each : (List ℕ → Type 0) → ConfState → Type 0
Each P m = P m.voters × (P m.learners × (P m.voters_outgoing × P m.learners_next))

abbrev pub EachRead : (List ℕ → Type 0) → Read → Type 0
EachRead P (refused e) = Unit {0}
EachRead P (taken m) = Each P m

-- ** A field taken in

module _ (P : List ℕ → Type 0) where
  grown-each : (old : List ℕ) (x : Numbers) → ((xs : List ℕ) → x ≡ all xs → length (old ++ xs) ≤ 64 → P (old ++ xs)) → InNumbers P (grown old x)
  grown-each old (faulty e) q = tt
  grown-each old (all xs) q = by (leb (length (old ++ xs)) 64) refl
    where
      by : (t : Bool) → leb (length (old ++ xs)) 64 ≡ t → InNumbers P (cond t (all (old ++ xs)) (faulty 30))
      by true t = q xs refl (leb-true (length (old ++ xs)) 64 t)
      by false t = tt

  listed-each : (put : List ℕ → ConfState) (x : Numbers) → InNumbers P x → ((xs : List ℕ) → P xs → Each P (put xs)) → EachRead P (listed put x)
  listed-each put (faulty e) h k = tt
  listed-each put (all xs) h k = k xs h

  flagged-each : (p : Payload) (m : ConfState) → Each P m → EachRead P (flagged p m)
  flagged-each (varint v) m h = h
  flagged-each fixed m h = tt
  flagged-each (bytes l) m h = tt

  pub entered-each : (f : Field) (m : ConfState) → Keeps P (numbers f.payload) → Each P m → EachRead P (entered f m)
  unfolding entered
  entered-each f m q h = by (eqb f.number 1) (eqb f.number 2) (eqb f.number 3) (eqb f.number 4) (eqb f.number 5)
    where
      list : (put : List ℕ → ConfState) (old : List ℕ) → P old → ((xs : List ℕ) → P xs → Each P (put xs)) → EachRead P (listed put (grown old (numbers f.payload)))
      list put old o = listed-each put (grown old (numbers f.payload)) (grown-each old (numbers f.payload) (q old o))

      by : (a b c d e : Bool) → EachRead P
          (cond a (listed (λ xs. with_voters xs m) (grown m.voters (numbers f.payload)))
          (cond b (listed (λ xs. with_learners xs m) (grown m.learners (numbers f.payload)))
          (cond c (listed (λ xs. with_outgoing xs m) (grown m.voters_outgoing (numbers f.payload)))
          (cond d (listed (λ xs. with_next xs m) (grown m.learners_next (numbers f.payload)))
          (cond e (flagged f.payload m) (taken m))))))
      by true b c d e = list (λ xs. with_voters xs m) m.voters h.0 (λ xs k. (k, h.1))
      by false true c d e = list (λ xs. with_learners xs m) m.learners h.1.0 (λ xs k. (h.0, (k, h.1.1)))
      by false false true d e = list (λ xs. with_outgoing xs m) m.voters_outgoing h.1.1.0 (λ xs k. (h.0, (h.1.0, (k, h.1.1.1))))
      by false false false true e = list (λ xs. with_next xs m) m.learners_next h.1.1.1 (λ xs k. (h.0, (h.1.0, (h.1.1.0, k))))
      by false false false false true = flagged-each f.payload m h
      by false false false false false = h

-- ** The message

module _ (P : List ℕ → Type 0) (none : P []) (keeps : (l : List ℕ) (f : Field) (n : ℕ) → field_in l ≡ found f n → Keeps P (numbers f.payload)) where
  on_each : (x : Read) (k : ConfState → Read) → EachRead P x → ((m : ConfState) → Each P m → EachRead P (k m)) → EachRead P (go_on x k)
  on_each (refused e) k h s = tt
  on_each (taken m) k h s = s m h

  abbrev EachRow : Row → Type 0
  EachRow r = (m : ConfState) → Each P m → EachRead P (read_row r m)

  onward-each : (l : List ℕ) (x : Found Field) (rest : ℕ → Row) → field_in l ≡ x → ((n : ℕ) → EachRow (rest n)) → EachRow (onward x rest)
  unfolding read_row
  onward-each l (bad e) rest q s m h = tt
  onward-each l (found f n) rest q s m h = on_each (entered f m) (read_row (rest n)) (entered-each P f m (keeps l f n q) h) (s n)

  rows-each : (k : ℕ) (l : List ℕ) → EachRow (row_of k l)
  unfolding row_of read_row
  rows-each zero [] m h = h
  rows-each zero (b ∷ bs) m h = tt
  rows-each (suc k) [] m h = h
  rows-each (suc k) (b ∷ bs) m h =
      onward-each (b ∷ bs) (field_in (b ∷ bs)) (λ n. row_of k (drop n (b ∷ bs))) refl (λ n. rows-each k (drop n (b ∷ bs))) m h

  bytes-each : (l : List ℕ) → EachRead P (read l)
  unfolding read row
  bytes-each l = rows-each (length l) l no_conf_state (none, (none, (none, none)))

  pub read-each : (l : List ℕ) {m : ConfState} → read l ≡ taken m → Each P m
  read-each l e = subst (EachRead P) e (bytes-each l)

  -- what was read, a refused message being empty
  pub message-each : (l : List ℕ) → Each P (message_read (read l))
  message-each l = by (read l) (bytes-each l)
    where
      by : (r : Read) → EachRead P r → Each P (message_read r)
      by (refused e) h = (none, (none, (none, none)))
      by (taken m) h = h
