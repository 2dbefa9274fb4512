-- The lines read: `told` gives every id whose standing differs, with that in the second message, and whether the flag differs. Assumes nothing.
use Prim.Native.Nat.{ℕ, zero, suc, ◌+◌, ◌^◌, ◌≤◌, ◌<◌}
use mathlib.Core.Path.{◌≡◌, refl, ap, ◌∙◌}
use mathlib.Core.Bool.{Bool, true, false, beq, cond, not}
use mathlib.Core.List.{List, [], ◌∷◌, ◌++◌, append_assoc}
use native.Mathlib.Omega.{arith}
use borrow.Author.Tests.{ne_eqb}
use lib.Dec.{eqb, ltb}
use lib.ListN.{length, length-append}
use Rattle.rules.specs.Ids.{insert_id, insert_all}
use Rattle.rules.specs.State.{ConfState}
use Rattle.rules.specs.Message.{Below, Below64}
use Rattle.rules.proofs.Below.{below_append}
use Rattle.text.specs.Text.{decimal, each}
use Rattle.comparison.specs.Compare.{standing, same, standing_text, line, line_if, line_of, ids_of, ids_of_both, flag_line, lines}
use Rattle.comparison.specs.Told.{up_to, after, value, called, Note, Told, read_lines, told}
use Rattle.comparison.specs.declared.line.Standing.{Standing}
use Rattle.comparison.proofs.Meaning.{line-some}
use Rattle.comparison.proofs.Bytes.{free, up_to_lem, past, Digits, decimal-digits, decimal-some, decimal-word, decimal-back, spelled}

-- ** A line

-- the bytes of a line, and those after it
abbrev from_second : Standing → List ℕ → List ℕ
from_second t r = standing_text t ++ (10 ∷ r)

abbrev from_arrow : Standing → List ℕ → List ℕ
from_arrow t r = 45 ∷ 62 ∷ 32 ∷ from_second t r

abbrev from_first : Standing → Standing → List ℕ → List ℕ
from_first s t r = standing_text s ++ (32 ∷ from_arrow t r)

spread : (x : ℕ) (s t : Standing) (r : List ℕ) → line x s t ++ r ≡ decimal x ++ (32 ∷ from_first s t r)
unfolding line
spread x s t r =
    append_assoc (decimal x) (32 ∷ (standing_text s ++ (32 ∷ 45 ∷ 62 ∷ 32 ∷ (standing_text t ++ (10 ∷ []))))) r
    ∙ ap (λ (l : List ℕ). decimal x ++ (32 ∷ l))
    (append_assoc (standing_text s) (32 ∷ 45 ∷ 62 ∷ 32 ∷ (standing_text t ++ (10 ∷ []))) r
    ∙ ap (λ (l : List ℕ). standing_text s ++ (32 ∷ 45 ∷ 62 ∷ 32 ∷ l)) (append_assoc (standing_text t) (10 ∷ []) r))

arrow : free 32 (45 ∷ 62 ∷ []) ≡ true
unfolding free
arrow = refl

module _ (k : ℕ) where
  -- what is read of a line that begins with a digit
  abbrev read_digit : List ℕ → Told
  read_digit l =
      let fourth : List ℕ = after 32 (after 32 (after 32 l)) in
      record {
        notes = record { id = value 0 (up_to 32 l); now = called (up_to 10 fourth) } ∷ (read_lines k (after 10 fourth)).notes;
        flips = (read_lines k (after 10 fourth)).flips;
      }

  read_digit_lem : (w r : List ℕ) → 0 < length w → Digits w → read_lines (suc k) (w ++ r) ≡ read_digit (w ++ r)
  unfolding read_lines
  read_digit_lem [] r h d = absurd (omega arith)
  read_digit_lem (b ∷ bs) r h d = rw (ne_eqb b 97 (λ e. omega (arith, d.0.1)))

  read-line : (x : ℕ) (s t : Standing) (r : List ℕ) → x < 2 ^ 64
      → read_lines (suc k) (line x s t ++ r) ≡ record { notes = record { id = x; now = t } ∷ (read_lines k r).notes; flips = (read_lines k r).flips }
  read-line x s t r h =
      rw (spread x s t r)
      (read_digit_lem (decimal x) (32 ∷ from_first s t r) (decimal-some x) (decimal-digits x)
      ∙ rw (
        up_to_lem 32 (decimal x) (from_first s t r) (decimal-word x),
        past 32 (decimal x) (from_first s t r) (decimal-word x),
        past 32 (standing_text s) (from_arrow t r) (spelled s).word,
        past 32 (45 ∷ 62 ∷ []) (from_second t r) arrow,
        up_to_lem 10 (standing_text t) r (spelled t).row,
        past 10 (standing_text t) r (spelled t).row,
        (spelled t).back,
        decimal-back x h,
      ))

-- ** All lines

read-flag : (k : ℕ) (p q : Bool) → length (flag_line p q) ≤ k → read_lines k (flag_line p q) ≡ record { notes = []; flips = not (beq p q) }
unfolding read_lines flag_line
read-flag zero true true h = refl
read-flag (suc k) true true h = refl
read-flag zero false false h = refl
read-flag (suc k) false false h = refl
read-flag zero false true h = absurd (omega arith)
read-flag (suc k) false true h = refl
read-flag zero true false h = absurd (omega arith)
read-flag (suc k) true false h = refl

-- of the ids xs, those whose standing differs, with that in the second message
unfoldable pub notes_of : ConfState → ConfState → List ℕ → List Note
notes_of a b [] = []
notes_of a b (x ∷ xs) = cond (same (standing a x) (standing b x)) (notes_of a b xs) (record { id = x; now = standing b x } ∷ notes_of a b xs)

module _ (a b : ConfState) (p q : Bool) where
  abbrev left : List ℕ → List ℕ
  left xs = each (line_of a b) xs ++ flag_line p q

  abbrev heard : List ℕ → Told
  heard xs = record { notes = notes_of a b xs; flips = not (beq p q) }

  read-each : (xs : List ℕ) (k : ℕ) → Below xs → length (left xs) ≤ k → read_lines k (left xs) ≡ heard xs
  unfolding each line_if notes_of
  read-each [] k i h = read-flag k p q h
  read-each (x ∷ xs) k i h = by (same (standing a x) (standing b x)) k h (λ j. read-each xs j i.1)
    where
      by : (t : Bool) (k : ℕ) → length ((cond t [] (line x (standing a x) (standing b x)) ++ each (line_of a b) xs) ++ flag_line p q) ≤ k
          → ((j : ℕ) → length (left xs) ≤ j → read_lines j (left xs) ≡ heard xs)
          → read_lines k ((cond t [] (line x (standing a x) (standing b x)) ++ each (line_of a b) xs) ++ flag_line p q)
          ≡ record { notes = cond t (notes_of a b xs) (record { id = x; now = standing b x } ∷ notes_of a b xs); flips = not (beq p q) }
      by true k h r = r k h
      by false k h r = more k (omega (arith, ap length e, length-append l (left xs), h))
        where
          l : List ℕ
          l = line x (standing a x) (standing b x)

          e : (l ++ each (line_of a b) xs) ++ flag_line p q ≡ l ++ left xs
          e = append_assoc l (each (line_of a b) xs) (flag_line p q)

          more : (k : ℕ) → length l + length (left xs) ≤ k
              → read_lines k ((l ++ each (line_of a b) xs) ++ flag_line p q)
              ≡ record { notes = record { id = x; now = standing b x } ∷ notes_of a b xs; flips = not (beq p q) }
          more zero n = absurd (omega (arith, line-some x (standing a x) (standing b x)))
          more (suc j) n =
              ap (read_lines (suc j)) e
              ∙ (read-line j x (standing a x) (standing b x) (left xs) i.0 ∙ rw (r j (omega (arith, line-some x (standing a x) (standing b x)))))

-- ** Ids of 64 bits

below_insert : (x : ℕ) (ys : List ℕ) → x < 2 ^ 64 → Below ys → Below (insert_id x ys)
unfolding insert_id
below_insert x [] h k = (h, tt)
below_insert x (y ∷ ys) h k = by (below_insert x ys h k.1) (ltb y x) (eqb y x)
  where
    by : Below (insert_id x ys) → (t u : Bool) → Below (cond t (y ∷ insert_id x ys) (cond u (y ∷ ys) (x ∷ y ∷ ys)))
    by r true u = (k.0, r)
    by r false true = k
    by r false false = (h, k)

below_set : (xs : List ℕ) → Below xs → Below (insert_all xs [])
unfolding insert_all
below_set [] h = tt
below_set (x ∷ xs) h = below_insert x (insert_all xs []) h.0 (below_set xs h.1)

below-ids : (m : ConfState) → Below64 m → Below (ids_of m)
below-ids m h =
    below_append m.voters (m.voters_outgoing ++ (m.learners ++ m.learners_next)) h.voters
    (below_append m.voters_outgoing (m.learners ++ m.learners_next) h.voters_outgoing
    (below_append m.learners m.learners_next h.learners h.learners_next))

-- ** What the lines say

pub told-lines : (a b : ConfState) → Below64 a → Below64 b
    → told (lines a b) ≡ record { notes = notes_of a b (ids_of_both a b); flips = not (beq a.auto_leave b.auto_leave) }
unfolding told lines ids_of_both
told-lines a b h k =
    read-each a b a.auto_leave b.auto_leave (ids_of_both a b) (length (lines a b))
    (below_set (ids_of a ++ ids_of b) (below_append (ids_of a) (ids_of b) (below-ids a h) (below-ids b k)))
    (omega arith)
