-- A message is its parts one after the other, and a fault in its first part stays whatever follows, unless the bytes were cut there. Assumes nothing.
use Prim.Native.Nat.{ℕ, zero, suc, ◌+◌, ◌-◌, ◌/◌, ◌%◌, ◌≤◌, ◌<◌}
use mathlib.Core.Path.{◌≡◌, refl, ap, sym, subst, ◌∙◌}
use mathlib.Core.Bool.{Bool, true, false, cond}
use mathlib.Core.List.{List, [], ◌∷◌, ◌++◌}
use native.Mathlib.Omega.{arith}
use borrow.Author.Tests.{le-leb, leb-true}
use lib.Dec.{eqb, leb, ltb}
use lib.ListN.{length, take, drop, length-drop, length-append}
use lib.Seq.{take-append-le, drop-append-le}
use Rattle.rules.specs.State.{ConfState}
use Rattle.rules.specs.Apply.{no_conf_state}
use Rattle.rules.specs.Wire.{Front, cut, num, more, front, Found, bad, found, judged, varint_in, Payload, fixed, bytes, single, fixed_in, length_in, payload_in, Field, held, tagged, field_in, end, fault, next, row_of, row}
use Rattle.rules.specs.Message.{Read, refused, taken, entered, go_on, read_row, read}
use Rattle.rules.proofs.Wire.{varint_spans, field-within, row_none, row-fault, row_next}

-- ** A number that ended

-- g is what is found where f was and more bytes follow
abbrev Ended : Front → Front → Type 0
Ended cut g = Unit {0}
Ended (num v n) g = g ≡ num v n

ended_more : (low : ℕ) (f g : Front) → Ended f g → Ended (more low f) (more low g)
ended_more low cut g h = tt
ended_more low (num v n) g h = rw h

ended_front : (l b : List ℕ) → Ended (front l) (front (l ++ b))
unfolding front
ended_front [] b = tt
ended_front (c ∷ cs) b = by (ended_front cs b) (ltb c 128)
  where
    by : Ended (front cs) (front (cs ++ b)) → (t : Bool)
        → Ended (cond t (num c 1) (more (c - 128) (front cs))) (cond t (num c 1) (more (c - 128) (front (cs ++ b))))
    by r true = refl
    by r false = ended_more (c - 128) (front cs) (front (cs ++ b)) r

pub front_append : (l b : List ℕ) {v n : ℕ} → front l ≡ num v n → front (l ++ b) ≡ num v n
front_append l b e = subst (λ (f : Front). Ended f (front (l ++ b))) e (ended_front l b)

-- ** What was found, or refused with another number than 28, stays

abbrev Kept : {A : Type 0} → Found A → Found A → Type 0
Kept (bad e) y = (e ≡ 28 → ⊥) → y ≡ bad e
Kept (found x n) y = y ≡ found x n

kept_same : {A : Type 0} (x y : Found A) → y ≡ x → Kept x y
kept_same (bad e) y h = λ k. h
kept_same (found x n) y h = h

kept-judged : (f g : Front) → Ended f g → Kept (judged f) (judged g)
kept-judged cut g h = λ k. absurd (k refl)
kept-judged (num v n) g h = kept_same (judged (num v n)) (judged g) (ap judged h)

kept-varint : (l b : List ℕ) → Kept (varint_in l) (varint_in (l ++ b))
unfolding varint_in
kept-varint l b = kept-judged (front l) (front (l ++ b)) (ended_front l b)

kept-single : (x y : Found ℕ) → Kept x y → Kept (single x) (single y)
kept-single (bad e) y h = λ k. rw (h k)
kept-single (found v n) y h = rw h

kept_fixed : (n : ℕ) (l b : List ℕ) → Kept (fixed_in n l) (fixed_in n (l ++ b))
kept_fixed n l b = by (leb n (length l)) refl
  where
    by : (t : Bool) → leb n (length l) ≡ t → Kept (cond t (found fixed n) (bad 28)) (fixed_in n (l ++ b))
    by true t = rw (le-leb n (length (l ++ b)) (omega (arith, leb-true n (length l) t, length-append l b)))
    by false t = λ k. absurd (k refl)

kept-length : (l b : List ℕ) (x y : Found ℕ) → varint_in l ≡ x → Kept x y → Kept (length_in l x) (length_in (l ++ b) y)
kept-length l b (bad e) y w h = λ k. rw (h k)
kept-length l b (found v n) y w h = by (leb v (length l - n)) refl
  where
    by : (t : Bool) → leb v (length l - n) ≡ t → Kept (cond t (found (bytes (take v (drop n l))) (n + v)) (bad 28)) (length_in (l ++ b) y)
    by true t =
        let i : n ≤ length l = (varint_spans l w).1 in
        let j : v ≤ length l - n = leb-true v (length l - n) t in
        rw (
          h,
          le-leb v (length (l ++ b) - n) (omega (arith, length-append l b)),
          drop-append-le n l b i,
          take-append-le v (drop n l) b (omega (arith, length-drop n l)),
        )
    by false t = λ k. absurd (k refl)

kept_payload : (w : ℕ) (l b : List ℕ) → Kept (payload_in w l) (payload_in w (l ++ b))
unfolding payload_in
kept_payload w l b = by (eqb w 0) (eqb w 1) (eqb w 2) (eqb w 5)
  where
    by : (p q r s : Bool) → Kept
        (cond p (single (varint_in l)) (cond q (fixed_in 8 l) (cond r (length_in l (varint_in l)) (cond s (fixed_in 4 l) (bad 29)))))
        (cond p (single (varint_in (l ++ b))) (cond q (fixed_in 8 (l ++ b)) (cond r (length_in (l ++ b) (varint_in (l ++ b))) (cond s (fixed_in 4 (l ++ b)) (bad 29)))))
    by true q r s = kept-single (varint_in l) (varint_in (l ++ b)) (kept-varint l b)
    by false true r s = kept_fixed 8 l b
    by false false true s = kept-length l b (varint_in l) (varint_in (l ++ b)) refl (kept-varint l b)
    by false false false true = kept_fixed 4 l b
    by false false false false = λ k. refl

kept-held : (f n : ℕ) (x y : Found Payload) → Kept x y → Kept (held f n x) (held f n y)
kept-held f n (bad e) y h = λ k. rw (h k)
kept-held f n (found p k) y h = kept_same (held f n (found p k)) (held f n y) (ap (held f n) h)

kept-tagged : (l b : List ℕ) (x y : Found ℕ) → varint_in l ≡ x → Kept x y → Kept (tagged l x) (tagged (l ++ b) y)
kept-tagged l b (bad e) y w h = λ k. rw (h k)
kept-tagged l b (found t n) y w h =
    let i : n ≤ length l = (varint_spans l w).1 in
    rw (h, drop-append-le n l b i)
    (kept-held (t / 8) n (payload_in (t % 8) (drop n l)) (payload_in (t % 8) (drop n l ++ b)) (kept_payload (t % 8) (drop n l) b))

kept_field : (l b : List ℕ) → Kept (field_in l) (field_in (l ++ b))
unfolding field_in
kept_field l b = kept-tagged l b (varint_in l) (varint_in (l ++ b)) refl (kept-varint l b)

pub field_append : (l b : List ℕ) {f : Field} {n : ℕ} → field_in l ≡ found f n → field_in (l ++ b) ≡ found f n
field_append l b e = subst (λ (x : Found Field). Kept x (field_in (l ++ b))) e (kept_field l b)

pub field-fault : (l b : List ℕ) {e : ℕ} → field_in l ≡ bad e → (e ≡ 28 → ⊥) → field_in (l ++ b) ≡ bad e
field-fault l b e = subst (λ (x : Found Field). Kept x (field_in (l ++ b))) e (kept_field l b)

-- ** A row by its first field, of as many fields as there are

-- as many fields as there are bytes are enough
pub row_enough : (k j : ℕ) (l : List ℕ) → length l ≤ k → length l ≤ j → row_of k l ≡ row_of j l
row_enough zero j [] h i = row_none zero ∙ sym (row_none j)
row_enough zero j (b ∷ bs) h i = absurd (omega arith)
row_enough (suc k) j [] h i = row_none (suc k) ∙ sym (row_none j)
row_enough (suc k) zero (b ∷ bs) h i = absurd (omega arith)
row_enough (suc k) (suc j) (b ∷ bs) h i = by (row_enough k j) (field_in (b ∷ bs)) refl
  where
    by : ((l : List ℕ) → length l ≤ k → length l ≤ j → row_of k l ≡ row_of j l) → (x : Found Field) → field_in (b ∷ bs) ≡ x
        → row_of (suc k) (b ∷ bs) ≡ row_of (suc j) (b ∷ bs)
    by r (bad e) w = row-fault k (b ∷ bs) (omega arith) w ∙ sym (row-fault j (b ∷ bs) (omega arith) w)
    by r (found f n) w =
        let p : 0 < n = (field-within (b ∷ bs) w).0 in
        let q : length (drop n (b ∷ bs)) ≡ length (b ∷ bs) - n = length-drop n (b ∷ bs) in
        row_next k (b ∷ bs) (omega arith) w
        ∙ (ap (next f) (r (drop n (b ∷ bs)) (omega arith) (omega arith)) ∙ sym (row_next j (b ∷ bs) (omega arith) w))

pub row-end : row [] ≡ end
unfolding row
row-end = row_none zero

pub row_first : (l : List ℕ) {f : Field} {n : ℕ} → field_in l ≡ found f n → row l ≡ next f (row (drop n l))
unfolding row
row_first l {f} {n} w =
    let p : 0 < n = (field-within l w).0 in
    let q : n ≤ length l = (field-within l w).1 in
    let i : length (drop n l) ≡ length l - n = length-drop n l in
    row_enough (length l) (suc (length l)) l (omega arith) (omega arith)
    ∙ (row_next (length l) l (omega arith) w ∙ ap (next f) (row_enough (length l) (length (drop n l)) (drop n l) (omega arith) (omega arith)))

pub row-bad : (l : List ℕ) {e : ℕ} → 0 < length l → field_in l ≡ bad e → row l ≡ fault e
unfolding row
row-bad l p w = row_enough (length l) (suc (length l)) l (omega arith) (omega arith) ∙ row-fault (length l) l p w

-- ** Parts one after the other

-- what comes of b after what came of a
abbrev After : List ℕ → Read → Read → Type 0
After b (refused e) y = (e ≡ 28 → ⊥) → y ≡ refused e
After b (taken m) y = y ≡ read_row (row b) m

after : (k : ℕ) (a b : List ℕ) (m : ConfState) → length a ≤ k → After b (read_row (row a) m) (read_row (row (a ++ b)) m)
unfolding read_row
after zero [] b m h = rw row-end
after zero (c ∷ cs) b m h = absurd (omega arith)
after (suc k) [] b m h = rw row-end
after (suc k) (c ∷ cs) b m h = by (λ l n i. after k l b n i) (field_in (c ∷ cs)) refl
  where
    by : ((l : List ℕ) (n : ConfState) → length l ≤ k → After b (read_row (row l) n) (read_row (row (l ++ b)) n)) → (x : Found Field) → field_in (c ∷ cs) ≡ x
        → After b (read_row (row (c ∷ cs)) m) (read_row (row (c ∷ (cs ++ b))) m)
    by r (bad e) w = rw (row-bad (c ∷ cs) (omega arith) w) (λ d. rw (row-bad (c ∷ (cs ++ b)) (omega arith) (field-fault (c ∷ cs) b w d)))
    by r (found f n) w =
        let q : n ≤ length (c ∷ cs) = (field-within (c ∷ cs) w).1 in
        let j : drop n (c ∷ (cs ++ b)) ≡ drop n (c ∷ cs) ++ b = drop-append-le n (c ∷ cs) b q in
        let u : row (c ∷ (cs ++ b)) ≡ next f (row (drop n (c ∷ (cs ++ b)))) = row_first (c ∷ (cs ++ b)) (field_append (c ∷ cs) b w) in
        rw (row_first (c ∷ cs) w, u, j) (on (entered f m))
      where
        on : (x : Read) → After b (go_on x (read_row (row (drop n (c ∷ cs))))) (go_on x (read_row (row (drop n (c ∷ cs) ++ b))))
        on (refused e) = λ d. refl
        on (taken s) = r (drop n (c ∷ cs)) s (omega (arith, h, (field-within (c ∷ cs) w).0, length-drop n (c ∷ cs)))

-- a message is its parts one after the other
pub read_append : (a b : List ℕ) {m : ConfState} → read a ≡ taken m → read (a ++ b) ≡ read_row (row b) m
unfolding read
read_append a b e = subst (λ (x : Read). After b x (read (a ++ b))) e (after (length a) a b no_conf_state (omega arith))

-- 29 and 30 stay, whatever follows
pub fault_stays : (a b : List ℕ) {e : ℕ} → read a ≡ refused e → (e ≡ 28 → ⊥) → read (a ++ b) ≡ refused e
unfolding read
fault_stays a b e = subst (λ (x : Read). After b x (read (a ++ b))) e (after (length a) a b no_conf_state (omega arith))

-- so does 28 where the faulty field is whole: a packed number past its field's end
pub whole_fault_stays : (a c b : List ℕ) {m : ConfState} {f : Field} {n e : ℕ} → read a ≡ taken m → field_in c ≡ found f n → entered f m ≡ refused e
    → read (a ++ (c ++ b)) ≡ refused e
unfolding read_row
whole_fault_stays a c b r w e = read_append a (c ++ b) r ∙ rw (row_first (c ++ b) (field_append c b w), e)
