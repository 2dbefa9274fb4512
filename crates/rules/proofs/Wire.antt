-- Laws of the wire: what is found lies within the bytes, and a varint that was written is found again. Assumes nothing.
use Prim.Native.Nat.{ℕ, zero, suc, ◌+◌, ◌-◌, ◌*◌, ◌/◌, ◌%◌, ◌^◌, ◌≤◌, ◌<◌}
use mathlib.Core.Path.{◌≡◌, refl, subst, ◌∙◌}
use mathlib.Core.Bool.{Bool, true, false, cond}
use mathlib.Core.List.{List, [], ◌∷◌, ◌++◌}
use native.Mathlib.Nat.{pow-suc, div-lt_iff_lt-mul, mod-add-div}
use native.Mathlib.Omega.{arith}
use borrow.Author.Tests.{lt-ltb, le-ltb, le-leb, ltb-true, ltb-false, leb-true}
use lib.Dec.{eqb, leb, ltb}
use lib.ListN.{length, take, drop, length-drop}
use Rattle.rules.specs.Wire.{Front, cut, num, more, front, Found, bad, found, fits, judged, varint_in, Payload, fixed, bytes, single, fixed_in, length_in, payload_in, Field, numbered, held, tagged, field_in, end, fault, next, row_of, groups, varint_of}

-- ** The front of bytes, by the first of them

pub front-one : (b : ℕ) (bs : List ℕ) → b < 128 → front (b ∷ bs) ≡ num b 1
unfolding front
front-one b bs h = rw (lt-ltb _ _ h)

pub front-more : (b : ℕ) (bs : List ℕ) → 128 ≤ b → front (b ∷ bs) ≡ more (b - 128) (front bs)
unfolding front
front-more b bs h = rw (le-ltb _ _ h)

-- ** A varint has a byte at least, and lies within the bytes

abbrev Spans : ℕ → Front → Type 0
Spans size cut = Unit {0}
Spans size (num v n) = (0 < n) × (n ≤ size)

spans_more : (size low : ℕ) (f : Front) → Spans size f → Spans (suc size) (more low f)
spans_more size low cut h = tt
spans_more size low (num v n) h = (omega arith, omega (arith, h.1))

front_spans : (l : List ℕ) → Spans (length l) (front l)
unfolding front
front_spans [] = tt
front_spans (b ∷ bs) = by (front_spans bs) (ltb b 128)
  where
    by : Spans (length bs) (front bs) → (t : Bool) → Spans (suc (length bs)) (cond t (num b 1) (more (b - 128) (front bs)))
    by r true = (omega arith, omega arith)
    by r false = spans_more (length bs) (b - 128) (front bs) r

pub front-within : (l : List ℕ) {v n : ℕ} → front l ≡ num v n → (0 < n) × (n ≤ length l)
front-within l e = subst (Spans (length l)) e (front_spans l)

-- something found takes a byte at least, and lies within so many bytes
abbrev pub Within : {A : Type 0} → ℕ → Found A → Type 0
Within size (bad e) = Unit {0}
Within size (found x n) = (0 < n) × (n ≤ size)

judged-within : (size : ℕ) (f : Front) → Spans size f → Within size (judged f)
judged-within size cut h = tt
judged-within size (num v n) h = by (fits v n)
  where
    by : (t : Bool) → Within size (cond t (found v n) (bad 29))
    by true = h
    by false = tt

varint-within : (l : List ℕ) → Within (length l) (varint_in l)
unfolding varint_in
varint-within l = judged-within (length l) (front l) (front_spans l)

pub varint_spans : (l : List ℕ) {v n : ℕ} → varint_in l ≡ found v n → (0 < n) × (n ≤ length l)
varint_spans l e = subst (Within (length l)) e (varint-within l)

-- ** So does a field

-- a payload may be empty only where its length says so, and that takes a byte
single-within : (size : ℕ) (x : Found ℕ) → Within size x → Within size (single x)
single-within size (bad e) h = tt
single-within size (found v n) h = h

fixed-within : (n : ℕ) (l : List ℕ) → 0 < n → Within (length l) (fixed_in n l)
fixed-within n l p = by (leb n (length l)) refl
  where
    by : (t : Bool) → leb n (length l) ≡ t → Within (length l) (cond t (found fixed n) (bad 28))
    by true t = (p, leb-true n (length l) t)
    by false t = tt

length-within : (l : List ℕ) (x : Found ℕ) → Within (length l) x → Within (length l) (length_in l x)
length-within l (bad e) h = tt
length-within l (found v n) h = by (leb v (length l - n)) refl
  where
    by : (t : Bool) → leb v (length l - n) ≡ t → Within (length l) (cond t (found (bytes (take v (drop n l))) (n + v)) (bad 28))
    by true t = (omega (arith, h.0), omega (arith, h.1, leb-true v (length l - n) t))
    by false t = tt

pub payload-within : (w : ℕ) (l : List ℕ) → Within (length l) (payload_in w l)
unfolding payload_in
payload-within w l = by (eqb w 0) (eqb w 1) (eqb w 2) (eqb w 5)
  where
    by : (a b c d : Bool) → Within (length l)
        (cond a (single (varint_in l)) (cond b (fixed_in 8 l) (cond c (length_in l (varint_in l)) (cond d (fixed_in 4 l) (bad 29)))))
    by true b c d = single-within (length l) (varint_in l) (varint-within l)
    by false true c d = fixed-within 8 l (omega arith)
    by false false true d = length-within l (varint_in l) (varint-within l)
    by false false false true = fixed-within 4 l (omega arith)
    by false false false false = tt

held-within : (f n size left : ℕ) (x : Found Payload) → 0 < n → n + left ≤ size → Within left x → Within size (held f n x)
held-within f n size left (bad e) p q h = tt
held-within f n size left (found y k) p q h = by (numbered f)
  where
    by : (t : Bool) → Within {A = Field} size (cond t (found (record { number = f; payload = y }) (n + k)) (bad 29))
    by true = (omega arith, omega (arith, h.1))
    by false = tt

tagged-within : (l : List ℕ) (x : Found ℕ) → Within (length l) x → Within (length l) (tagged l x)
tagged-within l (bad e) h = tt
tagged-within l (found t n) h =
    held-within (t / 8) n (length l) (length (drop n l)) (payload_in (t % 8) (drop n l)) h.0 (simp length-drop (omega (arith, h.1))) (payload-within (t % 8) (drop n l))

pub field-within : (l : List ℕ) {f : Field} {n : ℕ} → field_in l ≡ found f n → (0 < n) × (n ≤ length l)
unfolding field_in
field-within l e = subst (Within (length l)) e (tagged-within l (varint_in l) (varint-within l))

-- ** A row, by its first field

pub row_none : (k : ℕ) → row_of k [] ≡ end
unfolding row_of
row_none zero = refl
row_none (suc k) = refl

pub row-fault : (k : ℕ) (l : List ℕ) {e : ℕ} → 0 < length l → field_in l ≡ bad e → row_of (suc k) l ≡ fault e
unfolding row_of
row-fault k [] p e = absurd (omega arith)
row-fault k (b ∷ bs) p e = rw e

pub row_next : (k : ℕ) (l : List ℕ) {f : Field} {n : ℕ} → 0 < length l → field_in l ≡ found f n → row_of (suc k) l ≡ next f (row_of k (drop n l))
unfolding row_of
row_next k [] p e = absurd (omega arith)
row_next k (b ∷ bs) p e = rw e

-- ** A varint that was written is found again

pub fits-yes : (v n : ℕ) → n ≤ 10 → v < 2 ^ 64 → fits v n ≡ true
unfolding fits
fits-yes v n h k = rw (le-leb _ _ h, lt-ltb _ _ k)

pub groups-one : (k n : ℕ) → n < 128 → groups (suc k) n ≡ n ∷ []
unfolding groups
groups-one k n h = rw (lt-ltb _ _ h)

pub groups-more : (k n : ℕ) → 128 ≤ n → groups (suc k) n ≡ (128 + n % 128) ∷ groups k (n / 128)
unfolding groups
groups-more k n h = rw (le-ltb _ _ h)

pub groups_less : (k n : ℕ) → n < 128 ^ suc (suc k) → n / 128 < 128 ^ suc k
groups_less k n h = (div-lt_iff_lt-mul {k = 128} (omega arith)).1 (rw (← pow-suc) h)

pub front-groups : (k n : ℕ) (rest : List ℕ) → n < 128 ^ suc k → front (groups (suc k) n ++ rest) ≡ num n (length (groups (suc k) n))
front-groups zero n rest h =
    let d : n < 128 = omega arith in
    rw (groups-one zero n d) (front-one n rest d)
front-groups (suc k) n rest h = go (front-groups k (n / 128) rest (groups_less k n h)) (ltb n 128) refl
  where
    go : front (groups (suc k) (n / 128) ++ rest) ≡ num (n / 128) (length (groups (suc k) (n / 128))) → (t : Bool) → ltb n 128 ≡ t
        → front (groups (suc (suc k)) n ++ rest) ≡ num n (length (groups (suc (suc k)) n))
    go r true t =
        let d : n < 128 = ltb-true n 128 t in
        rw (groups-one (suc k) n d) (front-one n rest d)
    go r false t =
        let d : 128 ≤ n = ltb-false n 128 t in
        let e : 128 + n % 128 - 128 + 128 * (n / 128) ≡ n = omega (arith, mod-add-div n 128) in
        rw (groups-more (suc k) n d) (front-more (128 + n % 128) (groups (suc k) (n / 128) ++ rest) (omega arith) ∙ rw (r, e))

pub groups-length : (k n : ℕ) → length (groups k n) ≤ k
unfolding groups
groups-length zero n = omega arith
groups-length (suc k) n = go (groups-length k (n / 128)) (ltb n 128)
  where
    go : length (groups k (n / 128)) ≤ k → (t : Bool) → length (cond t (n ∷ []) ((128 + n % 128) ∷ groups k (n / 128))) ≤ suc k
    go r true = omega arith
    go r false = omega arith

-- one at least
pub groups-some : (k n : ℕ) → 0 < length (groups (suc k) n)
unfolding groups
groups-some k n = by (ltb n 128)
  where
    by : (t : Bool) → 0 < length (cond t (n ∷ []) ((128 + n % 128) ∷ groups k (n / 128)))
    by true = omega arith
    by false = omega arith

pub varint-some : (n : ℕ) → 0 < length (varint_of n)
unfolding varint_of
varint-some n = groups-some 9 n

pub varint-length : (n : ℕ) → length (varint_of n) ≤ 10
unfolding varint_of
varint-length n = groups-length 10 n

pub varint-back : (n : ℕ) (rest : List ℕ) → n < 2 ^ 64 → varint_in (varint_of n ++ rest) ≡ found n (length (varint_of n))
unfolding varint_in varint_of
varint-back n rest h = rw (front-groups 9 n rest (omega arith), fits-yes n (length (groups 10 n)) (groups-length 10 n) h)
