-- Laws of what the writer counts and what it refuses: the bytes of numbers, of a list's field, of the message. Assumes nothing.
use Prim.Native.Nat.{ℕ, zero, suc, ◌+◌, ◌-◌, ◌*◌, ◌≤◌, ◌<◌}
use mathlib.Core.Path.{◌≡◌, refl, ap, sym, ◌∙◌}
use mathlib.Core.Bool.{Bool, true, false, ◌&&◌, ◌||◌, cond}
use mathlib.Core.List.{List, [], ◌∷◌, ◌++◌}
use native.Mathlib.Numerals.{add-one}
use native.Mathlib.Omega.{arith}
use borrow.Author.Tests.{ltb-false, leb-true, eqb-true, eqb-false, lt-ltb, le-ltb, le-leb, lt-leb, eq-eqb, ne_eqb}
use lib.Dec.{eqb, leb, ltb}
use lib.ListN.{length, take, drop, get_or, length-append, length-take, length-drop, drop_of_length-le}
use lib.Seq.{drop-cons}
use Rattle.rules.specs.State.{ConfState}
use Rattle.rules.specs.Wire.{groups, varint_of}
use Rattle.rules.specs.Message.{Few64, packed_of, list_field, flag_field, encoded, overlong}
use Rattle.rules.proofs.Sets.{or_left, or_right, and_left, and_right}
use Rattle.rules.proofs.Wire.{groups-one, varint-length, varint-some}
use Rattle.rules.proofs.Packed.{packed-size}
use Rattle.confstate.specs.Words.{at, list_in, message_in, is_conf_state}
use Rattle.confstate.specs.declared.write.Sizes.{Sizes}
use Rattle.confstate.specs.Sizes.{refusal_of, Writable, Block, sizes_of, field_size, total_of}

-- ** Numbers one after the other

pub packed-at : (xs : List ℕ) (i : ℕ) → i < length xs → packed_of (drop i xs) ≡ varint_of (get_or xs i 0) ++ packed_of (drop (i + 1) xs)
unfolding packed_of
packed-at xs i h = rw (drop-cons xs i 0 h, add-one)

pub packed-past : (xs : List ℕ) (i : ℕ) → length xs ≤ i → packed_of (drop i xs) ≡ []
unfolding packed_of
packed-past xs i h = rw (drop_of_length-le xs h)

-- the loop that counts their bytes has come to place i
pub record Counting (xs : List ℕ) (n i : ℕ) : Type 0 where
  pub within : i ≤ length xs
  pub count : n + length (packed_of (drop i xs)) ≡ length (packed_of xs)

pub counting_start : {xs : List ℕ} → Counting xs 0 0
counting_start = record { within = omega arith; count = omega arith }

module _ {xs : List ℕ} {n i : ℕ} (s : Counting xs n i) where
  pub counting_few : length xs ≤ 64 → n ≤ 640
  counting_few h = omega (arith, s.count, packed-size xs)

  pub counting_next : i < length xs → {k : ℕ} → k ≡ length (varint_of (get_or xs i 0)) → Counting xs (n + k) (i + 1)
  counting_next h e = record {
    within = omega arith;
    count = omega (arith, s.count, ap length (packed-at xs i h), length-append (varint_of (get_or xs i 0)) (packed_of (drop (i + 1) xs)));
  }

  pub counting_end : length xs ≤ i → n ≡ length (packed_of xs)
  counting_end h = omega (arith, s.count, ap length (packed-past xs i h))

-- ** A list's field

-- a list is empty where its numbers take no byte
pub list_none : (f : ℕ) (xs : List ℕ) → length (packed_of xs) ≡ 0 → list_field f xs ≡ []
unfolding list_field packed_of
list_none f [] e = refl
list_none f (x ∷ xs) e = absurd (omega (arith, length-append (varint_of x) (packed_of xs), varint-some x))

pub list_some : (f : ℕ) (xs : List ℕ) → (length (packed_of xs) ≡ 0 → ⊥) → f < 16
    → list_field f xs ≡ (8 * f + 2) ∷ (varint_of (length (packed_of xs)) ++ packed_of xs)
unfolding list_field packed_of varint_of
list_some f [] h k = absurd (h refl)
list_some f (x ∷ xs) h k = rw (groups-one 9 (8 * f + 2) (omega arith))

pub field-few : (n : ℕ) → n ≤ 640 → field_size n ≤ 651
unfolding field_size
field-few n h = by (eqb n 0)
  where
    by : (t : Bool) → cond t 0 (1 + length (varint_of n) + n) ≤ 651
    by true = omega arith
    by false = omega (arith, varint-length n)

pub field_none : {n : ℕ} → n ≡ 0 → 0 ≡ field_size n
unfolding field_size
field_none {n} e = rw (eq-eqb n 0 e)

pub field-some : {n k : ℕ} → (n ≡ 0 → ⊥) → k ≡ length (varint_of n) → 1 + k + n ≡ field_size n
unfolding field_size
field-some {n} h e = rw (ne_eqb n 0 h, e)

field-length : (f : ℕ) (xs : List ℕ) → f < 16 → field_size (length (packed_of xs)) ≡ length (list_field f xs)
unfolding field_size
field-length f xs k = by (eqb (length (packed_of xs)) 0) refl
  where
    by : (t : Bool) → eqb (length (packed_of xs)) 0 ≡ t
        → cond t 0 (1 + length (varint_of (length (packed_of xs))) + length (packed_of xs)) ≡ length (list_field f xs)
    by true e = sym (ap length (list_none f xs (eqb-true _ _ e)))
    by false e =
        omega (arith, ap length (list_some f xs (eqb-false _ _ e) k), length-append (varint_of (length (packed_of xs))) (packed_of xs))

-- ** The flag's field

flag-length : (n : ℕ) → n ≤ 1 → 2 * n ≡ length (flag_field (eqb n 1))
unfolding flag_field varint_of groups
flag-length zero h = refl
flag-length (suc zero) h = refl
flag-length (suc (suc n)) h = absurd (omega arith)

-- ** The words

-- a list of them has as many numbers as its count says, or more than 64 where that does
count-few : (ws : List ℕ) (k : ℕ) → k + 65 ≤ length ws → at ws (k + 64) ≤ 64 → length (list_in ws k) ≡ at ws (k + 64)
unfolding list_in
count-few ws k h e = omega (arith, length-take (at ws (k + 64)) (drop k ws), length-drop k ws)

count_many : (ws : List ℕ) (k : ℕ) → k + 65 ≤ length ws → 64 < at ws (k + 64) → 64 < length (list_in ws k)
unfolding list_in
count_many ws k h e = omega (arith, length-take (at ws (k + 64)) (drop k ws), length-drop k ws)

pub block-count : {ws : List ℕ} {k : ℕ} → Block ws k → at ws (k + 64) ≤ 64
unfolding list_in
block-count {ws} {k} b = omega (arith, b.words, b.few, length-take (at ws (k + 64)) (drop k ws), length-drop k ws)

-- what the writer lends of them
pub block_lent : (ws : List ℕ) (k : ℕ) {n : ℕ} → n ≡ at ws (k + 64) → take (k + n - k) (drop k ws) ≡ list_in ws k
unfolding list_in
block_lent ws k {n} e =
    let a : k + n - k ≡ at ws (k + 64) = omega arith in
    ap (λ (m : ℕ). take m (drop k ws)) a

pub lent_few : {ws xs : List ℕ} {k : ℕ} → Block ws k → xs ≡ list_in ws k → length xs ≤ 64
lent_few b e = rw e b.few

module _ {ws : List ℕ} (w : Writable ws) where
  pub block_1 : Block ws 0
  unfolding message_in
  block_1 = record { words = omega (arith, w.words); few = w.few.voters }

  pub block_2 : Block ws 65
  unfolding message_in
  block_2 = record { words = omega (arith, w.words); few = w.few.learners }

  pub block_3 : Block ws 130
  unfolding message_in
  block_3 = record { words = omega (arith, w.words); few = w.few.voters_outgoing }

  pub block_4 : Block ws 195
  unfolding message_in
  block_4 = record { words = omega (arith, w.words); few = w.few.learners_next }

-- ** Refusals, in the order of the tests

pub is-conf-state : (ws : List ℕ) → length ws ≡ 261 → at ws 260 ≤ 1 → is_conf_state ws ≡ true
unfolding is_conf_state
is-conf-state ws h k = rw (eq-eqb _ _ h, le-leb _ _ k)

pub refused-words : (ws : List ℕ) → (length ws ≡ 261 → ⊥) → 1 ≡ refusal_of ws
unfolding refusal_of is_conf_state
refused-words ws h = rw (ne_eqb _ _ h)

module _ (ws : List ℕ) (h : length ws ≡ 261) where
  pub refused-flag : 1 < at ws 260 → 1 ≡ refusal_of ws
  unfolding refusal_of is_conf_state
  refused-flag k = rw (eq-eqb _ _ h, lt-leb _ _ k)

  module _ (k : at ws 260 ≤ 1) where
    pub refused_1 : 64 < at ws 64 → 2 ≡ refusal_of ws
    unfolding refusal_of overlong message_in
    refused_1 l = rw (is-conf-state ws h k, lt-ltb _ _ (count_many ws 0 (omega arith) l))

    module _ (a : at ws 64 ≤ 64) where
      short_1 : ltb 64 (length (list_in ws 0)) ≡ false
      short_1 = le-ltb 64 (length (list_in ws 0)) (omega (arith, count-few ws 0 (omega arith) a))

      pub refused_2 : 64 < at ws 129 → 2 ≡ refusal_of ws
      unfolding refusal_of overlong message_in
      refused_2 l = rw (is-conf-state ws h k, short_1, lt-ltb _ _ (count_many ws 65 (omega arith) l))

      module _ (b : at ws 129 ≤ 64) where
        short_2 : ltb 64 (length (list_in ws 65)) ≡ false
        short_2 = le-ltb 64 (length (list_in ws 65)) (omega (arith, count-few ws 65 (omega arith) b))

        pub refused_3 : 64 < at ws 194 → 2 ≡ refusal_of ws
        unfolding refusal_of overlong message_in
        refused_3 l = rw (is-conf-state ws h k, short_1, short_2, lt-ltb _ _ (count_many ws 130 (omega arith) l))

        module _ (d : at ws 194 ≤ 64) where
          short_3 : ltb 64 (length (list_in ws 130)) ≡ false
          short_3 = le-ltb 64 (length (list_in ws 130)) (omega (arith, count-few ws 130 (omega arith) d))

          pub refused_4 : 64 < at ws 259 → 2 ≡ refusal_of ws
          unfolding refusal_of overlong message_in
          refused_4 l = rw (is-conf-state ws h k, short_1, short_2, short_3, lt-ltb _ _ (count_many ws 195 (omega arith) l))

          pub refused_none : at ws 259 ≤ 64 → 0 ≡ refusal_of ws
          unfolding refusal_of overlong message_in
          refused_none e =
              let s : ltb 64 (length (list_in ws 195)) ≡ false = le-ltb 64 (length (list_in ws 195)) (omega (arith, count-few ws 195 (omega arith) e)) in
              rw (is-conf-state ws h k, short_1, short_2, short_3, s)

-- words that are not refused
few : (m : ConfState) → overlong m ≡ false → Few64 m
unfolding overlong
few m e =
    let p = ltb 64 (length m.voters) in
    let q = ltb 64 (length m.learners) in
    let r = ltb 64 (length m.voters_outgoing) in
    let d = or_left (p || q || r) _ e in
    let b = or_left (p || q) _ d in
    record {
      voters = ltb-false _ _ (or_left p _ b);
      learners = ltb-false _ _ (or_right p _ b);
      voters_outgoing = ltb-false _ _ (or_right (p || q) _ d);
      learners_next = ltb-false _ _ (or_right (p || q || r) _ e);
    }

pub writable : {ws : List ℕ} {n : ℕ} → n ≡ refusal_of ws → n ≡ 0 → Writable ws
unfolding refusal_of is_conf_state
writable {ws} {n} e z = by (eqb (length ws) 261 && leb (at ws 260) 1) (overlong (message_in ws)) refl refl (sym e ∙ z)
  where
    by : (t o : Bool) → (eqb (length ws) 261 && leb (at ws 260) 1) ≡ t → overlong (message_in ws) ≡ o
        → ◌≡◌ {A = ℕ} (cond t (cond o 2 0) 1) 0 → Writable ws
    by true true p q r = absurd (omega arith)
    by true false p q r = record {
      words = eqb-true (length ws) 261 (and_left (eqb (length ws) 261) (leb (at ws 260) 1) p);
      flag = leb-true (at ws 260) 1 (and_right (eqb (length ws) 261) (leb (at ws 260) 1) p);
      few = few (message_in ws) q;
    }
    by false o p q r = absurd (omega arith)

-- ** The message

module _ {ws : List ℕ} (w : Writable ws) where
  total_length : total_of (sizes_of (message_in ws)) (at ws 260) ≡ length (encoded (message_in ws))
  unfolding total_of sizes_of encoded message_in
  total_length = omega (
    arith,
    field-length 1 (list_in ws 0) (omega arith),
    field-length 2 (list_in ws 65) (omega arith),
    field-length 3 (list_in ws 130) (omega arith),
    field-length 4 (list_in ws 195) (omega arith),
    flag-length (at ws 260) w.flag,
    length-append (list_field 1 (list_in ws 0)) (list_field 2 (list_in ws 65) ++ (list_field 3 (list_in ws 130) ++ (list_field 4 (list_in ws 195) ++ flag_field (eqb (at ws 260) 1)))),
    length-append (list_field 2 (list_in ws 65)) (list_field 3 (list_in ws 130) ++ (list_field 4 (list_in ws 195) ++ flag_field (eqb (at ws 260) 1))),
    length-append (list_field 3 (list_in ws 130)) (list_field 4 (list_in ws 195) ++ flag_field (eqb (at ws 260) 1)),
    length-append (list_field 4 (list_in ws 195)) (flag_field (eqb (at ws 260) 1)),
  )

  -- as it was counted
  module _ {s : Sizes} (e : s ≡ sizes_of (message_in ws)) where
    pub sizes_few : (s.voters ≤ 640) × (s.learners ≤ 640) × (s.outgoing ≤ 640) × (s.next ≤ 640) × (at ws 260 ≤ 1)
    unfolding sizes_of
    sizes_few = rw e (
      omega (arith, packed-size (message_in ws).voters, w.few.voters),
      omega (arith, packed-size (message_in ws).learners, w.few.learners),
      omega (arith, packed-size (message_in ws).voters_outgoing, w.few.voters_outgoing),
      omega (arith, packed-size (message_in ws).learners_next, w.few.learners_next),
      w.flag,
    )

    pub counted-length : {n : ℕ} → n ≡ total_of s (at ws 260) → n ≡ length (encoded (message_in ws))
    counted-length t = t ∙ (ap (λ (z : Sizes). total_of z (at ws 260)) e ∙ total_length)
