-- Laws of reading a varint from a slice: where it ends, its tenth byte, the loop over the nine before, the two short ways.
-- Assumes nothing.
use Prim.Native.Nat.{ℕ, suc, ◌+◌, ◌-◌, ◌*◌, ◌^◌, ◌≤◌, ◌<◌}
use mathlib.Core.Path.{◌≡◌, refl, ap, sym, ◌∙◌}
use mathlib.Core.Bool.{Bool, true, false, not, cond}
use mathlib.Core.List.{List, [], ◌∷◌}
use native.Mathlib.Nat.{add-zero, mul-add, mul_assoc, mul-le-mul_left, mul-le-mul_right, pow-suc, pow-le-pow_right}
use native.Mathlib.Numerals.{add-one}
use native.Mathlib.Omega.{arith}
use borrow.Author.Tests.{ltb-true, ltb-false, lt-ltb, le-ltb}
use lib.Dec.{ltb}
use lib.ListN.{length, take, drop, get_or, length-drop}
use lib.Seq.{take_all}
use Rattle.std.specs.Prelude.{Option, Some, None, Result, Ok, Err}
use Rattle.std.specs.List.{position, position_or_len}
use Rattle.rules.specs.Wire.{Front, cut, num, more, front, fits}
use Rattle.wire.specs.Varints.{outcome, read_at, tenth, tenth_at, past, end_of}
use Rattle.wire.specs.declared.Varint.{Varint}
use Rattle.wire.specs.declared.Fault.{Fault}
use Rattle.wire.specs.declared.Fault.TheVariants.{CutShort, Malformed}
use Rattle.wire.proofs.Fronts.{front_none, front-last, front-more, past_more, past_none, fits-long, fits_large}
use Rattle.rules.proofs.Wire.{front-within, fits-yes}

-- the two that a reader makes of what ends
abbrev pub over_at : ℕ → Result Varint Fault
over_at next = Err (Malformed next)

abbrev pub value_at : ℕ → ℕ → Result Varint Fault
value_at v next = Ok (record { value = v; next = next })

-- the place after the first byte below 128
abbrev first_low : List ℕ → Option ℕ
first_low l = position (λ b. ltb b 128) l

abbrev pub shifted : ℕ → Option ℕ → Option ℕ
shifted p None = None
shifted p (Some n) = Some (p + n + 1)

ends : (l : List ℕ) (p : ℕ) → shifted p (first_low l) ≡ past p (front l)
unfolding front
ends [] p = refl
ends (b ∷ bs) p = by (ltb b 128) (ends bs (p + 1))
  where
    n : ℕ
    n = position_or_len (λ b. ltb b 128) bs

    more-low : (t : Bool) → ltb n (length bs) ≡ t
        → shifted p (cond (ltb (1 + n) (suc (length bs))) (Some (1 + n)) None) ≡ shifted (p + 1) (cond (ltb n (length bs)) (Some n) None)
    more-low true t =
        let e : p + (1 + n) + 1 ≡ p + 1 + n + 1 = omega arith in
        rw (t, lt-ltb (1 + n) (suc (length bs)) (omega (arith, ltb-true n (length bs) t))) (ap Some e)
    more-low false t = rw (t, le-ltb (1 + n) (suc (length bs)) (omega (arith, ltb-false n (length bs) t)))

    by : (t : Bool) → shifted (p + 1) (first_low bs) ≡ past (p + 1) (front bs)
        → shifted p (cond (ltb (cond (not t) (1 + n) 0) (suc (length bs))) (Some (cond (not t) (1 + n) 0)) None)
        ≡ past p (cond t (num b 1) (more (b - 128) (front bs)))
    by true h = let e : p + 0 + 1 ≡ p + 1 = omega arith in rw (lt-ltb 0 (suc (length bs)) (omega arith)) (ap Some e)
    by false h = more-low (ltb n (length bs)) refl ∙ (h ∙ sym (past_more p (b - 128) (front bs)))

low_ends : (l : List ℕ) (at : ℕ) {m : ℕ} → length l - at ≤ m → shifted at (first_low (take m (drop at l))) ≡ end_of l at
unfolding end_of
low_ends l at {m} k = rw (take_all m (drop at l) (omega (arith, length-drop at l))) (ends (drop at l) at)

module _ (l : List ℕ) (at : ℕ) {m : ℕ} {r : Option ℕ} (e : r ≡ first_low (take m (drop at l))) (k : length l - at ≤ m) where
  pub none_ends : {s : Option ℕ} → r ≡ None → s ≡ None → s ≡ end_of l at
  none_ends f g = g ∙ (ap (shifted at) (sym f ∙ e) ∙ low_ends l at k)

  pub some_ends : {n : ℕ} → r ≡ Some n → Some (at + n + 1) ≡ end_of l at
  some_ends f = ap (shifted at) (sym f ∙ e) ∙ low_ends l at k

-- the tenth byte, after nine that are worth v
module _ (l : List ℕ) (at v : ℕ) where
  pub tenth_none : length l ≤ at → Err CutShort ≡ tenth_at l at v
  unfolding tenth_at
  tenth_none h = rw (front_none l at h)

  pub tenth-cut : None ≡ end_of l at → Err CutShort ≡ tenth_at l at v
  unfolding tenth_at end_of
  tenth-cut z = rw (past_none (drop at l) at (sym z))

  module _ (h : at < length l) where
    pub tenth-value : v < 2 ^ 63 → get_or l at 0 < 2 → value_at (v + 2 ^ 63 * get_or l at 0) (at + 1) ≡ tenth_at l at v
    unfolding tenth_at
    tenth-value s k =
        let d : get_or l at 0 < 128 = omega arith in
        rw (front-last l at h d, fits-yes (v + 2 ^ 63 * get_or l at 0) 10 (omega arith) (omega arith))

    pub tenth_over : {n : ℕ} → Some n ≡ end_of l at → 2 ≤ get_or l at 0 → over_at n ≡ tenth_at l at v
    unfolding tenth_at end_of
    tenth_over {n} c k = split (ltb (get_or l at 0) 128) refl
      where
        at-num : (w m : ℕ) → front (drop at l) ≡ num w m → fits (v + 2 ^ 63 * w) (9 + m) ≡ false → over_at n ≡ tenth at v (front (drop at l))
        at-num w m f t =
            let e : Some n ≡ Some (at + m) = c ∙ ap (past at) f in
            let d : n ≡ at + m = cc in
            rw (f, t, d)

        rest : 128 ≤ get_or l at 0 → (f : Front) → front (drop (at + 1) l) ≡ f → over_at n ≡ tenth at v (front (drop at l))
        rest d cut g = let z : Some n ≡ None = c ∙ rw (front-more l at h d, g) refl in cc
        rest d (num w m) g =
            at-num (get_or l at 0 - 128 + 128 * w) (suc m) (front-more l at h d ∙ ap (more (get_or l at 0 - 128)) g)
            (fits-long (v + 2 ^ 63 * (get_or l at 0 - 128 + 128 * w)) (9 + suc m) (omega (arith, (front-within (drop (at + 1) l) g).0)))

        split : (t : Bool) → ltb (get_or l at 0) 128 ≡ t → over_at n ≡ tenth at v (front (drop at l))
        split true t =
            let d : get_or l at 0 < 128 = ltb-true (get_or l at 0) 128 t in
            at-num (get_or l at 0) 1 (front-last l at h d) (fits_large (v + 2 ^ 63 * get_or l at 0) (9 + 1) (omega arith))
        split false t = rest (ltb-false (get_or l at 0) 128 t) (front (drop (at + 1) l)) refl

-- i bytes that are worth v, and u the next bit's worth, before what stands there
abbrev pub lift : ℕ → ℕ → ℕ → Front → Front
lift v u i cut = cut
lift v u i (num w n) = num (v + u * w) (i + n)

lift_more : (v u i low : ℕ) (f : Front) → lift v u i (more low f) ≡ lift (v + u * low) (u * 128) (i + 1) f
lift_more v u i low cut = refl
lift_more v u i low (num w n) =
    let a : v + u * (low + 128 * w) ≡ v + u * low + u * 128 * w = rw (mul-add, mul_assoc) (omega arith) in
    let b : i + suc n ≡ i + 1 + n = omega arith in
    rw (a, b)

tenth_lift : (at v : ℕ) (f : Front) → tenth (at + 9) v f ≡ outcome at (lift v (2 ^ 63) 9 f)
tenth_lift at v cut = refl
tenth_lift at v (num w n) =
    let e : at + 9 + n ≡ at + (9 + n) = omega arith in
    ap (λ (j : ℕ). cond (fits (v + 2 ^ 63 * w) (9 + n)) (Ok (record { value = v + 2 ^ 63 * w; next = j })) (Err (Malformed j))) e

lift_none : (f : Front) → f ≡ lift 0 1 0 f
lift_none cut = refl
lift_none (num w n) =
    let a : 0 + 1 * w ≡ w = omega arith in
    let b : 0 + n ≡ n = omega arith in
    rw (a, b)

-- the loop that reads from `at` on has passed i bytes, all of them 128 or more
pub record Reading (l : List ℕ) (at value unit i : ℕ) : Type 0 where
  pub few : i ≤ 9
  pub within : at + i ≤ length l
  pub scale : unit ≡ 128 ^ i
  pub small : value < unit
  pub same : front (drop at l) ≡ lift value unit i (front (drop (at + i) l))

pub read-start : {l : List ℕ} {at : ℕ} → at ≤ length l → Reading l at 0 1 0
read-start {l} {at} h = record { few = omega arith; within = omega arith; scale = refl; small = omega arith; same = rw add-zero (lift_none (front (drop at l))) }

module _ {l : List ℕ} {at value unit i : ℕ} (r : Reading l at value unit i) where
  pub read-cut : length l ≤ at + i → Err CutShort ≡ read_at l at
  unfolding read_at
  read-cut h =
      let e : front (drop at l) ≡ cut = r.same ∙ ap (lift value unit i) (front_none l (at + i) h) in
      rw e

  pub unit_small : i < 9 → unit ≤ 2 ^ 56
  unit_small h =
      let e : i ≤ 8 = omega arith in
      let k : 128 ^ i ≤ 128 ^ 8 = pow-le-pow_right (omega arith) e in
      omega (arith, r.scale, k)

  pub sum_small : {b : ℕ} → i < 9 → b < 128 → value + unit * b < 2 ^ 63
  sum_small {b} h k =
      let u : unit ≤ 2 ^ 56 = unit_small h in
      let m : unit * b ≤ 2 ^ 56 * b = mul-le-mul_right b u in
      omega (arith, r.small)

  pub sum_more : {b : ℕ} → i < 9 → 128 ≤ b → b < 256 → value + unit * (b - 128) < 2 ^ 63
  sum_more {b} h k n = sum_small {b = b - 128} h (omega arith)

  unit_nine : 9 ≤ i → unit ≡ 2 ^ 63
  unit_nine h =
      let e : i ≡ 9 = omega (arith, r.few) in
      r.scale ∙ ap (λ (k : ℕ). 128 ^ k) e

  pub nine_then : {v : Result Varint Fault} → 9 ≤ i → v ≡ tenth_at l (at + 9) value → v ≡ read_at l at
  unfolding read_at tenth_at
  nine_then h e =
      let k : i ≡ 9 = omega (arith, r.few) in
      let f : front (drop at l) ≡ lift value (2 ^ 63) 9 (front (drop (at + 9) l)) = rw (unit_nine h, k) at r.same in
      e ∙ (tenth_lift at value (front (drop (at + 9) l)) ∙ ap (outcome at) (sym f))

  module _ (h : at + i < length l) (n : i < 9) where
    pub read-value : get_or l (at + i) 0 < 128 → value_at (value + unit * get_or l (at + i) 0) (at + i + 1) ≡ read_at l at
    unfolding read_at
    read-value k =
        let f : front (drop at l) ≡ num (value + unit * get_or l (at + i) 0) (i + 1) = r.same ∙ rw (front-last l (at + i) h k) in
        let e : at + (i + 1) ≡ at + i + 1 = omega arith in
        rw (f, fits-yes (value + unit * get_or l (at + i) 0) (i + 1) (omega arith) (omega (arith, sum_small n k)), e)

    pub read_next : {b : ℕ} → b ≡ get_or l (at + i) 0 → 128 ≤ b → b < 256 → Reading l at (value + unit * (b - 128)) (unit * 128) (i + 1)
    read_next {b} w k s =
        let m : unit * (b - 128) ≤ unit * 127 = mul-le-mul_left unit (omega arith) in
        let g : 128 ≤ get_or l (at + i) 0 = omega arith in
        let e : at + i + 1 ≡ at + (i + 1) = omega arith in
        record {
          few = omega arith;
          within = omega arith;
          scale = rw (add-one, pow-suc, r.scale);
          small = omega (arith, r.small, m);
          same = r.same ∙ (rw (front-more l (at + i) h g, e, ← w) (lift_more value unit i (b - 128) (front (drop (at + (i + 1)) l))));
        }

-- the short ways: no byte, one, one and no other, two
pub short_none : (l : List ℕ) (at : ℕ) → length l ≤ at → Err CutShort ≡ read_at l at
unfolding read_at
short_none l at h = rw (front_none l at h)

module _ (l : List ℕ) (at : ℕ) (h : at < length l) where
  pub short-one : get_or l at 0 < 128 → value_at (get_or l at 0) (at + 1) ≡ read_at l at
  unfolding read_at
  short-one k = rw (front-last l at h k, fits-yes (get_or l at 0) 1 (omega arith) (omega arith))

  pub short_two : 128 ≤ get_or l at 0 → get_or l at 0 < 256 → 2 ≤ length l - at → get_or l (at + 1) 0 < 128
      → value_at (get_or l at 0 - 128 + 128 * get_or l (at + 1) 0) (at + 2) ≡ read_at l at
  unfolding read_at
  short_two k s m n =
      rw (front-more l at h k, front-last l (at + 1) (omega arith) n, fits-yes (get_or l at 0 - 128 + 128 * get_or l (at + 1) 0) 2 (omega arith) (omega arith))
