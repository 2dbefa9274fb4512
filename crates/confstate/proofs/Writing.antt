-- Laws of what the writer puts: numbers, a list's field, the flag's, the message; and what it answers. Assumes nothing.
use Prim.Native.Nat.{ℕ, zero, suc, ◌+◌, ◌*◌, ◌^◌, ◌≤◌, ◌<◌}
use mathlib.Core.Path.{◌≡◌, refl, ap, sym, ◌∙◌}
use mathlib.Core.Bool.{Bool, true, false, cond}
use mathlib.Core.List.{List, [], ◌∷◌, ◌++◌}
use native.Mathlib.Numerals.{add-one}
use native.Mathlib.Omega.{arith}
use borrow.Author.Tests.{lt-ltb, le-ltb}
use lib.Dec.{eqb, ltb}
use lib.ListN.{length, drop, get_or, set, length-append, length-set}
use lib.Seq.{sets, length-sets}
use Rattle.text.specs.Put.{Put, last}
use Rattle.text.proofs.Laws.{sets_append, put_none, put_then, put-length, put_whole}
use Rattle.std.specs.Prelude.{Result, Err}
use Rattle.rules.specs.State.{ConfState}
use Rattle.rules.specs.Wire.{groups, varint_of}
use Rattle.rules.specs.Message.{packed_of, list_field, flag_field, encoded, overlong, number_written, buffer_written}
use Rattle.confstate.specs.Words.{at, list_in, message_in, is_conf_state}
use Rattle.confstate.specs.Entries.{write_number, write_answer, write_leaves}
use Rattle.confstate.specs.Sizes.{refusal_of, Writable, Listable, sizes_of}
use Rattle.confstate.specs.Unwritten.{unwritten_number, said, answered}
use Rattle.confstate.specs.declared.write.Sizes.{Sizes}
use Rattle.confstate.specs.declared.write.Unwritten.{Unwritten}
use Rattle.confstate.specs.declared.write.Unwritten.TheVariants.{NoConfState, LongList, SmallOutput}
use Rattle.confstate.proofs.Sizing.{packed-at, packed-past, list_none, list_some, block_1, block_2, block_3, block_4, is-conf-state}

-- a text that fits ends in the slice
put-end : {l x m : List ℕ} {p q : ℕ} → length l ≤ last → p + length x ≤ length l → Put l p x m q → q ≡ p + length x
put-end h k f = omega (arith, f.end)

-- and what comes after it fits as it did before
pub put-room : {l x m : List ℕ} {p q : ℕ} → length l ≤ last → (y : List ℕ) → p + length (x ++ y) ≤ length l → Put l p x m q → q + length y ≤ length m
put-room {l} {x} {m} h y k f = omega (arith, f.end, put-length f, length-append x y)

-- ** Numbers

-- the loop that puts the numbers xs has come to place i
pub record Packs (xs old : List ℕ) (at : ℕ) (out : List ℕ) (p i : ℕ) : Type 0 where
  pub within : i ≤ length xs
  pub fits : length old ≤ last
  pub room : at + length (packed_of xs) ≤ length old
  pub bytes : sets out p (packed_of (drop i xs)) ≡ sets old at (packed_of xs)
  pub end : p + length (packed_of (drop i xs)) ≡ at + length (packed_of xs)

pub packs_start : {xs old : List ℕ} {at : ℕ} → length old ≤ last → at + length (packed_of xs) ≤ length old → Packs xs old at old at 0
packs_start h k = record { within = omega arith; fits = h; room = k; bytes = refl; end = refl }

module _ {xs old : List ℕ} {at : ℕ} {out : List ℕ} {p i : ℕ} (s : Packs xs old at out p i) where
  pub packs_length : length out ≡ length old
  packs_length = sym (length-sets out p (packed_of (drop i xs))) ∙ (ap length s.bytes ∙ length-sets old at (packed_of xs))

  pub packs_room : i < length xs → p + length (varint_of (get_or xs i 0)) ≤ length out
  packs_room h =
      omega (arith, s.end, s.room, packs_length, ap length (packed-at xs i h), length-append (varint_of (get_or xs i 0)) (packed_of (drop (i + 1) xs)))

  pub packs_next : i < length xs → {new : List ℕ} {q : ℕ} → Put out p (varint_of (get_or xs i 0)) new q → Packs xs old at new q (i + 1)
  packs_next h {new} {q} f =
      let e : q ≡ p + length (varint_of (get_or xs i 0)) = put-end (omega (arith, packs_length, s.fits)) (packs_room h) f in
      record {
        within = omega arith;
        fits = s.fits;
        room = s.room;
        bytes = rw (f.bytes, e) (sym (sets_append (varint_of (get_or xs i 0)) (packed_of (drop (i + 1) xs)) out p) ∙ rw (packed-at xs i h) at s.bytes);
        end = omega (arith, e, s.end, ap length (packed-at xs i h), length-append (varint_of (get_or xs i 0)) (packed_of (drop (i + 1) xs)));
      }

  pub packs_end : length xs ≤ i → Put old at (packed_of xs) out p
  packs_end h = record {
    bytes = rw (packed-past xs i h) at s.bytes;
    end = omega (arith, s.end, s.room, s.fits, ap length (packed-past xs i h));
  }

-- ** The flag's field

pub flag_none : {l : List ℕ} {at n : ℕ} → n ≡ 0 → at ≤ last → Put l at (flag_field (eqb n 1)) l at
unfolding flag_field
flag_none e h = rw e (put_none h)

flag-some : (n : ℕ) → n ≤ 1 → (n ≡ 0 → ⊥) → flag_field (eqb n 1) ≡ 40 ∷ 1 ∷ []
unfolding flag_field varint_of groups
flag-some zero h k = absurd (k refl)
flag-some (suc zero) h k = refl
flag-some (suc (suc n)) h k = absurd (omega arith)

pub flag-room : {n room : ℕ} (at : ℕ) → n ≤ 1 → (n ≡ 0 → ⊥) → at + length (flag_field (eqb n 1)) ≤ room → at + 2 ≤ room
flag-room {n} at h k r = omega (arith, ap length (flag-some n h k))

pub flag-put : {l : List ℕ} {n at : ℕ} → n ≤ 1 → (n ≡ 0 → ⊥) → at + 2 ≤ last → Put l at (flag_field (eqb n 1)) (set (set l at 40) (at + 1) 1) (at + 2)
flag-put {l} {n} {at} h k r = rw (flag-some n h k) (record { bytes = rw add-one; end = omega arith })

-- ** A list's field

-- a list that is not empty: its tag, the length, the numbers
abbrev pieces : ℕ → List ℕ → List ℕ
pieces f xs = (8 * f + 2) ∷ (varint_of (length (packed_of xs)) ++ packed_of xs)

module _ {f p packed : ℕ} {ws : List ℕ} {k room : ℕ} (s : Listable f p packed ws k room) where
  pub listing_none : {l : List ℕ} → packed ≡ 0 → room ≤ last → Put l p (list_field f (list_in ws k)) l p
  listing_none e h = rw (list_none f (list_in ws k) (sym s.size ∙ e)) (put_none (omega (arith, s.fits)))

  module _ (e : packed ≡ 0 → ⊥) where
    some : list_field f (list_in ws k) ≡ pieces f (list_in ws k)
    some = list_some f (list_in ws k) (λ z. e (s.size ∙ z)) s.tag

    pub listing-room : p + (1 + (length (varint_of packed) + length (packed_of (list_in ws k)))) ≤ room
    listing-room =
        omega (arith, s.fits, ap length some, length-append (varint_of (length (packed_of (list_in ws k)))) (packed_of (list_in ws k)), ap (λ (n : ℕ). length (varint_of n)) s.size)

    module _ (l : List ℕ) (h : length l ≤ last) (r : room ≡ length l) where
      pub listing-first : p + 1 + length (varint_of packed) ≤ length (set l p (8 * f + 2))
      listing-first = omega (arith, listing-room, length-set l p (8 * f + 2))

      module _ {m : List ℕ} {q : ℕ} (g : Put (set l p (8 * f + 2)) (p + 1) (varint_of packed) m q) {ys : List ℕ} (y : ys ≡ list_in ws k) where
        pub listing-next : q + length (packed_of ys) ≤ length m
        listing-next = omega (arith, listing-room, g.end, put-length g, length-set l p (8 * f + 2), ap (λ (l : List ℕ). length (packed_of l)) y)

        pub listing-put : {n : List ℕ} {t : ℕ} → Put m q (packed_of ys) n t → Put l p (list_field f (list_in ws k)) n t
        listing-put i =
            let b : Put l p ((8 * f + 2) ∷ []) (set l p (8 * f + 2)) (p + 1) = record { bytes = refl; end = omega (arith, listing-room) } in
            rw some (put_then h b (put_then (omega (arith, length-set l p (8 * f + 2))) (rw s.size at g) (rw y at i)))

-- ** The message

-- its fields from the i-th on
abbrev from_4 : ConfState → List ℕ
from_4 m = list_field 4 m.learners_next ++ flag_field m.auto_leave

abbrev from_3 : ConfState → List ℕ
from_3 m = list_field 3 m.voters_outgoing ++ from_4 m

abbrev from_2 : ConfState → List ℕ
from_2 m = list_field 2 m.learners ++ from_3 m

-- words, the sizes counted of them, and a slice with room for their message
abbrev pub Ready : List ℕ → Sizes → ℕ → Type 0
Ready ws s room = Writable ws × (s ≡ sizes_of (message_in ws)) × (length (encoded (message_in ws)) ≤ room)

module _ {ws : List ℕ} {z : Sizes} (l : List ℕ) (h : length l ≤ last) (r : Ready ws z (length l)) where
  room_1 : 0 + length (list_field 1 (list_in ws 0) ++ from_2 (message_in ws)) ≤ length l
  unfolding encoded message_in
  room_1 = omega (arith, r.2)

  pub ready_1 : Listable 1 0 z.voters ws 0 (length l)
  unfolding sizes_of message_in
  ready_1 = record {
    block = block_1 r.0;
    tag = omega arith;
    size = ap (λ (y : Sizes). y.voters) r.1;
    fits = omega (arith, room_1, length-append (list_field 1 (list_in ws 0)) (from_2 (message_in ws)));
  }

  module _ {m : List ℕ} {a : ℕ} (f : Put l 0 (list_field 1 (list_in ws 0)) m a) where
    room_2 : a + length (from_2 (message_in ws)) ≤ length m
    room_2 = put-room h (from_2 (message_in ws)) room_1 f

    pub ready_2 : Listable 2 a z.learners ws 65 (length m)
    unfolding sizes_of message_in
    ready_2 = record {
      block = block_2 r.0;
      tag = omega arith;
      size = ap (λ (y : Sizes). y.learners) r.1;
      fits = omega (arith, room_2, length-append (list_field 2 (list_in ws 65)) (from_3 (message_in ws)));
    }

    module _ {n : List ℕ} {b : ℕ} (g : Put m a (list_field 2 (list_in ws 65)) n b) where
      room_3 : b + length (from_3 (message_in ws)) ≤ length n
      unfolding message_in
      room_3 = put-room (omega (arith, put-length f)) (from_3 (message_in ws)) room_2 g

      pub ready_3 : Listable 3 b z.outgoing ws 130 (length n)
      unfolding sizes_of message_in
      ready_3 = record {
        block = block_3 r.0;
        tag = omega arith;
        size = ap (λ (y : Sizes). y.outgoing) r.1;
        fits = omega (arith, room_3, length-append (list_field 3 (list_in ws 130)) (from_4 (message_in ws)));
      }

      module _ {o : List ℕ} {d : ℕ} (i : Put n b (list_field 3 (list_in ws 130)) o d) where
        room_4 : d + length (from_4 (message_in ws)) ≤ length o
        unfolding message_in
        room_4 = put-room (omega (arith, put-length f, put-length g)) (from_4 (message_in ws)) room_3 i

        pub ready_4 : Listable 4 d z.next ws 195 (length o)
        unfolding sizes_of message_in
        ready_4 = record {
          block = block_4 r.0;
          tag = omega arith;
          size = ap (λ (y : Sizes). y.next) r.1;
          fits = omega (arith, room_4, length-append (list_field 4 (list_in ws 195)) (flag_field (eqb (at ws 260) 1)));
        }

        module _ {p : List ℕ} {e : ℕ} (j : Put o d (list_field 4 (list_in ws 195)) p e) where
          pub ready_5 : (at ws 260 ≤ 1) × (e + length (flag_field (eqb (at ws 260) 1)) ≤ length p)
          unfolding message_in
          ready_5 = (r.0.flag, put-room (omega (arith, put-length f, put-length g, put-length i)) (flag_field (eqb (at ws 260) 1)) room_4 j)

          pub message-put : {q : List ℕ} {t : ℕ} → Put p e (flag_field (eqb (at ws 260) 1)) q t → Put l 0 (encoded (message_in ws)) q t
          unfolding encoded message_in
          message-put k =
              put_then h f
              (put_then (omega (arith, put-length f)) g
              (put_then (omega (arith, put-length f, put-length g)) i
              (put_then (omega (arith, put-length f, put-length g, put-length i)) j k)))

-- ** What is answered

-- 31 or 0
abbrev small : List ℕ → List ℕ → ℕ
small ws old = cond (ltb (length old) (length (encoded (message_in ws)))) 31 0

answer-refused : (ws old : List ℕ) {n : ℕ} → n ≡ refusal_of ws → (n ≡ 0 → ⊥)
    → (n ≡ write_number ws (length old)) × (4294967296 + n ≡ write_answer ws (length old)) × (old ≡ write_leaves ws old)
unfolding refusal_of write_number write_answer write_leaves number_written buffer_written
answer-refused ws old {n} e h = by (is_conf_state ws) (overlong (message_in ws)) e
  where
    by : (t o : Bool) → n ≡ cond t (cond o 2 0) 1
        → (n ≡ cond t (cond o 2 (small ws old)) 1)
        × (4294967296 + n ≡ cond (eqb (cond t (cond o 2 (small ws old)) 1) 0) (length (encoded (message_in ws))) (2 ^ 32 + cond t (cond o 2 (small ws old)) 1))
        × (old ≡ cond t (cond (eqb (cond o 2 (small ws old)) 0) (encoded (message_in ws) ++ drop (length (encoded (message_in ws))) old) old) old)
    by true true e = (e, omega arith, refl)
    by true false e = absurd (h e)
    by false o e = (e, omega arith, refl)

number-some : (d : Unwritten) → unwritten_number d ≡ 0 → ⊥
number-some NoConfState e = omega arith
number-some LongList e = omega arith
number-some SmallOutput e = omega arith

pub answer-unwritten : (ws old : List ℕ) {x : Result (Unit {0}) Unwritten} {r : Result ℕ Unwritten} {d : Unwritten} → said x ≡ refusal_of ws → x ≡ Err d → r ≡ Err d
    → (said r ≡ write_number ws (length old)) × (answered r ≡ write_answer ws (length old)) × (old ≡ write_leaves ws old)
answer-unwritten ws old {x} {r} {d} e y z =
    let n : unwritten_number d ≡ refusal_of ws = sym (ap said y) ∙ e in
    let a = answer-refused ws old n (number-some d) in
    (ap said z ∙ a.0, ap answered z ∙ a.1, a.2)

module _ {ws : List ℕ} (w : Writable ws) where
  words-yes : is_conf_state ws ≡ true
  words-yes = is-conf-state ws w.words w.flag

  words-few : overlong (message_in ws) ≡ false
  unfolding overlong
  words-few = rw (le-ltb _ _ w.few.voters, le-ltb _ _ w.few.learners, le-ltb _ _ w.few.voters_outgoing, le-ltb _ _ w.few.learners_next)

  pub answer-small : (old : List ℕ) → length old < length (encoded (message_in ws))
      → (31 ≡ write_number ws (length old)) × (4294967296 + 31 ≡ write_answer ws (length old)) × (old ≡ write_leaves ws old)
  unfolding write_number write_answer write_leaves number_written buffer_written
  answer-small old h = (rw (words-yes, words-few, lt-ltb _ _ h), rw (words-yes, words-few, lt-ltb _ _ h), rw (words-yes, words-few, lt-ltb _ _ h))

  pub answer-written : (old : List ℕ) → length old ≤ last → length (encoded (message_in ws)) ≤ length old
      → {new : List ℕ} {n : ℕ} → Put old 0 (encoded (message_in ws)) new n
      → (0 ≡ write_number ws (length old)) × (n ≡ write_answer ws (length old)) × (new ≡ write_leaves ws old)
  unfolding write_number write_answer write_leaves number_written buffer_written
  answer-written old h k f =
      let a = put_whole h f k in
      (rw (words-yes, words-few, le-ltb _ _ k), rw (words-yes, words-few, le-ltb _ _ k) a.1, rw (words-yes, words-few, le-ltb _ _ k) a.0)
