-- Every number that the reader takes is below 2^64. Assumes nothing.
use Prim.Native.Nat.{ℕ, ◌+◌, ◌-◌, ◌/◌, ◌%◌, ◌^◌, ◌<◌}
use mathlib.Core.Path.{◌≡◌, refl, subst}
use mathlib.Core.Bool.{Bool, true, false, cond}
use mathlib.Core.List.{List, [], ◌∷◌, ◌++◌}
use borrow.Author.Tests.{ltb-true}
use lib.Dec.{eqb, leb, ltb}
use lib.ListN.{length, take, drop}
use Rattle.rules.specs.State.{ConfState}
use Rattle.rules.specs.Wire.{Front, cut, num, front, Found, bad, found, fits, judged, varint_in, Payload, varint, fixed, bytes, single, fixed_in, length_in, payload_in, Field, numbered, held, tagged, field_in}
use Rattle.rules.specs.Message.{Below, Below64, Numbers, faulty, all, fronts, lower, before, gathered, packed, numbers, taken, read, message_read}
use Rattle.rules.proofs.Sets.{and_right}
use Rattle.rules.proofs.Fields.{InNumbers, Each, Keeps, read-each, message-each}

-- ** What is found

abbrev InFound : {A : Type 0} → (A → Type 0) → Found A → Type 0
InFound P (bad e) = Unit {0}
InFound P (found x n) = P x

in_cond : {A : Type 0} (P : A → Type 0) (t : Bool) (x : A) (n e : ℕ) → (t ≡ true → P x) → InFound P (cond t (found x n) (bad e))
in_cond P true x n e h = h refl
in_cond P false x n e h = tt

-- ** A varint

abbrev BelowFound : Found ℕ → Type 0
BelowFound = InFound (λ v. v < 2 ^ 64)

below-judged : (f : Front) → BelowFound (judged f)
unfolding fits
below-judged cut = tt
below-judged (num v n) = in_cond (λ w. w < 2 ^ 64) (fits v n) v n 29 (λ t. ltb-true v (2 ^ 64) (and_right (leb n 10) (ltb v (2 ^ 64)) t))

below-varint : (l : List ℕ) → BelowFound (varint_in l)
unfolding varint_in
below-varint l = below-judged (front l)

-- ** A field

abbrev BelowPayload : Payload → Type 0
BelowPayload (varint v) = v < 2 ^ 64
BelowPayload fixed = Unit {0}
BelowPayload (bytes l) = Unit {0}

below-single : (x : Found ℕ) → BelowFound x → InFound BelowPayload (single x)
below-single (bad e) h = tt
below-single (found v n) h = h

below-fixed : (n : ℕ) (l : List ℕ) → InFound BelowPayload (fixed_in n l)
below-fixed n l = in_cond BelowPayload (leb n (length l)) fixed n 28 (λ t. tt)

below_length : (l : List ℕ) (x : Found ℕ) → InFound BelowPayload (length_in l x)
below_length l (bad e) = tt
below_length l (found v n) = in_cond BelowPayload (leb v (length l - n)) (bytes (take v (drop n l))) (n + v) 28 (λ t. tt)

below-payload : (w : ℕ) (l : List ℕ) → InFound BelowPayload (payload_in w l)
unfolding payload_in
below-payload w l = by (eqb w 0) (eqb w 1) (eqb w 2) (eqb w 5)
  where
    by : (p q r s : Bool) → InFound BelowPayload
        (cond p (single (varint_in l)) (cond q (fixed_in 8 l) (cond r (length_in l (varint_in l)) (cond s (fixed_in 4 l) (bad 29)))))
    by true q r s = below-single (varint_in l) (below-varint l)
    by false true r s = below-fixed 8 l
    by false false true s = below_length l (varint_in l)
    by false false false true = below-fixed 4 l
    by false false false false = tt

abbrev BelowField : Found Field → Type 0
BelowField = InFound (λ f. BelowPayload f.payload)

below-held : (f n : ℕ) (x : Found Payload) → InFound BelowPayload x → BelowField (held f n x)
below-held f n (bad e) h = tt
below-held f n (found p k) h = in_cond (λ i. BelowPayload i.payload) (numbered f) (record { number = f; payload = p }) (n + k) 29 (λ t. h)

below-tagged : (l : List ℕ) (x : Found ℕ) → BelowField (tagged l x)
below-tagged l (bad e) = tt
below-tagged l (found t n) = below-held (t / 8) n (payload_in (t % 8) (drop n l)) (below-payload (t % 8) (drop n l))

below_field : (l : List ℕ) → BelowField (field_in l)
unfolding field_in
below_field l = below-tagged l (varint_in l)

-- ** The numbers of a list

below-lower : (e : ℕ) (x : Numbers) → InNumbers Below (lower e x)
below-lower e (faulty d) = tt
below-lower e (all xs) = tt

below-before : (x : Found ℕ) (r : Numbers) → BelowFound x → InNumbers Below r → InNumbers Below (before x r)
below-before (bad e) r h k = below-lower e r
below-before (found v n) (faulty d) h k = tt
below-before (found v n) (all xs) h k = (h, k)

below-gathered : (fs : List Front) → InNumbers Below (gathered fs)
unfolding gathered
below-gathered [] = tt
below-gathered (f ∷ fs) = below-before (judged f) (gathered fs) (below-judged f) (below-gathered fs)

below-numbers : (p : Payload) → BelowPayload p → InNumbers Below (numbers p)
unfolding packed
below-numbers (varint v) h = (h, tt)
below-numbers fixed h = tt
below-numbers (bytes l) h = below-gathered (fronts l)

pub below_append : (xs ys : List ℕ) → Below xs → Below ys → Below (xs ++ ys)
below_append [] ys h k = k
below_append (x ∷ xs) ys h k = (h.0, below_append xs ys h.1 k)

-- ** The message

keeps_below : (l : List ℕ) (f : Field) (n : ℕ) → field_in l ≡ found f n → Keeps Below (numbers f.payload)
keeps_below l f n e old h xs d s = below_append old xs h (subst (InNumbers Below) d (below-numbers f.payload (subst BelowField e (below_field l))))

each_below : (m : ConfState) → Each Below m → Below64 m
each_below m h = record { voters = h.0; learners = h.1.0; voters_outgoing = h.1.1.0; learners_next = h.1.1.1 }

pub read_below : (l : List ℕ) {m : ConfState} → read l ≡ taken m → Below64 m
read_below l {m} e = each_below m (read-each Below tt keeps_below l e)

-- what was read, a refused message being empty
pub message-below : (l : List ℕ) → Below64 (message_read (read l))
message-below l = each_below (message_read (read l)) (message-each Below tt keeps_below l)
