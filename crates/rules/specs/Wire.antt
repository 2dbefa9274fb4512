-- The wire: what document 02, k) takes from the public Protocol Buffers encoding document, with k)'s refusals 28 and 29. A byte is a number below
-- 256. Assumes nothing.
use Rattle.std.specs.Prelude.{ℕ, zero, suc, ◌+◌, ◌-◌, ◌*◌, ◌/◌, ◌%◌, ◌^◌, Bool, ◌&&◌, not, cond, List, [], ◌∷◌, ◌++◌, eqb, leb, ltb, length, take, drop}

-- ** A varint

-- What stands at the front of bytes: nothing that ends, or a number, of any size, and how many bytes it takes.
pub data Front : Type 0 where
  cut : Front
  num : ℕ → ℕ → Front

-- seven bits, below those of the bytes that follow
abbrev pub more : ℕ → Front → Front
more low cut = cut
more low (num v n) = num (low + 128 * v) (suc n)

-- A varint: each byte holds seven bits of the number, the lowest first; its highest bit, worth 128, says that another byte follows.
unfoldable pub front : List ℕ → Front
front [] = cut
front (b ∷ bs) = cond (ltb b 128) (num b 1) (more (b - 128) (front bs))

-- what a reader finds at the front of bytes: a refusal, or something and how many bytes it takes
pub data Found (A : Type 0) : Type 0 where
  bad : ℕ → Found A
  found : A → ℕ → Found A

-- "29, a varint over ten bytes or 64 bits"
unfoldable pub fits : ℕ → ℕ → Bool
fits v n = leb n 10 && ltb v (2 ^ 64)

-- "28, cut short"; a varint that goes on after ten bytes and is cut there is that too
abbrev pub judged : Front → Found ℕ
judged cut = bad 28
judged (num v n) = cond (fits v n) (found v n) (bad 29)

unfoldable pub varint_in : List ℕ → Found ℕ
varint_in l = judged (front l)

-- ** A field

-- What a field holds, by its wire type: a varint (0), eight or four bytes (1, 5), so many bytes (2).
pub data Payload : Type 0 where
  varint : ℕ → Payload
  fixed : Payload
  bytes : List ℕ → Payload

abbrev pub single : Found ℕ → Found Payload
single (bad e) = bad e
single (found v n) = found (varint v) n

abbrev pub fixed_in : ℕ → List ℕ → Found Payload
fixed_in n l = cond (leb n (length l)) (found fixed n) (bad 28)

-- the length, a varint, and as many bytes
abbrev pub length_in : List ℕ → Found ℕ → Found Payload
length_in l (bad e) = bad e
length_in l (found v n) = cond (leb v (length l - n)) (found (bytes (take v (drop n l))) (n + v)) (bad 28)

-- "29, .. wire type 3, 4, 6 or 7"
unfoldable pub payload_in : ℕ → List ℕ → Found Payload
payload_in w l =
    cond (eqb w 0) (single (varint_in l))
    (cond (eqb w 1) (fixed_in 8 l)
    (cond (eqb w 2) (length_in l (varint_in l))
    (cond (eqb w 5) (fixed_in 4 l) (bad 29))))

pub record Field : Type 0 where
  pub number : ℕ
  pub payload : Payload

-- "29, .. field number 0 or over 2^29 − 1"
abbrev pub numbered : ℕ → Bool
numbered f = not (eqb f 0) && ltb f (2 ^ 29)

-- a field whose tag takes n bytes; a fault of its payload comes before one of its number, since 28 is lower than 29
abbrev pub held : ℕ → ℕ → Found Payload → Found Field
held f n (bad e) = bad e
held f n (found p k) = cond (numbered f) (found (record { number = f; payload = p }) (n + k)) (bad 29)

-- A tag is a varint: eight times the field's number, and the wire type.
abbrev pub tagged : List ℕ → Found ℕ → Found Field
tagged l (bad e) = bad e
tagged l (found t n) = held (t / 8) n (payload_in (t % 8) (drop n l))

unfoldable pub field_in : List ℕ → Found Field
field_in l = tagged l (varint_in l)

-- ** A message

-- A message is a row of fields, one after the other; it ends with the bytes, or at a fault.
pub data Row : Type 0 where
  end : Row
  fault : ℕ → Row
  next : Field → Row → Row

abbrev pub onward : Found Field → (ℕ → Row) → Row
onward (bad e) rest = fault e
onward (found f n) rest = next f (rest n)

-- the row of at most k fields; each takes a byte or more, so as many as there are bytes are enough
unfoldable pub row_of : ℕ → List ℕ → Row
row_of zero [] = end
row_of zero (b ∷ bs) = fault 28
row_of (suc k) [] = end
row_of (suc k) (b ∷ bs) = onward (field_in (b ∷ bs)) (λ n. row_of k (drop n (b ∷ bs)))

unfoldable pub row : List ℕ → Row
row l = row_of (length l) l

-- ** What is written

-- the bytes of a number, at most k of them
unfoldable pub groups : ℕ → ℕ → List ℕ
groups zero n = []
groups (suc k) n = cond (ltb n 128) (n ∷ []) ((128 + n % 128) ∷ groups k (n / 128))

-- the shortest varint of a number below 2 ^ 64
unfoldable pub varint_of : ℕ → List ℕ
varint_of n = groups 10 n

-- a tag, of a field's number and a wire type
abbrev pub tag_of : ℕ → ℕ → List ℕ
tag_of f w = varint_of (8 * f + w)

-- a field of wire type 2 with these bytes
abbrev pub length_field : ℕ → List ℕ → List ℕ
length_field f l = tag_of f 2 ++ (varint_of (length l) ++ l)
