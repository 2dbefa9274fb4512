-- What a reader finds at a place of bytes: the varint of crates/rules/specs/Wire.antt, as what it returns and as one flat record. Assumes nothing.
use Rattle.std.specs.Prelude.{ℕ, ◌+◌, ◌*◌, ◌^◌, cond, List, drop, Option, Some, None, Result, Ok, Err}
use Rattle.rules.specs.Wire.{Front, cut, num, front, fits}
use Rattle.wire.specs.declared.Varint.{Varint}
use Rattle.wire.specs.declared.Fault.{Fault}
use Rattle.wire.specs.declared.Fault.TheVariants.{CutShort, Malformed}

-- 0 and a number, or the fault's number; and the place after it, of a cut one its own
pub record Told : Type 0 where
  pub fault : ℕ
  pub value : ℕ
  pub next : ℕ

-- 28, and the place itself; 29 or the number, and the place after it
abbrev pub placed : ℕ → Front → Told
placed at cut = record { fault = 28; value = 0; next = at }
placed at (num v n) = cond (fits v n) (record { fault = 0; value = v; next = at + n }) (record { fault = 29; value = 0; next = at + n })

unfoldable pub varint_at : List ℕ → ℕ → Told
varint_at l at = placed at (front (drop at l))

-- ** What is returned

-- a fault's number
abbrev pub number_of : Fault → ℕ
number_of CutShort = 28
number_of (Malformed n) = 29

-- the number and the place after it, or the fault
abbrev pub outcome : ℕ → Front → Result Varint Fault
outcome at cut = Err CutShort
outcome at (num v n) = cond (fits v n) (Ok (record { value = v; next = at + n })) (Err (Malformed (at + n)))

unfoldable pub read_at : List ℕ → ℕ → Result Varint Fault
read_at l at = outcome at (front (drop at l))

-- the same, told as a flat record: told at (read_at l at) is varint_at l at (proofs/Found.antt)
abbrev pub told_fault : ℕ → Fault → Told
told_fault at CutShort = record { fault = 28; value = 0; next = at }
told_fault at (Malformed n) = record { fault = 29; value = 0; next = n }

abbrev pub told : ℕ → Result Varint Fault → Told
told at (Ok v) = record { fault = 0; value = v.value; next = v.next }
told at (Err f) = told_fault at f

-- ** Its parts

-- nine bytes, worth v, before what stands there
abbrev pub after : ℕ → Front → Front
after v cut = cut
after v (num w n) = num (v + 2 ^ 63 * w) (9 + n)

-- nine bytes, worth v, before place `at`, and what stands there
abbrev pub tenth : ℕ → ℕ → Front → Result Varint Fault
tenth at v cut = Err CutShort
tenth at v (num w n) = cond (fits (v + 2 ^ 63 * w) (9 + n)) (Ok (record { value = v + 2 ^ 63 * w; next = at + n })) (Err (Malformed (at + n)))

unfoldable pub tenth_at : List ℕ → ℕ → ℕ → Result Varint Fault
tenth_at l at v = tenth at v (front (drop at l))

-- the place after what stands at `at`, where it ends
abbrev pub past : ℕ → Front → Option ℕ
past at cut = None
past at (num v n) = Some (at + n)

unfoldable pub end_of : List ℕ → ℕ → Option ℕ
end_of l at = past at (front (drop at l))
