-- Messages worked by hand, each line ruling out a reader or a writer that does otherwise. Assumes nothing.
use Rattle.std.specs.Prelude.{ℕ, ◌-◌, ◌^◌, true, false, ◌≡◌, List, [], ◌∷◌, ◌++◌, replicate}
use Rattle.std.proofs.Math.Path.{refl}
use Rattle.rules.specs.State.{ConfState}
use Rattle.rules.specs.Apply.{no_conf_state}
use Rattle.rules.specs.Wire.{bad, found, front, fits, varint_in, payload_in, field_in, row_of, row, groups, varint_of}
use Rattle.rules.specs.MessageFaults.{packed_faults, meaning_faults, faults}
use Rattle.rules.specs.Message.{fronts, gathered, packed, entered, read_row, read, refused, taken, packed_of, list_field, flag_field, encoded, overlong, number_written, buffer_written}

-- ** Varints

-- 300 is 0b10_0101100, and 2^64 - 1 takes ten bytes
pub varints_written : (varint_of 300 ≡ 172 ∷ 2 ∷ []) × (varint_of (2 ^ 64 - 1) ≡ replicate 9 255 ++ (1 ∷ []))
unfolding varint_of groups
varints_written = (refl, refl)

-- the bytes after it do not count; a longer form is read too
pub varints_read : (varint_in (172 ∷ 2 ∷ 7 ∷ []) ≡ found 300 2) × (varint_in (129 ∷ 0 ∷ []) ≡ found 1 2)
unfolding varint_in front fits
varints_read = (refl, refl)

-- a tenth byte of 1 is the last that fits, and one of 2 is over 64 bits; eleven bytes are over ten; cut after twelve is cut
pub varints_refused : (varint_in (replicate 9 128 ++ (1 ∷ [])) ≡ found (2 ^ 63) 10) × (varint_in (replicate 9 128 ++ (2 ∷ [])) ≡ bad 29)
    × (varint_in (replicate 10 128 ++ (0 ∷ [])) ≡ bad 29) × (varint_in (replicate 12 128) ≡ bad 28)
unfolding varint_in front fits
varints_refused = (refl, refl, refl, refl)

-- ** The writer

abbrev small : ConfState
small = record { voters = 1 ∷ 300 ∷ []; learners = []; voters_outgoing = 2 ∷ 2 ∷ []; learners_next = 0 ∷ []; auto_leave = true }

-- an empty list is not written; repeats and zeros are
pub written : encoded small ≡ 10 ∷ 3 ∷ 1 ∷ 172 ∷ 2 ∷ 26 ∷ 2 ∷ 2 ∷ 2 ∷ 34 ∷ 1 ∷ 0 ∷ 40 ∷ 1 ∷ []
unfolding encoded list_field flag_field packed_of varint_of groups
written = refl

pub nothing_written : encoded no_conf_state ≡ []
unfolding encoded list_field flag_field
nothing_written = refl

abbrev voters : List ℕ → ConfState
voters xs = record { voters = xs; learners = []; voters_outgoing = []; learners_next = []; auto_leave = false }

-- 65 ids are 2 however small the buffer is; a byte too few is 31, and the buffer stays; the bytes after the message stay
pub writer_refuses : (number_written (voters (replicate 65 1)) 0 ≡ 2) × (number_written (voters (7 ∷ [])) 2 ≡ 31) × (buffer_written (voters (7 ∷ [])) (9 ∷ 9 ∷ []) ≡ 9 ∷ 9 ∷ [])
    × (buffer_written (voters (7 ∷ [])) (9 ∷ 9 ∷ 9 ∷ 9 ∷ []) ≡ 10 ∷ 1 ∷ 7 ∷ 9 ∷ [])
unfolding number_written buffer_written overlong encoded list_field flag_field packed_of varint_of groups
writer_refuses = (refl, refl, refl, refl)

-- ** The reader

module _ where
  -- single, an unknown field, packed, single: in their order, none lost
  pub mixed : read (8 ∷ 7 ∷ 50 ∷ 2 ∷ 9 ∷ 9 ∷ 10 ∷ 2 ∷ 8 ∷ 9 ∷ 8 ∷ 7 ∷ []) ≡ taken (voters (7 ∷ 8 ∷ 9 ∷ 7 ∷ []))
  unfolding read read_row row row_of field_in payload_in varint_in front fits entered packed fronts gathered
  mixed = refl

  -- unknown fields of each wire type that can be skipped: 48 a varint, 49 eight bytes, 53 four
  pub unknown : read (48 ∷ 1 ∷ 49 ∷ 0 ∷ 0 ∷ 0 ∷ 0 ∷ 0 ∷ 0 ∷ 0 ∷ 0 ∷ 53 ∷ 0 ∷ 0 ∷ 0 ∷ 0 ∷ 8 ∷ 1 ∷ []) ≡ taken (voters (1 ∷ []))
  unfolding read read_row row row_of field_in payload_in varint_in front fits entered packed fronts gathered
  unknown = refl

  -- the last flag decides, and 2 is true
  pub last-flag : (read (40 ∷ 1 ∷ 40 ∷ 0 ∷ []) ≡ taken no_conf_state) × (read (40 ∷ 0 ∷ 40 ∷ 2 ∷ []) ≡ read (40 ∷ 1 ∷ []))
  unfolding read read_row row row_of field_in payload_in varint_in front fits entered packed fronts gathered
  last-flag = (refl, refl)

  -- 28: a tag alone; a packed number past its field's end, though a byte follows that field; a length of 2^64 - 1
  pub cut_short : (read (8 ∷ []) ≡ refused 28) × (read (10 ∷ 1 ∷ 128 ∷ 0 ∷ []) ≡ refused 28) × (read (10 ∷ (replicate 9 255 ++ (1 ∷ 1 ∷ []))) ≡ refused 28)
  unfolding read read_row row row_of field_in payload_in varint_in front fits entered packed fronts gathered
  cut_short = (refl, refl, refl)

  -- 29: each of the wire types 3, 4, 6, 7, at once; voters as four bytes; the flag packed; the numbers 0 and 2^29
  pub wrong_type : (read (11 ∷ []) ≡ refused 29) × (read (12 ∷ []) ≡ refused 29) × (read (14 ∷ []) ≡ refused 29) × (read (15 ∷ []) ≡ refused 29)
      × (read (13 ∷ 0 ∷ 0 ∷ 0 ∷ 0 ∷ []) ≡ refused 29) × (read (42 ∷ 1 ∷ 1 ∷ []) ≡ refused 29) × (read (0 ∷ 1 ∷ []) ≡ refused 29)
      × (read (128 ∷ 128 ∷ 128 ∷ 128 ∷ 16 ∷ 1 ∷ []) ≡ refused 29)
  unfolding read read_row row row_of field_in payload_in varint_in front fits entered packed fronts gathered
  wrong_type = (refl, refl, refl, refl, refl, refl, refl, refl)

  -- within a field the lower number: cut and of a wrong type, cut and of number 0, over ten bytes and then cut: 28
  pub lower_wins : (read (13 ∷ 0 ∷ 0 ∷ 0 ∷ []) ≡ refused 28) × (read (0 ∷ []) ≡ refused 28) × (read (10 ∷ 12 ∷ (replicate 10 128 ++ (0 ∷ 128 ∷ []))) ≡ refused 28)
  unfolding read read_row row row_of field_in payload_in varint_in front fits entered packed fronts gathered
  lower_wins = (refl, refl, refl)

  -- 30: a 65th id, single or packed; where the same field has a number over 64 bits, 29
  pub over_64 : (read (10 ∷ 64 ∷ (replicate 64 1 ++ (8 ∷ 1 ∷ []))) ≡ refused 30) × (read (10 ∷ 65 ∷ replicate 65 1) ≡ refused 30)
      × (read (10 ∷ 75 ∷ (replicate 65 1 ++ (replicate 9 255 ++ (2 ∷ [])))) ≡ refused 29)
  unfolding read read_row row row_of field_in payload_in varint_in front fits entered packed fronts gathered
  over_64 = (refl, refl, refl)

  -- the first faulty field wins: a group, then a cut field
  pub first_wins : read (11 ∷ 10 ∷ 9 ∷ []) ≡ refused 29
  unfolding read read_row row row_of field_in payload_in varint_in front fits entered packed fronts gathered
  first_wins = refl

-- ** Several faults in one field

-- over ten bytes, and then cut; a 65th id, and one over 64 bits; cut, and of number 0
pub several_faults : (faults (10 ∷ 12 ∷ (replicate 10 128 ++ (0 ∷ 128 ∷ []))) no_conf_state ≡ 29 ∷ 28 ∷ [])
    × (faults (10 ∷ 74 ∷ (replicate 64 1 ++ (replicate 9 255 ++ (2 ∷ [])))) no_conf_state ≡ 29 ∷ 30 ∷ []) × (faults (0 ∷ []) no_conf_state ≡ 28 ∷ 29 ∷ [])
unfolding faults packed_faults meaning_faults payload_in varint_in front fits fronts
several_faults = (refl, refl, refl)
