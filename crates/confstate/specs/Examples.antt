-- What reader and writer answer and leave, tried on small messages: each line rules out a program that does otherwise. What bytes mean is tried in
-- crates/rules/specs/MessageExamples.antt. Assumes nothing.
use Rattle.std.specs.Prelude.{ℕ, ◌+◌, ◌^◌, ◌≡◌, List, [], ◌∷◌, ◌++◌, replicate}
use Rattle.std.proofs.Math.Path.{refl}
use Rattle.rules.specs.Wire.{front, fits, varint_in, payload_in, field_in, row_of, row, groups, varint_of}
use Rattle.rules.specs.Message.{fronts, gathered, packed, entered, read_row, read, packed_of, list_field, flag_field, encoded, overlong, number_written, buffer_written}
use Rattle.confstate.specs.Words.{list_words, conf_state_words, list_in, message_in, is_conf_state}
use Rattle.confstate.specs.Entries.{read_answer, read_leaves, write_number, write_answer, write_leaves}

-- ** The reader

-- 260 words are too few: 100, and they stay
pub no_words : (read_answer (8 ∷ 7 ∷ []) 260 ≡ 100) × (read_leaves (8 ∷ 7 ∷ []) (replicate 260 5) ≡ replicate 260 5)
unfolding read_answer read_leaves
no_words = (refl, refl)

module _ where
  -- voters (7): the id, 63 zeros, the count; three empty lists and the flag; the word after them is kept
  pub one-read : (read_answer (8 ∷ 7 ∷ []) 262 ≡ 0) × (read_leaves (8 ∷ 7 ∷ []) (replicate 262 5) ≡ 7 ∷ (replicate 63 0 ++ (1 ∷ (replicate 196 0 ++ (5 ∷ [])))))
  unfolding read_answer read_leaves conf_state_words list_words read read_row row row_of field_in payload_in varint_in front fits entered packed fronts gathered
  one-read = (refl, refl)

  -- each list at its place, and the flag, which is 1 whatever the number
  pub all_read : read_leaves (8 ∷ 1 ∷ 16 ∷ 2 ∷ 24 ∷ 3 ∷ 32 ∷ 4 ∷ 40 ∷ 9 ∷ []) (replicate 261 5)
      ≡ 1 ∷ (replicate 63 0 ++ (1 ∷ 2 ∷ (replicate 63 0 ++ (1 ∷ 3 ∷ (replicate 63 0 ++ (1 ∷ 4 ∷ (replicate 63 0 ++ (1 ∷ 1 ∷ []))))))))
  unfolding read_leaves conf_state_words list_words read read_row row row_of field_in payload_in varint_in front fits entered packed fronts gathered
  all_read = refl

  -- a fault after a list: nothing of it is left
  pub refused_empty : (read_answer (8 ∷ 7 ∷ 8 ∷ []) 261 ≡ 28) × (read_leaves (8 ∷ 7 ∷ 8 ∷ []) (replicate 261 5) ≡ replicate 261 0)
  unfolding read_answer read_leaves conf_state_words list_words read read_row row row_of field_in payload_in varint_in front fits entered packed fronts gathered
  refused_empty = (refl, refl)

-- ** The writer

-- voters (7), and a word that its count leaves out
abbrev seven : List ℕ
seven = 7 ∷ 9 ∷ (replicate 62 0 ++ (1 ∷ replicate 196 0))

-- the length, and the bytes after the message kept; a byte too few is 31, and none is touched
pub one_written : (write_answer seven 4 ≡ 3) × (write_leaves seven (9 ∷ 9 ∷ 9 ∷ 9 ∷ []) ≡ 10 ∷ 1 ∷ 7 ∷ 9 ∷ []) × (write_answer seven 2 ≡ 2 ^ 32 + 31)
    × (write_leaves seven (9 ∷ 9 ∷ []) ≡ 9 ∷ 9 ∷ [])
unfolding write_answer write_number write_leaves is_conf_state message_in list_in number_written buffer_written overlong encoded list_field flag_field packed_of varint_of groups
one_written = (refl, refl, refl, refl)

-- 260 words, and a flag of 2, are 1; a count of 65 is 2, in a buffer of no byte too
pub not_written : (write_answer (replicate 260 0) 9 ≡ 2 ^ 32 + 1) × (write_answer (replicate 260 0 ++ (2 ∷ [])) 9 ≡ 2 ^ 32 + 1)
    × (write_answer (replicate 259 0 ++ (65 ∷ 0 ∷ [])) 0 ≡ 2 ^ 32 + 2) × (write_leaves (replicate 259 0 ++ (65 ∷ 0 ∷ [])) (9 ∷ []) ≡ 9 ∷ [])
unfolding write_answer write_number write_leaves is_conf_state message_in list_in number_written buffer_written overlong
not_written = (refl, refl, refl, refl)
