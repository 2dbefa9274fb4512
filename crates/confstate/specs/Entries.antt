-- What reader and writer answer and what they leave, of any words and bytes: document 02, k) (crates/rules/specs/Message.antt) with the words of a
-- CONFSTATE. Assumes nothing.
use Rattle.std.specs.Prelude.{ℕ, ◌+◌, ◌^◌, cond, List, ◌++◌, eqb, ltb, length, drop}
use Rattle.rules.specs.Message.{read, number_read, message_read, encoded, number_written, buffer_written}
use Rattle.confstate.specs.Words.{conf_state_words, message_in, is_conf_state}

-- ** The reader, of bytes l and the words given

-- 100: less than 261 words are lent
unfoldable pub read_answer : List ℕ → ℕ → ℕ
read_answer l room = cond (ltb room 261) 100 (number_read (read l))

-- the message, which of a refused one is empty, and the words after it as they were
unfoldable pub read_leaves : List ℕ → List ℕ → List ℕ
read_leaves l old = cond (ltb (length old) 261) old (conf_state_words (message_read (read l)) ++ drop 261 old)

-- ** The writer, of words and the bytes given

-- 1: the words are no CONFSTATE
unfoldable pub write_number : List ℕ → ℕ → ℕ
write_number ws room = cond (is_conf_state ws) (number_written (message_in ws) room) 1

-- the length written, or 2^32 and the number
unfoldable pub write_answer : List ℕ → ℕ → ℕ
write_answer ws room = cond (eqb (write_number ws room) 0) (length (encoded (message_in ws))) (2 ^ 32 + write_number ws room)

unfoldable pub write_leaves : List ℕ → List ℕ → List ℕ
write_leaves ws old = cond (is_conf_state ws) (buffer_written (message_in ws) old) old
