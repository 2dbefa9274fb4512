-- ConfState as it travels: document 02, k), of what reader and writer answer and leave. These are the definitions that the contracts of `read`, `write` and
-- the two C entries are equal to (crates/confstate/specs/Entries.antt). Assumes nothing.
use Rattle.std.specs.Prelude.{ℕ, ◌+◌, ◌^◌, ◌<◌, ◌≡◌, false, List, eqb, length, take, drop, replicate}
use Rattle.rules.specs.Message.{Answered, Few64, encoded, message_read, read}
use Rattle.tracker.specs.Bridge.{conf_state_of}
use Rattle.tracker.specs.declared.IdList.{IdList}
use Rattle.tracker.specs.declared.ConfState.{ConfState}
use Rattle.unplug.specs.Words.{flag, words_by}
use Rattle.confstate.specs.Words.{at, message_in}
use Rattle.confstate.specs.Entries.{read_answer, read_leaves, write_answer, write_leaves, write_number}

-- ** Reading

-- the words of the CONFSTATE that is left
abbrev pub read_words : List ℕ → List ℕ → List ℕ
read_words l lent = take 261 (read_leaves l lent)

-- the struct that `restore` takes, off these words
abbrev pub list_at : List ℕ → ℕ → IdList
list_at ws k = record { ids = words_by 64 (at ws) k; len = at ws (k + 64) }

abbrev pub conf_state_in : List ℕ → ConfState
conf_state_in ws =
    record {
      voters = list_at ws 0;
      learners = list_at ws 65;
      voters_outgoing = list_at ws 130;
      learners_next = list_at ws 195;
      auto_leave = flag (at ws 260);
    }

-- Bytes l read into lent words, of which there are 261 or more.
pub record Reading (l lent : List ℕ) : Type 0 where
  -- accepted, or refused "with 28, 29 or 30"
  pub number : Answered (read_answer l (length lent))
  -- "A refused reader gives empty lists and a false flag": 261 zeros
  pub refused : eqb (read_answer l (length lent)) 0 ≡ false → read_words l lent ≡ replicate 261 0
  -- accepted or refused, the words hold what was read, and are the struct that `restore` takes
  pub holds : message_in (read_words l lent) ≡ message_read (read l)
  pub struct : conf_state_in (read_words l lent) ≡ conf_state_of (message_read (read l))
  -- at most 64 ids in each list
  pub few : Few64 (message_in (read_words l lent))
  -- the words after these are kept
  pub kept : drop 261 (read_leaves l lent) ≡ drop 261 lent

-- less than 261 words: 100, and nothing is written
abbrev pub NotRead : List ℕ → List ℕ → Type 0
NotRead l lent = (read_answer l (length lent) ≡ 100) × (read_leaves l lent ≡ lent)

-- ** Writing

-- what was written of the words ws to the bytes `old`: as many as the answer says
abbrev pub sent : List ℕ → List ℕ → List ℕ
sent ws old = take (write_answer ws (length old)) (write_leaves ws old)

-- Words ws that are written to `old`, and read again into lent words.
pub record Travels (ws old lent : List ℕ) : Type 0 where
  -- "one encoding for each message"; the bytes after it are kept
  pub bytes : sent ws old ≡ encoded (message_in ws)
  pub kept : drop (write_answer ws (length old)) (write_leaves ws old) ≡ drop (write_answer ws (length old)) old
  pub below : write_answer ws (length old) < 2 ^ 32
  -- "reading it gives the same four lists and flag"
  pub accepted : read_answer (sent ws old) (length lent) ≡ 0
  pub same : message_in (read_words (sent ws old) lent) ≡ message_in ws

-- Words ws that are not written to `old`: 2^32 and 1, 2 or 31 is answered, and "buffer untouched".
pub record NotWritten (ws old : List ℕ) : Type 0 where
  pub number : write_answer ws (length old) ≡ 2 ^ 32 + write_number ws (length old)
  pub untouched : write_leaves ws old ≡ old
