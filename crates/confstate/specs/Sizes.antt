-- What the functions under the writer give. Assumes nothing.
use Rattle.std.specs.Prelude.{ℕ, ◌+◌, ◌*◌, ◌≤◌, ◌<◌, ◌≡◌, cond, List, eqb, length}
use Rattle.rules.specs.State.{ConfState}
use Rattle.rules.specs.Wire.{varint_of}
use Rattle.rules.specs.Message.{packed_of, list_field, overlong, Few64}
use Rattle.confstate.specs.Words.{at, list_in, message_in, is_conf_state}
use Rattle.confstate.specs.declared.write.Sizes.{Sizes}

-- 1, the words are no CONFSTATE; 2, a list over 64
unfoldable pub refusal_of : List ℕ → ℕ
refusal_of ws = cond (is_conf_state ws) (cond (overlong (message_in ws)) 2 0) 1

-- words that neither 1 nor 2 refuses
pub record Writable (ws : List ℕ) : Type 0 where
  pub words : length ws ≡ 261
  pub flag : at ws 260 ≤ 1
  pub few : Few64 (message_in ws)

-- words with a list of at most 64 at k
pub record Block (ws : List ℕ) (k : ℕ) : Type 0 where
  pub words : k + 65 ≤ length ws
  pub few : length (list_in ws k) ≤ 64

-- the list at k, whose numbers take `packed` bytes, fits as field f at place `p` of `room` bytes; the tag is one byte
pub record Listable (f p packed : ℕ) (ws : List ℕ) (k room : ℕ) : Type 0 where
  pub block : Block ws k
  pub tag : f < 16
  pub size : packed ≡ length (packed_of (list_in ws k))
  pub fits : p + length (list_field f (list_in ws k)) ≤ room

-- how many bytes the numbers of each list take
unfoldable pub sizes_of : ConfState → Sizes
sizes_of m =
    record {
      voters = length (packed_of m.voters);
      learners = length (packed_of m.learners);
      outgoing = length (packed_of m.voters_outgoing);
      next = length (packed_of m.learners_next);
    }

-- a list's field: the tag, the length, the numbers; nothing where there are none
unfoldable pub field_size : ℕ → ℕ
field_size n = cond (eqb n 0) 0 (1 + length (varint_of n) + n)

unfoldable pub total_of : Sizes → ℕ → ℕ
total_of s flag = field_size s.voters + field_size s.learners + field_size s.outgoing + field_size s.next + 2 * flag
