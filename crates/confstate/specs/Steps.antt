-- What the functions under the reader give, in the rules' words (crates/rules/specs/Wire.antt, Message.antt): of something refused only its number.
-- Assumes nothing.
use Rattle.std.specs.Prelude.{ℕ, ◌+◌, ◌/◌, ◌%◌, ◌≤◌, ◌≡◌, ◌&&◌, cond, List, leb, ltb, length, drop, Result, Ok, Err}
use Rattle.rules.specs.State.{ConfState}
use Rattle.rules.specs.Wire.{Found, bad, found, Payload, numbered, payload_in, varint_in}
use Rattle.rules.specs.Message.{Few64, Numbers, faulty, all, Read, refused, taken, entered}
use Rattle.confstate.specs.Words.{list_words, conf_state_words, list_in, message_in}
use Rattle.confstate.specs.Refusals.{told}
use Rattle.confstate.specs.declared.read.Refusal.{Refusal}
use Rattle.confstate.specs.declared.read.Refusal.TheVariants.{CutShort, Malformed}

-- words that are those of a message, and of a list
pub record Holding (ws : List ℕ) : Type 0 where
  pub long : length ws ≡ 261
  pub words : ws ≡ conf_state_words (message_in ws)
  pub few : Few64 (message_in ws)

pub record Listing (ws : List ℕ) : Type 0 where
  pub long : length ws ≡ 65
  pub words : ws ≡ list_words (list_in ws 0)
  pub few : length (list_in ws 0) ≤ 64

-- numbers put after a list: what is told, and the list's words
unfoldable pub Grows : Numbers → Result (Unit {0}) Refusal → List ℕ → Type 0
Grows (faulty e) r ws = told r ≡ e
Grows (all xs) r ws = (told r ≡ 0) × (ws ≡ list_words xs)

-- all fields: what is told, and the message's words
unfoldable pub Reads : Read → Result (Unit {0}) Refusal → List ℕ → Type 0
Reads (refused e) r ws = told r ≡ e
Reads (taken m) r ws = (told r ≡ 0) × (ws ≡ conf_state_words m)

-- ** One field

-- a refusal; or the message with the field, and the place after it
pub data Step : Type 0 where
  stop : ℕ → Step
  go : ConfState → ℕ → Step

unfoldable pub Takes : Step → Result ℕ Refusal → List ℕ → Type 0
Takes (stop e) t ws = told t ≡ e
Takes (go m n) t ws = (t ≡ Ok n) × (ws ≡ conf_state_words m)

abbrev pub closed : ℕ → Read → Step
closed n (refused e) = stop e
closed n (taken m) = go m n

-- what a field of number f comes to, whose payload was looked for at place q
abbrev pub held_at : ℕ → ℕ → ConfState → Found Payload → Step
held_at q f m (bad e) = stop e
held_at q f m (found p k) = cond (numbered f) (closed (q + k) (entered (record { number = f; payload = p }) m)) (stop 29)

-- the field at place q, by its tag
abbrev pub tagged_at : List ℕ → ℕ → ConfState → Found ℕ → Step
tagged_at l q m (bad e) = stop e
tagged_at l q m (found t n) = held_at (q + n) (t / 8) m (payload_in (t % 8) (drop (q + n) l))

unfoldable pub field_at : List ℕ → ℕ → ConfState → Step
field_at l q m = tagged_at l q m (varint_in (drop q l))

-- a field of eight or four bytes, which only an unknown one may have; `room` bytes are left
unfoldable pub fixed_at : ℕ → ℕ → ℕ → ℕ → Result ℕ Refusal
fixed_at room q f n = cond (leb n room) (cond (numbered f && ltb 5 f) (Ok (q + n)) (Err Malformed)) (Err CutShort)
