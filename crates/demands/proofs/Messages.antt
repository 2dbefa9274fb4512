-- ConfState as it travels, on what reader and writer answer and leave. Assumes nothing.
use Prim.Native.Nat.{ℕ, ◌+◌, ◌-◌, ◌*◌, ◌<◌, ◌≤◌}
use mathlib.Core.Path.{◌≡◌, refl, ap, sym, subst, ◌∙◌}
use mathlib.Core.Bool.{Bool, true, false, cond}
use mathlib.Core.List.{List, ◌++◌}
use native.Mathlib.Omega.{arith}
use borrow.Author.Tests.{ltb-false}
use lib.Dec.{eqb, ltb}
use lib.ListN.{length, take, drop, get_or, replicate}
use lib.Seq.{drop_at, take_at, take-take}
use Rattle.rules.specs.State as rules
use Rattle.rules.specs.Apply.{no_conf_state}
use Rattle.rules.specs.Message.{Answered, Below64, Few64, Read, refused, taken, encoded, message_read, number_read, number_written, buffer_written, overlong, read}
use Rattle.rules.proofs.Refusals.{accepted_or_named}
use Rattle.rules.proofs.Lists64.{message-few}
use Rattle.rules.proofs.MessageBack.{encoded-length, read-encoded}
use Rattle.idset.specs.Set.{set_of}
use Rattle.tracker.specs.Bridge.{conf_state_of}
use Rattle.unplug.specs.Words.{flag, words_by}
use Rattle.unplug.proofs.WordBlocks.{part_words}
use Rattle.confstate.specs.Words.{at, conf_state_words, flag_word, is_conf_state, list_words, message_in}
use Rattle.confstate.specs.Entries.{read_answer, write_answer, write_leaves, write_number}
use Rattle.confstate.specs.Sizes.{refusal_of}
use Rattle.confstate.proofs.Words.{block_in, count_at, list_places, list_of, words_back, words-flag, words-length}
use Rattle.confstate.proofs.Clearing.{cleared}
use Rattle.confstate.proofs.Answers.{answer, leaves, too_short}
use Rattle.confstate.proofs.Sizing.{writable}
use Rattle.demands.specs.Messages.{NotRead, NotWritten, Reading, Travels, conf_state_in, list_at, read_words, sent}

-- ** Reading

-- a list of the words, as a struct
module _ (m : rules.ConfState) (few : Few64 m) where
  block : (f k : ℕ) → 0 < f → f < 5 → k ≡ 65 * (f - 1) → length (list_of f m) ≤ 64
      → list_at (conf_state_words m) k ≡ record { ids = list_of f m ++ replicate (64 - length (list_of f m)) 0; len = length (list_of f m) }
  block f k a b e h =
      let p : take 65 (drop k (conf_state_words m)) ≡ list_words (list_of f m) = ap (λ (j : ℕ). take 65 (drop j (conf_state_words m))) e ∙ block_in m few f a b in
      let c : get_or (conf_state_words m) (k + 64) 0 ≡ length (list_of f m) = count_at (conf_state_words m) (list_of f m) k h p in
      let i : words_by 64 (at (conf_state_words m)) k ≡ list_of f m ++ replicate (64 - length (list_of f m)) 0
      = sym (part_words 64 k (conf_state_words m) (omega (arith, words-length m few)))
      ∙ (sym (take-take 64 65 (drop k (conf_state_words m)) (omega arith)) ∙ (ap (take 64) p ∙ list_places (list_of f m) h)) in
      λ j. record { ids = i j; len = c j }

flag_word_lem : (b : Bool) → flag (flag_word b) ≡ b
flag_word_lem true = refl
flag_word_lem false = refl

struct-of : (m : rules.ConfState) → Few64 m → conf_state_in (conf_state_words m) ≡ conf_state_of m
unfolding set_of
struct-of m few =
    let a = block m few 1 0 (omega arith) (omega arith) refl few.voters in
    let b = block m few 2 65 (omega arith) (omega arith) refl few.learners in
    let c = block m few 3 130 (omega arith) (omega arith) refl few.voters_outgoing in
    let d = block m few 4 195 (omega arith) (omega arith) refl few.learners_next in
    let e : flag (at (conf_state_words m) 260) ≡ m.auto_leave = ap flag (words-flag m few) ∙ flag_word_lem m.auto_leave in
    λ i. record { voters = a i; learners = b i; voters_outgoing = c i; learners_next = d i; auto_leave = e i }

module _ (l lent : List ℕ) (h : 261 ≤ length lent) where
  few : Few64 (message_read (read l))
  few = message-few l

  words : read_words l lent ≡ conf_state_words (message_read (read l))
  words = ap (take 261) (leaves l lent h) ∙ take_at (conf_state_words (message_read (read l))) (drop 261 lent) 261 (words-length (message_read (read l)) few)

  holds : message_in (read_words l lent) ≡ message_read (read l)
  holds = ap message_in words ∙ words_back (message_read (read l)) few

  none : eqb (read_answer l (length lent)) 0 ≡ false → message_read (read l) ≡ no_conf_state
  none e = by (read l) (ap (λ (n : ℕ). eqb n 0) (sym (answer l lent h)) ∙ e)
    where
      by : (r : Read) → eqb (number_read r) 0 ≡ false → message_read r ≡ no_conf_state
      by (refused n) z = refl
      by (taken m) z = let x : ◌≡◌ {A = ℕ} 0 1 = cc in absurd (omega arith)

  pub reading : Reading l lent
  reading = record {
    number = subst Answered (sym (answer l lent h)) (accepted_or_named l);
    refused = λ e. words ∙ (ap conf_state_words (none e) ∙ sym cleared);
    holds = holds;
    struct = ap conf_state_in words ∙ struct-of (message_read (read l)) few;
    few = subst Few64 (sym holds) few;
    kept = ap (drop 261) (leaves l lent h) ∙ drop_at (conf_state_words (message_read (read l))) (drop 261 lent) 261 (words-length (message_read (read l)) few);
  }

pub not-read : (l lent : List ℕ) → length lent < 261 → NotRead l lent
not-read l lent h = (sym (too_short l lent h).0, sym (too_short l lent h).1)

-- ** Writing

-- what an accepted write says of the words and of the room
record Sent (ws old : List ℕ) : Type 0 where
  conf-state : is_conf_state ws ≡ true
  few : Few64 (message_in ws)
  room : length (encoded (message_in ws)) ≤ length old

number-sent : (ws old : List ℕ) → write_number ws (length old) ≡ 0 → Sent ws old
unfolding write_number number_written refusal_of
number-sent ws old e = by (is_conf_state ws) refl (overlong (message_in ws)) refl (ltb (length old) (length (encoded (message_in ws)))) refl e
  where
    by : (a : Bool) → is_conf_state ws ≡ a → (b : Bool) → overlong (message_in ws) ≡ b → (c : Bool) → ltb (length old) (length (encoded (message_in ws))) ≡ c
        → ◌≡◌ {A = ℕ} (cond a (cond b 2 (cond c 31 0)) 1) 0 → Sent ws old
    by true p true q c r z = absurd (omega arith)
    by true p false q true r z = absurd (omega arith)
    by true p false q false r z =
        let w : 0 ≡ refusal_of ws = sym (rw (p, q)) in
        record { conf-state = p; few = (writable w refl).few; room = ltb-false (length old) (length (encoded (message_in ws))) r }
    by false p b q c r z = absurd (omega arith)

module _ (ws old lent : List ℕ) (e : write_number ws (length old) ≡ 0) (b : Below64 (message_in ws)) (h : 261 ≤ length lent) where
  s : Sent ws old
  s = number-sent ws old e

  told : write_answer ws (length old) ≡ length (encoded (message_in ws))
  unfolding write_answer
  told = rw e

  left : write_leaves ws old ≡ encoded (message_in ws) ++ drop (length (encoded (message_in ws))) old
  unfolding write_leaves buffer_written write_number
  left =
      let n : number_written (message_in ws) (length old) ≡ 0 = sym (ap (λ (c : Bool). cond c (number_written (message_in ws) (length old)) 1) s.conf-state) ∙ e in
      rw (s.conf-state, n)

  bytes : sent ws old ≡ encoded (message_in ws)
  bytes = rw (told, left) (take_at (encoded (message_in ws)) (drop (length (encoded (message_in ws))) old) (length (encoded (message_in ws))) refl)

  back : read (sent ws old) ≡ taken (message_in ws)
  back = ap read bytes ∙ read-encoded (message_in ws) s.few b

  pub travels : Travels ws old lent
  travels = record {
    bytes = bytes;
    kept = rw (told, left) (drop_at (encoded (message_in ws)) (drop (length (encoded (message_in ws))) old) (length (encoded (message_in ws))) refl);
    below = omega (arith, told, encoded-length (message_in ws) s.few);
    accepted = answer (sent ws old) lent h ∙ ap number_read back;
    same = holds (sent ws old) lent h ∙ ap message_read back;
  }

pub not_written : (ws old : List ℕ) → eqb (write_number ws (length old)) 0 ≡ false → NotWritten ws old
unfolding write_answer write_leaves write_number buffer_written
not_written ws old e = record { number = rw e; untouched = by (is_conf_state ws) refl }
  where
    by : (a : Bool) → is_conf_state ws ≡ a → cond a (cond (eqb (number_written (message_in ws) (length old)) 0) (encoded (message_in ws) ++ drop (length (encoded (message_in ws))) old) old) old ≡ old
    by true p =
        let n : eqb (number_written (message_in ws) (length old)) 0 ≡ false = sym (ap (λ (c : Bool). eqb (cond c (number_written (message_in ws) (length old)) 1) 0) p) ∙ e in
        rw n
    by false p = refl
