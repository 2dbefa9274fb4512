-- Two controllers compared: document 02, l), of what is printed of two files, and of what `compare` and `dimecandle_compare` answer and leave. These are the
-- definitions that the contracts of `put_comparison`, `compare` and the C entry are equal to (crates/comparison/specs/Compare.antt). Assumes nothing.
use Rattle.std.specs.Prelude.{ℕ, ◌+◌, ◌^◌, ◌≤◌, ◌≡◌, Bool, true, false, not, ◌||◌, List, [], eqb, ltb, length, take, drop}
use Rattle.rules.specs.Message.{message_read, number_read, read}
use Rattle.comparison.specs.Compare.{comparison, compare_answer, compare_leaves, refusal, refused_text}
use Rattle.comparison.specs.Told.{as_sets, second}

-- both messages mean the same: "each list taken as a set", and the flag
abbrev pub SameMeaning : List ℕ → List ℕ → Type 0
SameMeaning l m = as_sets (message_read (read l)) ≡ as_sets (message_read (read m))

-- What a text says of the messages l and m.
pub record Tells (l m text : List ℕ) : Type 0 where
  -- "Equal meaning gives no line", and no line means equal meaning
  pub silent : SameMeaning l m → text ≡ []
  pub equal : text ≡ [] → SameMeaning l m
  -- "a reader of the lines with the first message can state the second's sets exactly", and its flag
  pub told : second (message_read (read l)) text ≡ as_sets (message_read (read m))
  -- what 512 ids can give
  pub size : length text ≤ 20761

-- ** Two files

-- one of them "unreadable or too long"
abbrev pub unfit : Bool → List ℕ → List ℕ → Bool
unfit readable l m = not readable || ltb 32768 (length l) || ltb 32768 (length m)

-- What is printed of two files' bytes.
pub record Printed (readable : Bool) (l m : List ℕ) : Type 0 where
  -- "A fault prints `refused N` alone."
  pub fault : eqb (refusal readable l m) 0 ≡ false → comparison readable l m ≡ refused_text (refusal readable l m)
  pub lines : refusal readable l m ≡ 0 → Tells l m (comparison readable l m)
  -- "32, file unreadable or too long; then those of k) for the first file, then the second"
  pub first_32 : unfit readable l m ≡ true → refusal readable l m ≡ 32
  pub then_first : unfit readable l m ≡ false → eqb (number_read (read l)) 0 ≡ false → refusal readable l m ≡ number_read (read l)
  pub then_second : unfit readable l m ≡ false → number_read (read l) ≡ 0 → refusal readable l m ≡ number_read (read m)

-- ** Two slices

-- what was written to `out`: as many bytes as the answer says
abbrev pub written : List ℕ → List ℕ → List ℕ → List ℕ
written l m out = take (compare_answer l m (length out)) (compare_leaves l m out)

-- Messages l and m whose lines are written to `out`.
pub record Compared (l m out : List ℕ) : Type 0 where
  -- what the program prints
  pub lines : written l m out ≡ comparison true l m
  pub tells : Tells l m (written l m out)
  -- the bytes after the lines are kept
  pub kept : drop (compare_answer l m (length out)) (compare_leaves l m out) ≡ drop (compare_answer l m (length out)) out

-- Refused with N: 2^32 + N is answered, and `out` is as it was.
pub record NotCompared (l m out : List ℕ) (number : ℕ) : Type 0 where
  pub answer : compare_answer l m (length out) ≡ 2 ^ 32 + number
  pub untouched : compare_leaves l m out ≡ out
