-- Laws of the two messages that are read, and of what is printed and answered of them. Assumes nothing.
use Prim.Native.Nat.{ℕ, ◌+◌, ◌≤◌, ◌<◌}
use mathlib.Core.Path.{◌≡◌, ap, sym, subst, ◌∙◌}
use mathlib.Core.Bool.{Bool, true, false, cond}
use mathlib.Core.List.{List, ◌++◌}
use native.Mathlib.Omega.{arith}
use borrow.Author.Tests.{leb-true, leb-false, lt-ltb, le-ltb, le-leb, eq-eqb, ne_eqb}
use lib.Dec.{eqb, leb}
use lib.ListN.{length, drop}
use Rattle.rules.specs.State.{ConfState}
use Rattle.rules.specs.Message.{read, number_read, message_read}
use Rattle.text.specs.Put.{Put, last}
use Rattle.text.proofs.Laws.{put_count, put_whole}
use Rattle.confstate.specs.Words.{message_in}
use Rattle.comparison.specs.Compare.{lines, lines_read, refusal, refused_text, comparison, compare_answer, compare_leaves}
use Rattle.comparison.specs.Told.{as_sets}
use Rattle.comparison.specs.Steps.{Sorted, Ascending, number_of, SetsRead, BothRead}
use Rattle.comparison.specs.declared.refusal.Refusal.{Refusal}
use Rattle.comparison.specs.declared.refusal.Refusal.TheVariants.{CutShort, Malformed, TooMany, Unfit, NoRoom}
use Rattle.comparison.proofs.Meaning.{sets-sorted}
use Rattle.comparison.proofs.Size.{lines-size}
use Rattle.comparison.proofs.Walking.{lines-of-sets}

-- ** Both messages

pub number-some : (r : Refusal) → number_of r ≡ 0 → ⊥
number-some CutShort e = omega (arith, e)
number-some Malformed e = omega (arith, e)
number-some TooMany e = omega (arith, e)
number-some Unfit e = omega (arith, e)
number-some NoRoom e = omega (arith, e)

-- 32
module _ (readable : Bool) (l m : List ℕ) {x y : List ℕ} where
  not-read : 32 ≡ refusal readable l m → BothRead readable l m 32 x y
  not-read e = record { told = e; first-sets = λ z. absurd (omega (arith, z)); second-sets = λ z. absurd (omega (arith, z)) }

  pub unreadable : readable ≡ false → BothRead readable l m 32 x y
  unfolding refusal
  unreadable h = not-read (rw h)

  module _ (h : readable ≡ true) where
    pub first-long : 32768 < length l → BothRead readable l m 32 x y
    unfolding refusal
    first-long k = not-read (rw (h, lt-ltb 32768 (length l) k))

    pub second-long : length l ≤ 32768 → 32768 < length m → BothRead readable l m 32 x y
    unfolding refusal
    second-long j k = not-read (rw (h, le-ltb 32768 (length l) j, lt-ltb 32768 (length m) k))

-- the files' own refusals, or none
module _ (readable : Bool) (l m : List ℕ) (h : readable ≡ true) (j : length l ≤ 32768) (k : length m ≤ 32768) {n : ℕ} {x : List ℕ} (f : SetsRead l n x) where
  numbers : refusal readable l m ≡ cond (eqb (number_read (read l)) 0) (number_read (read m)) (number_read (read l))
  unfolding refusal
  numbers = rw (h, le-ltb 32768 (length l) j, le-ltb 32768 (length m) k)

  pub first-refused : {y : List ℕ} → (n ≡ 0 → ⊥) → BothRead readable l m n x y
  first-refused z =
      record {
        told = rw (numbers, ne_eqb (number_read (read l)) 0 (λ i. z (f.told ∙ i))) f.told;
        first-sets = λ i. absurd (z i);
        second-sets = λ i. absurd (z i);
      }

  pub both_read : n ≡ 0 → {p : ℕ} {y : List ℕ} → SetsRead m p y → BothRead readable l m p x y
  both_read z {p} {y} g =
      record {
        told = rw (numbers, eq-eqb (number_read (read l)) 0 (sym f.told ∙ z)) g.told;
        first-sets = λ i. subst (λ (o : ℕ). SetsRead l o x) z f;
        second-sets = λ i. subst (λ (o : ℕ). SetsRead m o y) i g;
      }

-- ** What both readings leave

ascends : {l ws : List ℕ} → SetsRead l 0 ws → Ascending ws
ascends {l} f = record { lists = f.lists; sorted = subst Sorted (sym f.sets) (sets-sorted (message_read (read l))) }

module _ {readable : Bool} {l m x y : List ℕ} {n : ℕ} (r : BothRead readable l m n x y) where
  pub compared_refused : (n ≡ 0 → ⊥) → comparison readable l m ≡ refused_text n
  unfolding comparison
  compared_refused h = rw (← r.told, ne_eqb n 0 h)

  module _ (z : n ≡ 0) where
    both_accepted : refusal readable l m ≡ 0
    both_accepted = sym r.told ∙ z

    pub both_ascend : Ascending x × Ascending y
    both_ascend = (ascends (r.first-sets z), ascends (r.second-sets z))

    lines_same : lines (message_in x) (message_in y) ≡ lines_read l m
    lines_same =
        ap (λ (a : ConfState). lines a (message_in y)) (r.first-sets z).sets
        ∙ (ap (λ (a : ConfState). lines (as_sets (message_read (read l))) a) (r.second-sets z).sets ∙ lines-of-sets (message_read (read l)) (message_read (read m)))

    pub compared_lines : comparison readable l m ≡ lines (message_in x) (message_in y)
    unfolding comparison
    compared_lines = rw both_accepted (sym lines_same)

-- ** Whether there is room

module _ (a b : List ℕ) (f : Ascending a) (g : Ascending b) (room : ℕ) where
  size : length (lines (message_in a) (message_in b)) ≤ 20761
  size = lines-size (message_in a) (message_in b) f.lists.few g.lists.few

  pub room_most : 20761 ≤ room → true ≡ leb (length (lines (message_in a) (message_in b))) room
  room_most h = sym (le-leb (length (lines (message_in a) (message_in b))) room (omega (arith, size)))

  pub room-counted : {none new : List ℕ} {n : ℕ} → Put none 0 (lines (message_in a) (message_in b)) new n → leb n room ≡ leb (length (lines (message_in a) (message_in b))) room
  room-counted h = ap (λ (k : ℕ). leb k room) (put_count h (omega (arith, size)))

-- ** Two slices: a message that is refused; lines that do not fit; lines that fit

module _ {l m x y : List ℕ} {n : ℕ} (r : BothRead true l m n x y) where
  module _ (h : n ≡ 0 → ⊥) where
    pub answer-refused : (room : ℕ) → 4294967296 + n ≡ compare_answer l m room
    unfolding compare_answer
    answer-refused room = rw (← r.told, ne_eqb n 0 h)

    pub leaves-refused : (old : List ℕ) → old ≡ compare_leaves l m old
    unfolding compare_leaves
    leaves-refused old = rw (← r.told, ne_eqb n 0 h)

  module _ (z : n ≡ 0) (old : List ℕ) {fits : Bool} (f : fits ≡ leb (length (lines (message_in x) (message_in y))) (length old)) where
    fit : fits ≡ leb (length (lines_read l m)) (length old)
    fit = f ∙ ap (λ (t : List ℕ). leb (length t) (length old)) (lines_same r z)

    module _ (h : fits ≡ false) where
      longer : length old < length (lines_read l m)
      longer = leb-false (length (lines_read l m)) (length old) (sym fit ∙ h)

      pub answer_none : 4294967396 ≡ compare_answer l m (length old)
      unfolding compare_answer
      answer_none = rw (both_accepted r z, lt-ltb (length old) (length (lines_read l m)) longer)

      pub leaves_none : old ≡ compare_leaves l m old
      unfolding compare_leaves
      leaves_none = rw (both_accepted r z, lt-ltb (length old) (length (lines_read l m)) longer)

    module _ (h : fits ≡ true) (room : length old ≤ last) {out : List ℕ} {p : ℕ} (g : Put old 0 (lines (message_in x) (message_in y)) out p) where
      within : length (lines_read l m) ≤ length old
      within = leb-true (length (lines_read l m)) (length old) (sym fit ∙ h)

      whole : (out ≡ lines_read l m ++ drop (length (lines_read l m)) old) × (p ≡ length (lines_read l m))
      whole = put_whole room (rw (lines_same r z) at g) within

      pub answer-all : p ≡ compare_answer l m (length old)
      unfolding compare_answer
      answer-all = rw (both_accepted r z, le-ltb (length old) (length (lines_read l m)) within) whole.1

      pub leaves_all : out ≡ compare_leaves l m old
      unfolding compare_leaves
      leaves_all = rw (both_accepted r z, le-ltb (length old) (length (lines_read l m)) within) whole.0
