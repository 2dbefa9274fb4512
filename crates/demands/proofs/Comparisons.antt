-- Two controllers compared, on what is printed, and on what is answered and left. Assumes nothing.
use Prim.Native.Nat.{ℕ, ◌≤◌}
use mathlib.Core.Path.{◌≡◌, refl, sym, subst, ◌∙◌}
use mathlib.Core.Bool.{Bool, true, false}
use mathlib.Core.List.{List, ◌++◌}
use borrow.Author.Tests.{le-ltb}
use lib.Dec.{eqb, ltb}
use lib.ListN.{length, drop}
use lib.Seq.{drop_at, take_at}
use Rattle.rules.specs.Message.{message_read, read}
use Rattle.rules.proofs.Lists64.{message-few}
use Rattle.rules.proofs.Below.{message-below}
use Rattle.comparison.specs.Compare.{comparison, compare_answer, compare_leaves, lines_read, refusal}
use Rattle.comparison.proofs.Meaning.{equal-is-silent, silent-is-equal}
use Rattle.comparison.proofs.Second.{second-is-told}
use Rattle.comparison.proofs.Size.{lines-size}
use Rattle.demands.specs.Comparisons.{Tells, Printed, Compared, NotCompared, written}

-- ** Lines

tells : (l m : List ℕ) → Tells l m (lines_read l m)
tells l m = record {
  silent = equal-is-silent (message_read (read l)) (message_read (read m));
  equal = silent-is-equal (message_read (read l)) (message_read (read m));
  told = second-is-told (message_read (read l)) (message_read (read m)) (message-below l) (message-below m);
  size = lines-size (message_read (read l)) (message_read (read m)) (message-few l) (message-few m);
}

-- ** Two files

-- without a fault the lines are printed
lines-printed : (readable : Bool) (l m : List ℕ) → refusal readable l m ≡ 0 → comparison readable l m ≡ lines_read l m
unfolding comparison
lines-printed readable l m e = rw e

pub printed : (readable : Bool) (l m : List ℕ) → Printed readable l m
unfolding comparison refusal
printed readable l m = record {
  fault = λ e. rw e;
  lines = λ e. subst (Tells l m) (sym (lines-printed readable l m e)) (tells l m);
  first_32 = λ e. rw e;
  then_first = λ e f. rw (e, f);
  then_second = λ e f. rw (e, f);
}

-- ** Two slices

module _ (l m out : List ℕ) (e : refusal true l m ≡ 0) where
  pub no_room : ltb (length out) (length (lines_read l m)) ≡ true → NotCompared l m out 100
  unfolding compare_answer compare_leaves
  no_room h = record { answer = rw (e, h); untouched = rw (e, h) }

  module _ (h : length (lines_read l m) ≤ length out) where
    answer : compare_answer l m (length out) ≡ length (lines_read l m)
    unfolding compare_answer
    answer = rw (e, le-ltb (length out) (length (lines_read l m)) h)

    leaves : compare_leaves l m out ≡ lines_read l m ++ drop (length (lines_read l m)) out
    unfolding compare_leaves
    leaves = rw (e, le-ltb (length out) (length (lines_read l m)) h)

    all : written l m out ≡ lines_read l m
    all = rw (answer, leaves) (take_at (lines_read l m) (drop (length (lines_read l m)) out) (length (lines_read l m)) refl)

    pub compared : Compared l m out
    compared = record {
      lines = all ∙ sym (lines-printed true l m e);
      tells = subst (Tells l m) (sym all) (tells l m);
      kept = rw (answer, leaves) (drop_at (lines_read l m) (drop (length (lines_read l m)) out) (length (lines_read l m)) refl);
    }

pub not_compared : (l m out : List ℕ) → eqb (refusal true l m) 0 ≡ false → NotCompared l m out (refusal true l m)
unfolding compare_answer compare_leaves
not_compared l m out e = record { answer = rw e; untouched = rw e }
