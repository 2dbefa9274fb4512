-- What an accepted list makes of one box: the replay of the changes that name it; and lists with and without a change that names another.
-- Assumes nothing.
use Prim.Native.Nat.{ℕ}
use mathlib.Core.Path.{◌≡◌, refl, ap, ◌∙◌, sym}
use mathlib.Core.Bool.{Bool, true, false}
use mathlib.Core.List.{List, [], ◌∷◌, ◌++◌}
use native.Mathlib.Omega.{arith}
use lib.Dec.{eqb}
use lib.ListN.{length}
use Rattle.progress.specs.Record.{fresh_record}
use Rattle.progress.specs.declared.Progress.{Progress}
use Rattle.rules.specs.State.{Change}
use Rattle.rules.specs.Calls.{kind_of, list_of}
use Rattle.rules.specs.Boxes.{Event, entered, naming, replay}
use Rattle.rules.specs.Restore.{enter_step, simple_step}
use Rattle.rules.proofs.Theorems as rules
use Rattle.tracker.specs.declared.Tracker.{Tracker}
use Rattle.invariants.specs.Check.{in_order_of}
use Rattle.changer.specs.Calls.{enter_answer, simple_answer}
use Rattle.restore.specs.Restore.{applied_to}
use Rattle.demands.specs.Sequences.{box_in, deeds_of, enter_call, perform, simple_call}
use Rattle.demands.specs.Statements.{OthersAlterNeither}
use Rattle.demands.proofs.Accepted.{all-applied}
use Rattle.demands.proofs.Boxes.{one-step}

list_append : (xs ys ks ls : List ℕ) → length xs ≡ length ks → list_of (xs ++ ys) (ks ++ ls) ≡ list_of xs ks ++ list_of ys ls
unfolding list_of
list_append [] ys [] ls h = refl
list_append [] ys (k ∷ ks) ls h = absurd (omega arith)
list_append (x ∷ xs) ys [] ls h = absurd (omega arith)
list_append (x ∷ xs) ys (k ∷ ks) ls h = ap (λ (l : List Change). record { kind = kind_of k; id = x } ∷ l) (list_append xs ys ks ls (omega arith))

-- a change of y between xs and ys is none of x
pub other_named : (r : Progress) (x : ℕ) (xs ys ks ls : List ℕ) (y k : ℕ) → length xs ≡ length ks → eqb y x ≡ false
    → naming r x (list_of (xs ++ (y ∷ ys)) (ks ++ (k ∷ ls))) ≡ naming r x (list_of (xs ++ ys) (ks ++ ls))
unfolding list_of
other_named r x xs ys ks ls y k h e =
    ap (naming r x) (list_append xs (y ∷ ys) ks (k ∷ ls) h)
    ∙ rules.others_alter_neither r x (list_of xs ks) (list_of ys ls) (record { kind = kind_of k; id = y }) e
    ∙ ap (naming r x) (sym (list_append xs ys ks ls h))

-- ** An accepted list

module _ (t : Tracker) (h : in_order_of t ≡ true) (n x : ℕ) where
  abbrev r : Progress
  r = fresh_record n t.max_inflight

  simple-box : (ids kinds : List ℕ) → (simple_answer t ids kinds).number ≡ 0
      → box_in (applied_to t (simple_answer t ids kinds) n).tracker x ≡ replay (naming r x (list_of ids kinds)) (box_in t x)
  unfolding perform deeds_of
  simple-box ids kinds e = one-step t h (simple_call ids kinds n) (simple_step (list_of ids kinds)) n (rw ((all-applied t).simple ids kinds n e)) x

  enter-box : (auto : Bool) (ids kinds : List ℕ) → (enter_answer t auto ids kinds).number ≡ 0
      → box_in (applied_to t (enter_answer t auto ids kinds) n).tracker x ≡ replay (entered ∷ naming r x (list_of ids kinds)) (box_in t x)
  unfolding perform deeds_of
  enter-box auto ids kinds e = one-step t h (enter_call auto ids kinds n) (enter_step auto (list_of ids kinds)) n (rw ((all-applied t).enter auto ids kinds n e)) x

  pub others : OthersAlterNeither t n x
  others =
      record {
        simple = simple-box;
        enter = enter-box;
        others = rules.others_alter_neither r x;
        simple-same = λ xs ys ks ls y k g e a b.
            simple-box (xs ++ (y ∷ ys)) (ks ++ (k ∷ ls)) a
            ∙ ap (λ (es : List Event). replay es (box_in t x)) (other_named r x xs ys ks ls y k g e) ∙ sym (simple-box (xs ++ ys) (ks ++ ls) b);
        enter-same = λ auto xs ys ks ls y k g e a b.
            enter-box auto (xs ++ (y ∷ ys)) (ks ++ (k ∷ ls)) a
            ∙ ap (λ (es : List Event). replay (entered ∷ es) (box_in t x)) (other_named r x xs ys ks ls y k g e) ∙ sym (enter-box auto (xs ++ ys) (ks ++ ls) b);
      }
