-- "a reader of the lines with the first message can state the second's sets exactly": document 02, l). Assumes nothing.
use Prim.Native.Nat.{ℕ}
use mathlib.Core.Path.{◌≡◌, refl, ap, ◌∙◌}
use mathlib.Core.Bool.{Bool, true, false, beq, ◌&&◌, ◌||◌, cond, not}
use mathlib.Core.List.{List, [], ◌∷◌}
use borrow.Author.Tests.{eqb-true}
use lib.Dec.{eqb}
use Rattle.rules.specs.Ids.{memb, ascending}
use Rattle.rules.specs.State.{ConfState}
use Rattle.rules.specs.Message.{Below64, taken, read}
use Rattle.rules.proofs.Sets.{memb_insert, ascending_insert, memb_remove, ascending_remove}
use Rattle.rules.proofs.Below.{read_below}
use Rattle.comparison.specs.Compare.{standing, same, ids_of_both, lines}
use Rattle.comparison.specs.Told.{Note, Told, as_sets, moved, placed, noted, turned, second}
use Rattle.comparison.specs.Steps.{Sorted}
use Rattle.comparison.specs.declared.line.Standing.{Standing}
use Rattle.comparison.proofs.Meaning.{sets-sorted, standing-sets, sets-by-standing, same_true, unseen_same}
use Rattle.comparison.proofs.Reader.{notes_of, told-lines}

-- ** One id moved

moved_ascends : (t : Bool) (x : ℕ) (xs : List ℕ) → ascending xs ≡ true → ascending (moved t x xs) ≡ true
moved_ascends true x xs a = ascending_insert x xs a
moved_ascends false x xs a = ascending_remove x xs a

memb-moved : (t : Bool) (x y : ℕ) (xs : List ℕ) → ascending xs ≡ true → memb y (moved t x xs) ≡ cond (eqb x y) t (memb y xs)
memb-moved true x y xs a = memb_insert x y xs ∙ by (eqb x y)
  where
    by : (e : Bool) → e || memb y xs ≡ cond e true (memb y xs)
    by true = refl
    by false = refl
memb-moved false x y xs a = memb_remove x y xs a ∙ by (eqb x y)
  where
    by : (e : Bool) → not e && memb y xs ≡ cond e false (memb y xs)
    by true = refl
    by false = refl

placed-sorted : (n : Note) (m : ConfState) → Sorted m → Sorted (placed n m)
placed-sorted n m h =
    record {
      voters = moved_ascends n.now.voters n.id m.voters h.voters;
      learners = moved_ascends n.now.learners n.id m.learners h.learners;
      voters_outgoing = moved_ascends n.now.outgoing n.id m.voters_outgoing h.voters_outgoing;
      learners_next = moved_ascends n.now.next n.id m.learners_next h.learners_next;
    }

placed-standing : (n : Note) (m : ConfState) (x : ℕ) → Sorted m → standing (placed n m) x ≡ cond (eqb n.id x) n.now (standing m x)
unfolding standing
placed-standing n m x h =
    (λ i. record {
      voters = memb-moved n.now.voters n.id x m.voters h.voters i;
      outgoing = memb-moved n.now.outgoing n.id x m.voters_outgoing h.voters_outgoing i;
      learners = memb-moved n.now.learners n.id x m.learners h.learners i;
      next = memb-moved n.now.next n.id x m.learners_next h.learners_next i;
    })
    ∙ by (eqb n.id x)
  where
    by : (e : Bool)
        → ◌≡◌ {A = Standing}
        (record {
          voters = cond e n.now.voters (memb x m.voters);
          outgoing = cond e n.now.outgoing (memb x m.voters_outgoing);
          learners = cond e n.now.learners (memb x m.learners);
          next = cond e n.now.next (memb x m.learners_next);
        })
        (cond e n.now (standing m x))
    by true = refl
    by false = refl

-- ** All notes

noted-sorted : (ns : List Note) (m : ConfState) → Sorted m → Sorted (noted ns m)
unfolding noted
noted-sorted [] m h = h
noted-sorted (n ∷ ns) m h = placed-sorted n (noted ns m) (noted-sorted ns m h)

noted-flag : (ns : List Note) (m : ConfState) → (noted ns m).auto_leave ≡ m.auto_leave
unfolding noted
noted-flag [] m = refl
noted-flag (n ∷ ns) m = noted-flag ns m

module _ (a b : ConfState) where
  -- an id among xs stands as in the second message, another as in the first
  noted-standing : (xs : List ℕ) (x : ℕ) → standing (noted (notes_of a b xs) (as_sets a)) x ≡ cond (memb x xs) (standing b x) (standing a x)
  unfolding noted notes_of memb
  noted-standing [] x = standing-sets a x
  noted-standing (y ∷ ys) x = by (noted-standing ys x) (same (standing a y) (standing b y)) refl (eqb y x) refl
    where
      before : ConfState
      before = noted (notes_of a b ys) (as_sets a)

      both : (m : Bool) → standing a x ≡ standing b x → cond m (standing b x) (standing a x) ≡ standing b x
      both true e = refl
      both false e = e

      by : standing before x ≡ cond (memb x ys) (standing b x) (standing a x)
          → (t : Bool) → same (standing a y) (standing b y) ≡ t → (u : Bool) → eqb y x ≡ u
          → standing (noted (cond t (notes_of a b ys) (record { id = y; now = standing b y } ∷ notes_of a b ys)) (as_sets a)) x
          ≡ cond (u || memb x ys) (standing b x) (standing a x)
      by r true p true q =
          let e : standing a x ≡ standing b x = rw (eqb-true y x q) at (same_true (standing a y) (standing b y) p) in
          r ∙ both (memb x ys) e
      by r true p false q = r
      by r false p u q =
          placed-standing (record { id = y; now = standing b y }) before x (noted-sorted (notes_of a b ys) (as_sets a) (sets-sorted a))
          ∙ here u q
        where
          here : (u : Bool) → eqb y x ≡ u → cond (eqb y x) (standing b y) (standing before x) ≡ cond (u || memb x ys) (standing b x) (standing a x)
          here true q = rw q (ap (standing b) (eqb-true y x q))
          here false q = rw q r

  -- every id looked at, all stand as in the second message
  all-standing : (x : ℕ) → standing (noted (notes_of a b (ids_of_both a b)) (as_sets a)) x ≡ standing b x
  all-standing x = noted-standing (ids_of_both a b) x ∙ by (memb x (ids_of_both a b)) refl
    where
      by : (t : Bool) → memb x (ids_of_both a b) ≡ t → cond t (standing b x) (standing a x) ≡ standing b x
      by true e = refl
      by false e = unseen_same a b x e

-- ** The second message

turned-sorted : (flips : Bool) (m : ConfState) → Sorted m → Sorted (turned flips m)
turned-sorted flips m h =
    record { voters = h.voters; learners = h.learners; voters_outgoing = h.voters_outgoing; learners_next = h.learners_next }

turned-flag : (p q : Bool) → cond (not (beq p q)) (not p) p ≡ q
turned-flag true true = refl
turned-flag true false = refl
turned-flag false true = refl
turned-flag false false = refl

pub second-is-told : (a b : ConfState) → Below64 a → Below64 b → second a (lines a b) ≡ as_sets b
unfolding second standing as_sets
second-is-told a b h k =
    ap (λ (t : Told). turned t.flips (noted t.notes (as_sets a))) (told-lines a b h k)
    ∙ sets-by-standing (turned flips last) b (turned-sorted flips last sorted) (all-standing a b) flag
  where
    flips : Bool
    flips = not (beq a.auto_leave b.auto_leave)

    ns : List Note
    ns = notes_of a b (ids_of_both a b)

    last : ConfState
    last = noted ns (as_sets a)

    sorted : Sorted last
    sorted = noted-sorted ns (as_sets a) (sets-sorted a)

    flag : cond flips (not last.auto_leave) last.auto_leave ≡ b.auto_leave
    flag = rw (noted-flag ns (as_sets a)) (turned-flag a.auto_leave b.auto_leave)

-- of two messages that were read
pub lines-told : (l m : List ℕ) {a b : ConfState} → read l ≡ taken a → read m ≡ taken b → second a (lines a b) ≡ as_sets b
lines-told l m {a} {b} h k = second-is-told a b (read_below l h) (read_below m k)
