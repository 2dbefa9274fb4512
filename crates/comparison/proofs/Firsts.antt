-- The next id is not more than the first of any list, and is the first of one; where there is none, every list is empty. Assumes nothing.
use Prim.Native.Nat.{ℕ, ◌≤◌, min}
use Rattle.std.specs.Prelude.{Option, Some, None}
use mathlib.Core.Path.{◌≡◌, refl, subst}
use mathlib.Core.Bool.{Bool, true, false, ◌||◌, false≢true}
use mathlib.Core.List.{List, [], ◌∷◌}
use native.Mathlib.Omega.{arith, min_cases}
use borrow.Author.Tests.{leb-true, le-leb, eq-eqb}
use lib.Dec.{leb}
use Rattle.rules.specs.State.{ConfState}
use Rattle.rules.proofs.Sets.{or-true}
use Rattle.idset.specs.Places.{first_is}
use Rattle.comparison.specs.Steps.{lesser_of, least_of, next_of, firsts_of}
use Rattle.comparison.specs.declared.line.Standing.{Standing}

-- ** The least

-- x is not more than the first
unfoldable pub not_after : ℕ → List ℕ → Bool
not_after x [] = true
not_after x (y ∷ ys) = leb x y

after_less : (x y : ℕ) (l : List ℕ) → not_after x l ≡ true → y ≤ x → not_after y l ≡ true
unfolding not_after
after_less x y [] h k = refl
after_less x y (z ∷ zs) h k = le-leb y z (omega (arith, leb-true x z h))

-- a list of which the first was looked at
unfoldable pub Seen : Option ℕ → List ℕ → Type 0
Seen None l = l ≡ []
Seen (Some x) l = not_after x l ≡ true

pub seen-none : (l : List ℕ) {f : Option ℕ} → f ≡ None → Seen f l → l ≡ []
unfolding Seen
seen-none l e s = subst (λ (g : Option ℕ). Seen g l) e s

pub seen-some : (l : List ℕ) {f : Option ℕ} {x : ℕ} → f ≡ Some x → Seen f l → not_after x l ≡ true
unfolding Seen
seen-some l e s = subst (λ (g : Option ℕ). Seen g l) e s

seen_now : (l : List ℕ) (f : Option ℕ) → Seen (lesser_of l f) l
unfolding Seen lesser_of not_after
seen_now [] None = refl
seen_now [] (Some x) = refl
seen_now (y ∷ ys) None = le-leb y y (omega arith)
seen_now (y ∷ ys) (Some x) = le-leb (min x y) y (omega arith)

seen_still : (l : List ℕ) (f : Option ℕ) (k : List ℕ) → Seen f k → Seen (lesser_of l f) k
unfolding Seen lesser_of not_after
seen_still [] f k h = h
seen_still (y ∷ ys) None k h = rw h
seen_still (y ∷ ys) (Some x) k h = after_less x (min x y) k h (omega arith)

pub record AllSeen (f : Option ℕ) (m : ConfState) : Type 0 where
  pub voters : Seen f m.voters
  pub learners : Seen f m.learners
  pub voters_outgoing : Seen f m.voters_outgoing
  pub learners_next : Seen f m.learners_next

all-now : (m : ConfState) (f : Option ℕ) → AllSeen (least_of m f) m
all-now m f =
    record {
      voters = seen_still m.learners_next h m.voters (seen_still m.learners g m.voters (seen_still m.voters_outgoing e m.voters (seen_now m.voters f)));
      voters_outgoing = seen_still m.learners_next h m.voters_outgoing (seen_still m.learners g m.voters_outgoing (seen_now m.voters_outgoing e));
      learners = seen_still m.learners_next h m.learners (seen_now m.learners g);
      learners_next = seen_now m.learners_next h;
    }
  where
    e : Option ℕ
    e = lesser_of m.voters f

    g : Option ℕ
    g = lesser_of m.voters_outgoing e

    h : Option ℕ
    h = lesser_of m.learners g

all_still : (m : ConfState) (f : Option ℕ) (n : ConfState) → AllSeen f n → AllSeen (least_of m f) n
all_still m f n s =
    record {
      voters = one n.voters s.voters;
      learners = one n.learners s.learners;
      voters_outgoing = one n.voters_outgoing s.voters_outgoing;
      learners_next = one n.learners_next s.learners_next;
    }
  where
    e : Option ℕ
    e = lesser_of m.voters f

    g : Option ℕ
    g = lesser_of m.voters_outgoing e

    h : Option ℕ
    h = lesser_of m.learners g

    one : (k : List ℕ) → Seen f k → Seen (least_of m f) k
    one k s = seen_still m.learners_next h k (seen_still m.learners g k (seen_still m.voters_outgoing e k (seen_still m.voters f k s)))

pub seen_first : (a b : ConfState) → AllSeen (next_of a b) a
unfolding next_of
seen_first a b = all_still b (least_of a None) a (all-now a None)

pub seen_second : (a b : ConfState) → AllSeen (next_of a b) b
unfolding next_of
seen_second a b = all-now b (least_of a None)

-- ** The first of one

-- the id is in a set
abbrev pub any_of : Standing → Bool
any_of s = s.voters || (s.outgoing || (s.learners || s.next))

or_first : (p q : Bool) → p ≡ true → p || q ≡ true
or_first true q h = refl
or_first false q h = absurd (false≢true h)

-- what was found, if something was, is one of which q says yes
unfoldable Met : (ℕ → Bool) → Option ℕ → Type 0
Met q None = Unit {0}
Met q (Some x) = q x ≡ true

met_one : (q : ℕ → Bool) (l : List ℕ) (f : Option ℕ) → Met q f → ((y : ℕ) → first_is y l ≡ true → q y ≡ true) → Met q (lesser_of l f)
unfolding Met lesser_of first_is
met_one q [] f h k = h
met_one q (y ∷ ys) None h k = k y (eq-eqb y y refl)
met_one q (y ∷ ys) (Some x) h k = min_cases x y (q (min x y) ≡ true) (λ i e. rw e h) (λ i e. rw e (k y (eq-eqb y y refl)))

met_all : (q : ℕ → Bool) (m : ConfState) (f : Option ℕ) → Met q f → ((y : ℕ) → any_of (firsts_of m y) ≡ true → q y ≡ true) → Met q (least_of m f)
unfolding firsts_of
met_all q m f h k =
    met_one q m.learners_next (lesser_of m.learners (lesser_of m.voters_outgoing (lesser_of m.voters f)))
    (met_one q m.learners (lesser_of m.voters_outgoing (lesser_of m.voters f))
    (met_one q m.voters_outgoing (lesser_of m.voters f)
    (met_one q m.voters f h (λ y e. k y (or_first (v y) (o y || (l y || n y)) e)))
    (λ y e. k y (or-true (v y) (o y || (l y || n y)) (or_first (o y) (l y || n y) e))))
    (λ y e. k y (or-true (v y) (o y || (l y || n y)) (or-true (o y) (l y || n y) (or_first (l y) (n y) e)))))
    (λ y e. k y (or-true (v y) (o y || (l y || n y)) (or-true (o y) (l y || n y) (or-true (l y) (n y) e))))
  where
    v : ℕ → Bool
    v y = first_is y m.voters

    o : ℕ → Bool
    o y = first_is y m.voters_outgoing

    l : ℕ → Bool
    l y = first_is y m.learners

    n : ℕ → Bool
    n y = first_is y m.learners_next

-- x is the first of a list of one of both
abbrev pub first_of_one : ConfState → ConfState → ℕ → Bool
first_of_one a b x = any_of (firsts_of a x) || any_of (firsts_of b x)

next_met : (a b : ConfState) → Met (first_of_one a b) (next_of a b)
unfolding Met next_of
next_met a b =
    met_all (first_of_one a b) b (least_of a None)
    (met_all (first_of_one a b) a None tt (λ y e. or_first (any_of (firsts_of a y)) (any_of (firsts_of b y)) e))
    (λ y e. or-true (any_of (firsts_of a y)) (any_of (firsts_of b y)) e)

pub next-first : (a b : ConfState) (x : ℕ) → next_of a b ≡ Some x → first_of_one a b x ≡ true
unfolding Met
next-first a b x e = subst (Met (first_of_one a b)) e (next_met a b)
