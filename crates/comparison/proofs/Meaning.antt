-- Messages of one meaning have no line between them, and those without a line have one meaning. Assumes nothing.
use Prim.Native.Nat.{ℕ, ◌<◌}
use mathlib.Core.Path.{◌≡◌, refl, ap, sym, ◌∙◌}
use mathlib.Core.Bool.{Bool, true, false, beq, ◌&&◌, ◌||◌, cond, true≢false, false≢true}
use mathlib.Core.List.{List, [], ◌∷◌, ◌++◌}
use native.Mathlib.Omega.{arith}
use borrow.Author.Tests.{eqb-true}
use lib.Dec.{eqb}
use lib.ListN.{length, length-append}
use Rattle.rules.specs.Ids.{memb, ascending, insert_all}
use Rattle.rules.specs.State.{ConfState}
use Rattle.rules.proofs.Sets.{or_left, or_right, and_left, and_right, memb-all, ascending-all, ascending_ext}
use Rattle.text.specs.Text.{decimal, each, ascii}
use Rattle.comparison.specs.Compare.{standing, same, standing_text, line, line_if, line_of, ids_of, ids_of_both, flag_line, lines}
use Rattle.comparison.specs.Told.{sets, as_sets}
use Rattle.comparison.specs.Steps.{Sorted}
use Rattle.comparison.specs.declared.line.Standing.{Standing}

-- ** The ids that are looked at

pub or_none : (p : Bool) → p || false ≡ p
or_none true = refl
or_none false = refl

or_apart : (p q r : Bool) → p || (q || r) ≡ (p || q) || r
or_apart true q r = refl
or_apart false q r = refl

pub memb_append : (x : ℕ) (xs ys : List ℕ) → memb x (xs ++ ys) ≡ memb x xs || memb x ys
unfolding memb
memb_append x [] ys = refl
memb_append x (y ∷ xs) ys = ap (λ (p : Bool). eqb y x || p) (memb_append x xs ys) ∙ or_apart (eqb y x) (memb x xs) (memb x ys)

-- a list as a set has the same ids
memb-set : (x : ℕ) (xs : List ℕ) → memb x (insert_all xs []) ≡ memb x xs
unfolding memb
memb-set x xs = memb-all x xs [] ∙ or_none (memb x xs)

set_ascends : (xs : List ℕ) → ascending (insert_all xs []) ≡ true
unfolding ascending
set_ascends xs = ascending-all xs [] refl

pub ids_ascend : (a b : ConfState) → ascending (ids_of_both a b) ≡ true
unfolding ids_of_both
ids_ascend a b = set_ascends (ids_of a ++ ids_of b)

pub every_id : (a b : ConfState) (x : ℕ) → memb x (ids_of_both a b) ≡ memb x (ids_of a) || memb x (ids_of b)
unfolding ids_of_both
every_id a b x = memb-set x (ids_of a ++ ids_of b) ∙ memb_append x (ids_of a) (ids_of b)

-- ** Standings

beq_true : (p q : Bool) → beq p q ≡ true → p ≡ q
beq_true true true e = refl
beq_true true false e = sym e
beq_true false true e = e
beq_true false false e = refl

beq_self : (p : Bool) → beq p p ≡ true
beq_self true = refl
beq_self false = refl

pub same_true : (s t : Standing) → same s t ≡ true → s ≡ t
same_true s t e =
    let v : Bool = beq s.voters t.voters in
    let o : Bool = beq s.outgoing t.outgoing in
    let l : Bool = beq s.learners t.learners in
    let n : Bool = beq s.next t.next in
    let three : v && o && l ≡ true = and_left (v && o && l) n e in
    let two : v && o ≡ true = and_left (v && o) l three in
    λ i. record {
      voters = beq_true s.voters t.voters (and_left v o two) i;
      outgoing = beq_true s.outgoing t.outgoing (and_right v o two) i;
      learners = beq_true s.learners t.learners (and_right (v && o) l three) i;
      next = beq_true s.next t.next (and_right (v && o && l) n e) i;
    }

pub same_self : (s : Standing) → same s s ≡ true
same_self s = rw (beq_self s.voters, beq_self s.outgoing, beq_self s.learners, beq_self s.next)

-- an id of none of the lists
nowhere : (m : ConfState) (x : ℕ) → memb x (ids_of m) ≡ false → standing m x ≡ sets false false false false
unfolding standing
nowhere m x e =
    λ i. record {
      voters = or_left (memb x m.voters) (memb x second) p i;
      outgoing = or_left (memb x m.voters_outgoing) (memb x third) q i;
      learners = or_left (memb x m.learners) (memb x m.learners_next) r i;
      next = or_right (memb x m.learners) (memb x m.learners_next) r i;
    }
  where
    third : List ℕ
    third = m.learners ++ m.learners_next

    second : List ℕ
    second = m.voters_outgoing ++ third

    p : memb x m.voters || memb x second ≡ false
    p = sym (memb_append x m.voters second) ∙ e

    q : memb x m.voters_outgoing || memb x third ≡ false
    q = sym (memb_append x m.voters_outgoing third) ∙ or_right (memb x m.voters) (memb x second) p

    r : memb x m.learners || memb x m.learners_next ≡ false
    r = sym (memb_append x m.learners m.learners_next) ∙ or_right (memb x m.voters_outgoing) (memb x third) q

-- an id that is not looked at is in neither message
pub unseen_same : (a b : ConfState) (x : ℕ) → memb x (ids_of_both a b) ≡ false → standing a x ≡ standing b x
unseen_same a b x e =
    let h : memb x (ids_of a) || memb x (ids_of b) ≡ false = sym (every_id a b x) ∙ e in
    nowhere a x (or_left (memb x (ids_of a)) (memb x (ids_of b)) h) ∙ sym (nowhere b x (or_right (memb x (ids_of a)) (memb x (ids_of b)) h))

pub differing_line : (a b : ConfState) (x : ℕ) → same (standing a x) (standing b x) ≡ false → memb x (ids_of_both a b) ≡ true
differing_line a b x h = by (memb x (ids_of_both a b)) refl
  where
    by : (t : Bool) → memb x (ids_of_both a b) ≡ t → t ≡ true
    by true e = refl
    by false e =
        let s : same (standing b x) (standing b x) ≡ false = rw (unseen_same a b x e) at h in
        sym s ∙ same_self (standing b x)

-- ** Sets

pub sets-sorted : (m : ConfState) → Sorted (as_sets m)
unfolding as_sets
sets-sorted m =
    record {
      voters = set_ascends m.voters;
      learners = set_ascends m.learners;
      voters_outgoing = set_ascends m.voters_outgoing;
      learners_next = set_ascends m.learners_next;
    }

-- each list as a set, every id stands where it stood
pub standing-sets : (m : ConfState) (x : ℕ) → standing (as_sets m) x ≡ standing m x
unfolding standing as_sets
standing-sets m x =
    λ i. record {
      voters = memb-set x m.voters i;
      outgoing = memb-set x m.voters_outgoing i;
      learners = memb-set x m.learners i;
      next = memb-set x m.learners_next i;
    }

-- a message whose lists ascend, and in which every id stands as in m, is m with each list as a set
pub sets-by-standing : (s m : ConfState) → Sorted s → ((x : ℕ) → standing s x ≡ standing m x) → s.auto_leave ≡ m.auto_leave → s ≡ as_sets m
unfolding standing as_sets
sets-by-standing s m h k flag =
    λ i. record {
      voters = one s.voters m.voters h.voters (λ x. ap (λ (t : Standing). t.voters) (k x)) i;
      learners = one s.learners m.learners h.learners (λ x. ap (λ (t : Standing). t.learners) (k x)) i;
      voters_outgoing = one s.voters_outgoing m.voters_outgoing h.voters_outgoing (λ x. ap (λ (t : Standing). t.outgoing) (k x)) i;
      learners_next = one s.learners_next m.learners_next h.learners_next (λ x. ap (λ (t : Standing). t.next) (k x)) i;
      auto_leave = flag i;
    }
  where
    one : (xs ys : List ℕ) → ascending xs ≡ true → ((x : ℕ) → memb x xs ≡ memb x ys) → xs ≡ insert_all ys []
    one xs ys a e = ascending_ext xs (insert_all ys []) a (set_ascends ys) (λ x. e x ∙ sym (memb-set x ys))

-- ** No line

same_flag : (p : Bool) → flag_line p p ≡ []
unfolding flag_line
same_flag true = refl
same_flag false = refl

no_line : (a b : ConfState) (xs : List ℕ) → ((x : ℕ) → standing a x ≡ standing b x) → each (line_of a b) xs ≡ []
unfolding each line_if
no_line a b [] h = refl
no_line a b (x ∷ xs) h =
    let s : same (standing a x) (standing b x) ≡ true = ap (λ (t : Standing). same t (standing b x)) (h x) ∙ same_self (standing b x) in
    rw s (no_line a b xs h)

pub equal-is-silent : (a b : ConfState) → as_sets a ≡ as_sets b → lines a b ≡ []
unfolding lines as_sets
equal-is-silent a b e = rw (no_line a b (ids_of_both a b) stands, flags) (same_flag b.auto_leave)
  where
    stands : (x : ℕ) → standing a x ≡ standing b x
    stands x = sym (standing-sets a x) ∙ ap (λ (m : ConfState). standing m x) e ∙ standing-sets b x

    flags : a.auto_leave ≡ b.auto_leave
    flags = ap (λ (m : ConfState). m.auto_leave) e

-- ** No difference

pub line-some : (x : ℕ) (s t : Standing) → 0 < length (line x s t)
unfolding line
line-some x s t = omega (arith, length-append (decimal x) (ascii " " ++ (standing_text s ++ (ascii " -> " ++ (standing_text t ++ ascii "\n")))))

none_left : (xs ys : List ℕ) → xs ++ ys ≡ [] → xs ≡ []
none_left [] ys e = refl
none_left (x ∷ xs) ys e = let none : length (x ∷ (xs ++ ys)) ≡ 0 = ap length e in absurd (omega arith)

none_right : (xs ys : List ℕ) → xs ++ ys ≡ [] → ys ≡ []
none_right [] ys e = e
none_right (x ∷ xs) ys e = let none : length (x ∷ (xs ++ ys)) ≡ 0 = ap length e in absurd (omega arith)

-- an id without a line stands in the second as in the first
quiet_same : (a b : ConfState) (x : ℕ) → line_of a b x ≡ [] → same (standing a x) (standing b x) ≡ true
unfolding line_if
quiet_same a b x e = by (same (standing a x) (standing b x)) e
  where
    by : (t : Bool) → cond t [] (line x (standing a x) (standing b x)) ≡ [] → t ≡ true
    by true e = refl
    by false e =
        let none : length (line x (standing a x) (standing b x)) ≡ 0 = ap length e in
        absurd (omega (arith, line-some x (standing a x) (standing b x)))

each_quiet : (a b : ConfState) (xs : List ℕ) → each (line_of a b) xs ≡ [] → (x : ℕ) → memb x xs ≡ true → same (standing a x) (standing b x) ≡ true
unfolding each memb
each_quiet a b [] e x h = absurd (false≢true h)
each_quiet a b (y ∷ ys) e x h = by (eqb y x) refl h (each_quiet a b ys (none_right (line_of a b y) (each (line_of a b) ys) e) x)
  where
    by : (t : Bool) → eqb y x ≡ t → t || memb x ys ≡ true → (memb x ys ≡ true → same (standing a x) (standing b x) ≡ true)
        → same (standing a x) (standing b x) ≡ true
    by true q h r = rw (← eqb-true y x q) (quiet_same a b y (none_left (line_of a b y) (each (line_of a b) ys) e))
    by false q h r = r h

quiet_flags : (p q : Bool) → flag_line p q ≡ [] → p ≡ q
unfolding flag_line
quiet_flags true true e = refl
quiet_flags true false e = let none : length (flag_line true false) ≡ 0 = ap length e in absurd (omega arith)
quiet_flags false true e = let none : length (flag_line false true) ≡ 0 = ap length e in absurd (omega arith)
quiet_flags false false e = refl

pub silent-is-equal : (a b : ConfState) → lines a b ≡ [] → as_sets a ≡ as_sets b
unfolding lines as_sets
silent-is-equal a b e = sets-by-standing (as_sets a) b (sets-sorted a) (λ x. standing-sets a x ∙ stands x) flags
  where
    texts : List ℕ
    texts = each (line_of a b) (ids_of_both a b)

    last : List ℕ
    last = flag_line a.auto_leave b.auto_leave

    stands : (x : ℕ) → standing a x ≡ standing b x
    stands x = by (same (standing a x) (standing b x)) refl
      where
        by : (t : Bool) → same (standing a x) (standing b x) ≡ t → standing a x ≡ standing b x
        by true q = same_true (standing a x) (standing b x) q
        by false q = absurd (true≢false (sym (each_quiet a b (ids_of_both a b) (none_left texts last e) x (differing_line a b x q)) ∙ q))

    flags : a.auto_leave ≡ b.auto_leave
    flags = quiet_flags a.auto_leave b.auto_leave (none_right texts last e)
