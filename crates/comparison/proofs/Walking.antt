-- Two messages whose lists ascend, walked side by side: the line of the next id, and then those of what is left. Assumes nothing.
use Prim.Native.Nat.{ℕ, ◌+◌, ◌≤◌, ◌<◌}
use Rattle.std.specs.Prelude.{Option, Some, None}
use mathlib.Core.Path.{◌≡◌, refl, ap, sym, ◌∙◌}
use mathlib.Core.Bool.{Bool, true, false, ◌||◌, cond, true≢false, false≢true}
use mathlib.Core.List.{List, [], ◌∷◌, ◌++◌}
use native.Mathlib.Omega.{arith}
use borrow.Author.Tests.{leb-true, ltb-true, ltb-false, lt-ltb, eqb-true, eqb-false, ne_eqb}
use lib.Dec.{eqb, ltb}
use lib.ListN.{length}
use Rattle.rules.specs.Ids.{memb, above, ascending, insert_all}
use Rattle.rules.specs.State.{ConfState}
use Rattle.rules.proofs.Sets.{or-true, above_none, memb-before, memb_head, rising_tail, ascending_ext}
use Rattle.text.specs.Text.{each}
use Rattle.idset.specs.Places.{first_is}
use Rattle.comparison.specs.Compare.{standing, line_if, line_of, ids_of, ids_of_both, id_lines, lines}
use Rattle.comparison.specs.Told.{sets, as_sets}
use Rattle.comparison.specs.Steps.{Sorted, next_of, firsts_of, one_of}
use Rattle.comparison.specs.declared.line.Standing.{Standing}
use Rattle.comparison.proofs.Firsts.{not_after, AllSeen, seen-none, seen-some, seen_first, seen_second, any_of, next-first}
use Rattle.comparison.proofs.Meaning.{or_none, memb_append, every_id, ids_ascend, standing-sets}

-- ** What is left

-- the list without its first, where that is x
unfoldable pub past_first : ℕ → List ℕ → List ℕ
past_first x [] = []
past_first x (y ∷ ys) = cond (eqb y x) ys (y ∷ ys)

unfoldable pub past_id : ℕ → ConfState → ConfState
past_id x m =
    record {
      voters = past_first x m.voters;
      learners = past_first x m.learners;
      voters_outgoing = past_first x m.voters_outgoing;
      learners_next = past_first x m.learners_next;
      auto_leave = m.auto_leave;
    }

past_ascends : (x : ℕ) (l : List ℕ) → ascending l ≡ true → ascending (past_first x l) ≡ true
unfolding past_first ascending
past_ascends x [] a = refl
past_ascends x (y ∷ ys) a = by (eqb y x)
  where
    by : (t : Bool) → ascending (cond t ys (y ∷ ys)) ≡ true
    by true = rising_tail y ys a
    by false = a

pub past-sorted : (x : ℕ) (m : ConfState) → Sorted m → Sorted (past_id x m)
unfolding past_id
past-sorted x m s =
    record {
      voters = past_ascends x m.voters s.voters;
      learners = past_ascends x m.learners s.learners;
      voters_outgoing = past_ascends x m.voters_outgoing s.voters_outgoing;
      learners_next = past_ascends x m.learners_next s.learners_next;
    }

-- ** The end

pub none_left : (a b : ConfState) → next_of a b ≡ None → id_lines a b ≡ []
unfolding ids_of_both insert_all each
none_left a b e =
    rw (
      seen-none a.voters e s.voters,
      seen-none a.voters_outgoing e s.voters_outgoing,
      seen-none a.learners e s.learners,
      seen-none a.learners_next e s.learners_next,
      seen-none b.voters e t.voters,
      seen-none b.voters_outgoing e t.voters_outgoing,
      seen-none b.learners e t.learners,
      seen-none b.learners_next e t.learners_next,
    )
  where
    s : AllSeen (next_of a b) a
    s = seen_first a b

    t : AllSeen (next_of a b) b
    t = seen_second a b

-- ** One list

-- an id that is not more than the first of a list is in it only as its first
first-memb : (x : ℕ) (l : List ℕ) → ascending l ≡ true → not_after x l ≡ true → first_is x l ≡ memb x l
unfolding first_is memb ascending not_after
first-memb x [] a h = refl
first-memb x (y ∷ ys) a h = rw (above_none x y ys a (leb-true x y h)) (sym (or_none (eqb y x)))

memb_less : (x y : ℕ) (l : List ℕ) → ascending l ≡ true → not_after x l ≡ true → y < x → memb y l ≡ false
unfolding memb ascending not_after
memb_less x y [] a h k = refl
memb_less x y (z ∷ zs) a h k = memb-before y z zs a (omega (arith, leb-true x z h))

past_more : (x y : ℕ) (l : List ℕ) → x < y → memb y (past_first x l) ≡ memb y l
unfolding memb past_first
past_more x y [] k = refl
past_more x y (z ∷ zs) k = by (eqb z x) refl
  where
    by : (t : Bool) → eqb z x ≡ t → memb y (cond t zs (z ∷ zs)) ≡ eqb z y || memb y zs
    by true e = let ne : z ≡ y → ⊥ = omega (arith, eqb-true z x e) in rw (ne_eqb z y ne)
    by false e = refl

past_none : (x y : ℕ) (l : List ℕ) → ascending l ≡ true → not_after x l ≡ true → y ≤ x → memb y (past_first x l) ≡ false
unfolding memb past_first ascending not_after
past_none x y [] a h k = refl
past_none x y (z ∷ zs) a h k = by (eqb z x) refl
  where
    by : (t : Bool) → eqb z x ≡ t → memb y (cond t zs (z ∷ zs)) ≡ false
    by true e = above_none y z zs a (omega (arith, eqb-true z x e))
    by false e =
        let ne : z ≡ x → ⊥ = eqb-false z x e in
        memb-before y z zs a (omega (arith, leb-true x z h))

-- ** One message

abbrev nowhere : Standing
nowhere = sets false false false false

-- the first of no list is less than x
record NotAfter (x : ℕ) (m : ConfState) : Type 0 where
  voters : not_after x m.voters ≡ true
  learners : not_after x m.learners ≡ true
  voters_outgoing : not_after x m.voters_outgoing ≡ true
  learners_next : not_after x m.learners_next ≡ true

module _ (x : ℕ) (m : ConfState) (s : Sorted m) (h : NotAfter x m) where
  firsts_stand : firsts_of m x ≡ standing m x
  unfolding firsts_of standing
  firsts_stand =
      λ i. record {
        voters = first-memb x m.voters s.voters h.voters i;
        outgoing = first-memb x m.voters_outgoing s.voters_outgoing h.voters_outgoing i;
        learners = first-memb x m.learners s.learners h.learners i;
        next = first-memb x m.learners_next s.learners_next h.learners_next i;
      }

  stand_less : (y : ℕ) → y < x → standing m y ≡ nowhere
  unfolding standing
  stand_less y k =
      λ i. record {
        voters = memb_less x y m.voters s.voters h.voters k i;
        outgoing = memb_less x y m.voters_outgoing s.voters_outgoing h.voters_outgoing k i;
        learners = memb_less x y m.learners s.learners h.learners k i;
        next = memb_less x y m.learners_next s.learners_next h.learners_next k i;
      }

  stand_past : (y : ℕ) → y ≤ x → standing (past_id x m) y ≡ nowhere
  unfolding standing past_id
  stand_past y k =
      λ i. record {
        voters = past_none x y m.voters s.voters h.voters k i;
        outgoing = past_none x y m.voters_outgoing s.voters_outgoing h.voters_outgoing k i;
        learners = past_none x y m.learners s.learners h.learners k i;
        next = past_none x y m.learners_next s.learners_next h.learners_next k i;
      }

stand_more : (x y : ℕ) (m : ConfState) → x < y → standing (past_id x m) y ≡ standing m y
unfolding standing past_id
stand_more x y m k =
    λ i. record {
      voters = past_more x y m.voters k i;
      outgoing = past_more x y m.voters_outgoing k i;
      learners = past_more x y m.learners k i;
      next = past_more x y m.learners_next k i;
    }

-- ** Ids and lines of both

memb-ids : (m : ConfState) (y : ℕ) → memb y (ids_of m) ≡ any_of (standing m y)
unfolding standing
memb-ids m y =
    rw (
      memb_append y m.voters (m.voters_outgoing ++ (m.learners ++ m.learners_next)),
      memb_append y m.voters_outgoing (m.learners ++ m.learners_next),
      memb_append y m.learners m.learners_next,
    )

memb_both : (a b : ConfState) (y : ℕ) → memb y (ids_of_both a b) ≡ any_of (standing a y) || any_of (standing b y)
memb_both a b y = every_id a b y ∙ rw (memb-ids a y, memb-ids b y)

each_same : (f g : ℕ → List ℕ) (xs : List ℕ) → ((y : ℕ) → memb y xs ≡ true → f y ≡ g y) → each f xs ≡ each g xs
unfolding each memb
each_same f g [] h = refl
each_same f g (x ∷ xs) h = rw (h x (memb_head x xs), each_same f g xs (λ y e. h y (or-true (eqb x y) (memb y xs) e)))

above-each : (x : ℕ) (ys : List ℕ) → ascending ys ≡ true → ((y : ℕ) → memb y ys ≡ true → x < y) → above x ys ≡ true
unfolding above ascending
above-each x [] a h = refl
above-each x (y ∷ ys) a h = rw (lt-ltb x y (h y (memb_head y ys))) a

module _ (a b : ConfState) (s : Sorted a) (t : Sorted b) (x : ℕ) (h : NotAfter x a) (k : NotAfter x b)
    (one : any_of (firsts_of a x) || any_of (firsts_of b x) ≡ true) where
  rest : List ℕ
  rest = ids_of_both (past_id x a) (past_id x b)

  rest_more : (y : ℕ) → memb y rest ≡ true → x < y
  unfolding rest
  rest_more y e = by (ltb x y) refl
    where
      none : y ≤ x → memb y (ids_of_both (past_id x a) (past_id x b)) ≡ false
      none le = memb_both (past_id x a) (past_id x b) y ∙ rw (stand_past x a s h y le, stand_past x b t k y le)

      by : (u : Bool) → ltb x y ≡ u → x < y
      by true p = ltb-true x y p
      by false p = absurd (true≢false (sym e ∙ none (ltb-false x y p)))

  ids-same : (y : ℕ) → memb y (ids_of_both a b) ≡ eqb x y || memb y rest
  unfolding rest
  ids-same y = memb_both a b y ∙ (by (ltb x y) (eqb x y) refl refl ∙ ap (λ (p : Bool). eqb x y || p) (sym (memb_both (past_id x a) (past_id x b) y)))
    where
      by : (u v : Bool) → ltb x y ≡ u → eqb x y ≡ v
          → any_of (standing a y) || any_of (standing b y) ≡ v || (any_of (standing (past_id x a) y) || any_of (standing (past_id x b) y))
      by u true p q = rw (← eqb-true x y q, ← firsts_stand x a s h, ← firsts_stand x b t k) one
      by true false p q = rw (stand_more x y a (ltb-true x y p), stand_more x y b (ltb-true x y p))
      by false false p q =
          let ne : x ≡ y → ⊥ = eqb-false x y q in
          let le : y ≤ x = ltb-false x y p in
          let lt : y < x = omega arith in
          rw (stand_less x a s h y lt, stand_less x b t k y lt, stand_past x a s h y le, stand_past x b t k y le)

  ids_next : ids_of_both a b ≡ x ∷ rest
  unfolding memb ascending rest
  ids_next = ascending_ext (ids_of_both a b) (x ∷ rest) (ids_ascend a b) (above-each x rest (ids_ascend (past_id x a) (past_id x b)) rest_more) ids-same

  lines_rest : each (line_of a b) rest ≡ each (line_of (past_id x a) (past_id x b)) rest
  lines_rest =
      each_same (line_of a b) (line_of (past_id x a) (past_id x b)) rest
      (λ y e. rw (stand_more x y a (rest_more y e), stand_more x y b (rest_more y e)))

  lines_next : id_lines a b ≡ line_if x (firsts_of a x) (firsts_of b x) ++ id_lines (past_id x a) (past_id x b)
  unfolding each rest
  lines_next = rw (ids_next, firsts_stand x a s h, firsts_stand x b t k, lines_rest)

low : (m : ConfState) {f : Option ℕ} {x : ℕ} → f ≡ Some x → AllSeen f m → NotAfter x m
low m e s =
    record {
      voters = seen-some m.voters e s.voters;
      learners = seen-some m.learners e s.learners;
      voters_outgoing = seen-some m.voters_outgoing e s.voters_outgoing;
      learners_next = seen-some m.learners_next e s.learners_next;
    }

pub one_more_lem : (a b : ConfState) → Sorted a → Sorted b → (x : ℕ) → next_of a b ≡ Some x
    → id_lines a b ≡ line_if x (firsts_of a x) (firsts_of b x) ++ id_lines (past_id x a) (past_id x b)
one_more_lem a b s t x e = lines_next a b s t x (low a e (seen_first a b)) (low b e (seen_second a b)) (next-first a b x e)

-- ** The walk ends

abbrev pub size : ConfState → ℕ
size m = length m.voters + length m.voters_outgoing + length m.learners + length m.learners_next

abbrev count : Standing → ℕ
count s = one_of s.voters + one_of s.outgoing + one_of s.learners + one_of s.next

past-length : (x : ℕ) (l : List ℕ) → length (past_first x l) + one_of (first_is x l) ≡ length l
unfolding past_first first_is
past-length x [] = omega arith
past-length x (y ∷ ys) = by (eqb y x)
  where
    by : (t : Bool) → length (cond t ys (y ∷ ys)) + one_of t ≡ length (y ∷ ys)
    by true = omega arith
    by false = omega arith

past-size : (x : ℕ) (m : ConfState) → size (past_id x m) + count (firsts_of m x) ≡ size m
unfolding past_id firsts_of
past-size x m =
    omega (arith, past-length x m.voters, past-length x m.voters_outgoing, past-length x m.learners, past-length x m.learners_next)

count-some : (s t : Standing) → any_of s || any_of t ≡ true → 0 < count s + count t
count-some s t = by s.voters s.outgoing s.learners s.next t.voters t.outgoing t.learners t.next
  where
    by : (a b c d e f g h : Bool) → (a || (b || (c || d))) || (e || (f || (g || h))) ≡ true
        → 0 < (one_of a + one_of b + one_of c + one_of d) + (one_of e + one_of f + one_of g + one_of h)
    by true b c d e f g h k = omega arith
    by false true c d e f g h k = omega arith
    by false false true d e f g h k = omega arith
    by false false false true e f g h k = omega arith
    by false false false false true f g h k = omega arith
    by false false false false false true g h k = omega arith
    by false false false false false false true h k = omega arith
    by false false false false false false false true k = omega arith
    by false false false false false false false false k = absurd (false≢true k)

pub one_stands : (a b : ConfState) (x : ℕ) → next_of a b ≡ Some x → size (past_id x a) + size (past_id x b) < size a + size b
one_stands a b x e = omega (arith, past-size x a, past-size x b, count-some (firsts_of a x) (firsts_of b x) (next-first a b x e))

-- ** Sets

pub lines-of-sets : (a b : ConfState) → lines (as_sets a) (as_sets b) ≡ lines a b
unfolding lines as_sets
lines-of-sets a b = rw (ids, each_same (line_of (as_sets a) (as_sets b)) (line_of a b) (ids_of_both a b) same)
  where
    ids : ids_of_both (as_sets a) (as_sets b) ≡ ids_of_both a b
    ids =
        ascending_ext (ids_of_both (as_sets a) (as_sets b)) (ids_of_both a b) (ids_ascend (as_sets a) (as_sets b)) (ids_ascend a b)
        (λ y. memb_both (as_sets a) (as_sets b) y ∙ rw (standing-sets a y, standing-sets b y) (sym (memb_both a b y)))

    same : (y : ℕ) → memb y (ids_of_both a b) ≡ true → line_of (as_sets a) (as_sets b) y ≡ line_of a b y
    same y e = rw (standing-sets a y, standing-sets b y)
