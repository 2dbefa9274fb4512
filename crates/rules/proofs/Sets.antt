-- Laws of ascending lists. Assumes nothing.
use Prim.Native.Nat.{ℕ, suc, ◌+◌, ◌≤◌, ◌<◌}
use mathlib.Core.Path.{◌≡◌, refl, ap, ◌∙◌, sym}
use mathlib.Core.Bool.{Bool, true, false, ◌&&◌, ◌||◌, not, cond, true≢false, false≢true}
use mathlib.Core.List.{List, [], ◌∷◌}
use native.Mathlib.Omega.{arith}
use borrow.Author.Tests.{eq-eqb, ne_eqb, lt-ltb, ltb-true, ltb-false, eqb-true, eqb-false, not-true}
use lib.Dec.{eqb, ltb}
use lib.ListN.{length}
use Rattle.rules.specs.Ids.{above, apart, ascending, insert_all, insert_id, is_empty, memb, minus, remove_id, same_ids}

-- parts of a test
pub or_left : (a b : Bool) → a || b ≡ false → a ≡ false
or_left true b h = h
or_left false b h = refl

pub or_right : (a b : Bool) → a || b ≡ false → b ≡ false
or_right true b h = absurd (true≢false h)
or_right false b h = h

pub and_left : (a b : Bool) → a && b ≡ true → a ≡ true
and_left true b h = refl
and_left false b h = h

pub and_right : (a b : Bool) → a && b ≡ true → b ≡ true
and_right true b h = h
and_right false b h = absurd (false≢true h)

pub and_both : (a b : Bool) → a ≡ true → b ≡ true → a && b ≡ true
and_both a b p q = rw (p, q)

pub or-true : (a b : Bool) → b ≡ true → a || b ≡ true
or-true true b h = refl
or-true false b h = h

pub above_none : (x p : ℕ) (xs : List ℕ) → above p xs ≡ true → x ≤ p → memb x xs ≡ false
unfolding memb above
above_none x p [] h k = refl
above_none x p (y ∷ ys) h k =
    let lt : p < y = ltb-true p y (and_left (ltb p y) (above y ys) h) in
    let ne : y ≡ x → ⊥ = omega arith in
    let le : x ≤ y = omega arith in
    rw (ne_eqb y x ne, above_none x y ys (and_right (ltb p y) (above y ys) h) le)

pub rising_tail : (y : ℕ) (ys : List ℕ) → above y ys ≡ true → ascending ys ≡ true
unfolding ascending above
rising_tail y [] h = refl
rising_tail y (z ∷ zs) h = and_right (ltb y z) (above z zs) h

-- the ids after an insert
pub memb_insert : (x y : ℕ) (xs : List ℕ) → memb y (insert_id x xs) ≡ eqb x y || memb y xs
unfolding memb insert_id
memb_insert x y [] = refl
memb_insert x y (z ∷ zs) = go (memb_insert x y zs) (ltb z x) (eqb z x) refl
  where
    swap : (a b c : Bool) → a || (b || c) ≡ b || (a || c)
    swap true true c = refl
    swap true false c = refl
    swap false true c = refl
    swap false false c = refl

    twice : (a c : Bool) → a || c ≡ a || (a || c)
    twice true c = refl
    twice false c = refl

    go : memb y (insert_id x zs) ≡ eqb x y || memb y zs → (b e : Bool) → eqb z x ≡ e
        → memb y (cond b (z ∷ insert_id x zs) (cond e (z ∷ zs) (x ∷ z ∷ zs))) ≡ eqb x y || (eqb z y || memb y zs)
    go ih true e q = rw (ih) (swap (eqb z y) (eqb x y) (memb y zs))
    go ih false true q = rw (← eqb-true z x q) (twice (eqb z y) (memb y zs))
    go ih false false q = refl

above_insert : (p x : ℕ) (xs : List ℕ) → above p xs ≡ true → p < x → above p (insert_id x xs) ≡ true
unfolding above insert_id
above_insert p x [] a h = rw (lt-ltb p x h)
above_insert p x (z ∷ zs) a h =
    go (above_insert z x zs (and_right (ltb p z) (above z zs) a)) (ltb z x) refl (eqb z x) refl
  where
    go : (z < x → above z (insert_id x zs) ≡ true) → (b : Bool) → ltb z x ≡ b → (e : Bool) → eqb z x ≡ e
        → above p (cond b (z ∷ insert_id x zs) (cond e (z ∷ zs) (x ∷ z ∷ zs))) ≡ true
    go ih true b e q = rw (and_left (ltb p z) (above z zs) a, ih (ltb-true z x b))
    go ih false b true q = a
    go ih false b false q =
        let le : x ≤ z = ltb-false z x b in
        let ne : z ≡ x → ⊥ = eqb-false z x q in
        let lt : x < z = omega arith in
        rw (lt-ltb p x h, lt-ltb x z lt) (and_right (ltb p z) (above z zs) a)

pub ascending_insert : (x : ℕ) (xs : List ℕ) → ascending xs ≡ true → ascending (insert_id x xs) ≡ true
unfolding ascending above insert_id
ascending_insert x [] a = refl
ascending_insert x (z ∷ zs) a = go (ltb z x) refl (eqb z x) refl
  where
    go : (b : Bool) → ltb z x ≡ b → (e : Bool) → eqb z x ≡ e → ascending (cond b (z ∷ insert_id x zs) (cond e (z ∷ zs) (x ∷ z ∷ zs))) ≡ true
    go true b e q = above_insert z x zs a (ltb-true z x b)
    go false b true q = a
    go false b false q =
        let le : x ≤ z = ltb-false z x b in
        let ne : z ≡ x → ⊥ = eqb-false z x q in
        let lt : x < z = omega arith in
        rw (lt-ltb x z lt) a

pub above_less : (p q : ℕ) (xs : List ℕ) → above q xs ≡ true → p ≤ q → above p xs ≡ true
unfolding above
above_less p q [] a h = refl
above_less p q (z ∷ zs) a h =
    let lt : q < z = ltb-true q z (and_left (ltb q z) (above z zs) a) in
    let k : p < z = omega arith in
    rw (lt-ltb p z k) (and_right (ltb q z) (above z zs) a)

above_remove : (p x : ℕ) (xs : List ℕ) → above p xs ≡ true → above p (remove_id x xs) ≡ true
unfolding above remove_id
above_remove p x [] a = refl
above_remove p x (z ∷ zs) a = go (above_remove z x zs (and_right (ltb p z) (above z zs) a)) (eqb z x)
  where
    go : above z (remove_id x zs) ≡ true → (e : Bool) → above p (cond e zs (z ∷ remove_id x zs)) ≡ true
    go ih true =
        let lt : p < z = ltb-true p z (and_left (ltb p z) (above z zs) a) in
        above_less p z zs (and_right (ltb p z) (above z zs) a) (omega arith)
    go ih false = rw (and_left (ltb p z) (above z zs) a, ih)

pub ascending_remove : (x : ℕ) (xs : List ℕ) → ascending xs ≡ true → ascending (remove_id x xs) ≡ true
unfolding ascending remove_id
ascending_remove x [] a = refl
ascending_remove x (z ∷ zs) a = go (eqb z x)
  where
    go : (e : Bool) → ascending (cond e zs (z ∷ remove_id x zs)) ≡ true
    go true = rising_tail z zs a
    go false = above_remove z x zs a

-- the ids after a remove
pub memb_remove : (x y : ℕ) (xs : List ℕ) → ascending xs ≡ true → memb y (remove_id x xs) ≡ not (eqb x y) && memb y xs
unfolding memb remove_id ascending
memb_remove x y [] a = go (eqb x y)
  where
    go : (b : Bool) → false ≡ not b && false
    go true = refl
    go false = refl
memb_remove x y (z ∷ zs) a = go (memb_remove x y zs (rising_tail z zs a)) (eqb z x) refl (eqb x y) refl
  where
    go : memb y (remove_id x zs) ≡ not (eqb x y) && memb y zs → (e : Bool) → eqb z x ≡ e → (f : Bool) → eqb x y ≡ f
        → memb y (cond e zs (z ∷ remove_id x zs)) ≡ not f && (eqb z y || memb y zs)
    go ih true e true f =
        let h : y ≤ z = omega (arith, eqb-true z x e, eqb-true x y f) in
        above_none y z zs a h
    go ih true e false f =
        let ne : z ≡ y → ⊥ = λ q. eqb-false x y f (sym (eqb-true z x e) ∙ q) in
        rw (ne_eqb z y ne)
    go ih false e true f =
        let ne : z ≡ y → ⊥ = λ q. eqb-false z x e (q ∙ sym (eqb-true x y f)) in
        rw (ne_eqb z y ne, ih, f)
    go ih false e false f = rw (ih, f)

pub remove_none : (x : ℕ) (xs : List ℕ) → memb x xs ≡ false → remove_id x xs ≡ xs
unfolding remove_id memb
remove_none x [] h = refl
remove_none x (y ∷ ys) h = rw (or_left (eqb y x) (memb x ys) h, remove_none x ys (or_right (eqb y x) (memb x ys) h))

-- what is in an ascending list is inserted to no effect
pub insert_same : (x : ℕ) (xs : List ℕ) → ascending xs ≡ true → memb x xs ≡ true → insert_id x xs ≡ xs
unfolding insert_id memb ascending
insert_same x [] a m = absurd (false≢true m)
insert_same x (z ∷ zs) a m = go (insert_same x zs (rising_tail z zs a)) (ltb z x) refl (eqb z x) refl
  where
    go : (memb x zs ≡ true → insert_id x zs ≡ zs) → (b : Bool) → ltb z x ≡ b → (e : Bool) → eqb z x ≡ e → cond b (z ∷ insert_id x zs) (cond e (z ∷ zs) (x ∷ z ∷ zs)) ≡ z ∷ zs
    go ih true b e q =
        let ne : z ≡ x → ⊥ = omega (arith, ltb-true z x b) in
        let k : memb x zs ≡ true = ap (λ (c : Bool). c || memb x zs) (sym (ne_eqb z x ne)) ∙ m in
        rw (ih k)
    go ih false b true q = refl
    go ih false b false q =
        absurd (true≢false (sym m ∙ ap (λ (c : Bool). c || memb x zs) q ∙ above_none x z zs a (ltb-false z x b)))

pub memb_head : (y : ℕ) (ys : List ℕ) → memb y (y ∷ ys) ≡ true
unfolding memb
memb_head y ys = rw (eq-eqb y y refl)

pub apart_of : (xs ys : List ℕ) → ((x : ℕ) → memb x xs ≡ true → memb x ys ≡ false) → apart xs ys ≡ true
unfolding apart memb
apart_of [] ys h = refl
apart_of (x ∷ xs) ys h = rw (h x (memb_head x xs)) (apart_of xs ys (λ y m. h y (or-true (eqb x y) (memb y xs) m)))

pub of-apart : (xs ys : List ℕ) → apart xs ys ≡ true → (x : ℕ) → memb x xs ≡ true → memb x ys ≡ false
unfolding apart memb
of-apart [] ys h x m = absurd (false≢true m)
of-apart (y ∷ xs) ys h x m = go (eqb y x) refl m (of-apart xs ys (and_right (not (memb y ys)) (apart xs ys) h) x)
  where
    go : (b : Bool) → eqb y x ≡ b → b || memb x xs ≡ true → (memb x xs ≡ true → memb x ys ≡ false) → memb x ys ≡ false
    go true e m ih = ap (λ (z : ℕ). memb z ys) (sym (eqb-true y x e)) ∙ not-true (memb y ys) (and_left (not (memb y ys)) (apart xs ys) h)
    go false e m ih = ih m

pub memb-before : (x y : ℕ) (ys : List ℕ) → above y ys ≡ true → x < y → memb x (y ∷ ys) ≡ false
unfolding memb
memb-before x y ys a h =
    let ne : y ≡ x → ⊥ = omega arith in
    let le : x ≤ y = omega arith in
    rw (ne_eqb y x ne, above_none x y ys a le)

module _ (x y : ℕ) (xs ys : List ℕ) (a : above x xs ≡ true) (b : above y ys ≡ true) (e : (z : ℕ) → memb z (x ∷ xs) ≡ memb z (y ∷ ys)) where
  same_head : x ≡ y
  same_head = go (ltb x y) refl (ltb y x) refl
    where
      go : (b : Bool) → ltb x y ≡ b → (c : Bool) → ltb y x ≡ c → x ≡ y
      go true p c q = absurd (true≢false (sym (memb_head x xs) ∙ e x ∙ memb-before x y ys b (ltb-true x y p)))
      go false p true q = absurd (true≢false (sym (memb_head y ys) ∙ sym (e y) ∙ memb-before y x xs a (ltb-true y x q)))
      go false p false q = omega (arith, ltb-false x y p, ltb-false y x q)

  same_tail : (z : ℕ) → memb z xs ≡ memb z ys
  unfolding memb
  same_tail z = go (eqb x z) refl
    where
      go : (b : Bool) → eqb x z ≡ b → memb z xs ≡ memb z ys
      go true p =
          let h : z ≤ x = omega (arith, eqb-true x z p) in
          let k : z ≤ y = omega (arith, eqb-true x z p, same_head) in
          rw (above_none z x xs a h, above_none z y ys b k)
      go false p =
          let q : eqb y z ≡ false = ap (λ (w : ℕ). eqb w z) (sym same_head) ∙ p in
          ap (λ (c : Bool). c || memb z xs) (sym p) ∙ e z ∙ ap (λ (c : Bool). c || memb z ys) q

-- two ascending lists with the same ids are one
pub ascending_ext : (xs ys : List ℕ) → ascending xs ≡ true → ascending ys ≡ true → ((y : ℕ) → memb y xs ≡ memb y ys) → xs ≡ ys
unfolding ascending memb
ascending_ext [] [] a b e = refl
ascending_ext [] (y ∷ ys) a b e = absurd (false≢true (e y ∙ memb_head y ys))
ascending_ext (x ∷ xs) [] a b e = absurd (false≢true (sym (e x) ∙ memb_head x xs))
ascending_ext (x ∷ xs) (y ∷ ys) a b e =
    rw (same_head x y xs ys a b e, ascending_ext xs ys (rising_tail x xs a) (rising_tail y ys b) (same_tail x y xs ys a b e))

-- unions and differences
pub memb-all : (y : ℕ) (xs ys : List ℕ) → memb y (insert_all xs ys) ≡ memb y xs || memb y ys
unfolding memb insert_all
memb-all y [] ys = refl
memb-all y (x ∷ xs) ys = memb_insert x y (insert_all xs ys) ∙ go (eqb x y) (memb-all y xs ys)
  where
    go : (b : Bool) → memb y (insert_all xs ys) ≡ memb y xs || memb y ys → b || memb y (insert_all xs ys) ≡ b || memb y xs || memb y ys
    go true e = refl
    go false e = e

pub ascending-all : (xs ys : List ℕ) → ascending ys ≡ true → ascending (insert_all xs ys) ≡ true
unfolding insert_all
ascending-all [] ys a = a
ascending-all (x ∷ xs) ys a = ascending_insert x (insert_all xs ys) (ascending-all xs ys a)

-- those of xs of which p says yes
unfoldable pub keep : (ℕ → Bool) → List ℕ → List ℕ
keep p [] = []
keep p (x ∷ xs) = cond (p x) (x ∷ keep p xs) (keep p xs)

pub memb-keep : (y : ℕ) (p : ℕ → Bool) (xs : List ℕ) → memb y (keep p xs) ≡ memb y xs && p y
unfolding memb keep
memb-keep y p [] = refl
memb-keep y p (x ∷ xs) = go (p x) refl (eqb x y) refl (memb-keep y p xs)
  where
    last : (c : Bool) → c && false ≡ false
    last true = refl
    last false = refl

    go : (b : Bool) → p x ≡ b → (e : Bool) → eqb x y ≡ e → memb y (keep p xs) ≡ memb y xs && p y
        → memb y (cond b (x ∷ keep p xs) (keep p xs)) ≡ (e || memb y xs) && p y
    go true m true q ih = rw q (sym m ∙ ap p (eqb-true x y q))
    go true m false q ih = rw q ih
    go false m true q ih =
        let out : p y ≡ false = ap p (sym (eqb-true x y q)) ∙ m in
        ih ∙ ap (λ (c : Bool). memb y xs && c) out ∙ last (memb y xs) ∙ sym out
    go false m false q ih = ih

above-keep : (p : ℕ → Bool) (q : ℕ) (xs : List ℕ) → above q xs ≡ true → above q (keep p xs) ≡ true
unfolding above keep
above-keep p q [] a = refl
above-keep p q (x ∷ xs) a = go (p x) (above-keep p x xs (and_right (ltb q x) (above x xs) a))
  where
    go : (b : Bool) → above x (keep p xs) ≡ true → above q (cond b (x ∷ keep p xs) (keep p xs)) ≡ true
    go true ih = rw (and_left (ltb q x) (above x xs) a, ih)
    go false ih = above_less q x (keep p xs) ih (omega (arith, ltb-true q x (and_left (ltb q x) (above x xs) a)))

pub ascending-keep : (p : ℕ → Bool) (xs : List ℕ) → ascending xs ≡ true → ascending (keep p xs) ≡ true
unfolding ascending keep
ascending-keep p [] a = refl
ascending-keep p (x ∷ xs) a = go (p x) (ascending-keep p xs (rising_tail x xs a))
  where
    go : (b : Bool) → ascending (keep p xs) ≡ true → ascending (cond b (x ∷ keep p xs) (keep p xs)) ≡ true
    go true ih = above-keep p x xs a
    go false ih = ih

pub minus-keep : (xs ys : List ℕ) → minus xs ys ≡ keep (λ x. not (memb x ys)) xs
unfolding minus keep
minus-keep [] ys = refl
minus-keep (x ∷ xs) ys = go (memb x ys) (minus-keep xs ys)
  where
    go : (b : Bool) → minus xs ys ≡ keep (λ x. not (memb x ys)) xs
        → cond b (minus xs ys) (x ∷ minus xs ys) ≡ cond (not b) (x ∷ keep (λ x. not (memb x ys)) xs) (keep (λ x. not (memb x ys)) xs)
    go true ih = ih
    go false ih = ap (λ (l : List ℕ). x ∷ l) ih

pub memb-minus : (y : ℕ) (xs ys : List ℕ) → memb y (minus xs ys) ≡ memb y xs && not (memb y ys)
memb-minus y xs ys = ap (memb y) (minus-keep xs ys) ∙ memb-keep y (λ x. not (memb x ys)) xs

pub ascending-minus : (xs ys : List ℕ) → ascending xs ≡ true → ascending (minus xs ys) ≡ true
ascending-minus xs ys a = ap ascending (minus-keep xs ys) ∙ ascending-keep (λ x. not (memb x ys)) xs a

-- nothing is in an empty list only
pub empty_none : (xs : List ℕ) → is_empty xs ≡ true → (x : ℕ) → memb x xs ≡ false
unfolding memb
empty_none [] e x = refl
empty_none (y ∷ ys) e x = absurd (false≢true e)

pub same-ids : (xs ys : List ℕ) → same_ids xs ys ≡ true → xs ≡ ys
unfolding same_ids
same-ids [] [] e = refl
same-ids [] (y ∷ ys) e = absurd (false≢true e)
same-ids (x ∷ xs) [] e = absurd (false≢true e)
same-ids (x ∷ xs) (y ∷ ys) e = rw (eqb-true x y (and_left (eqb x y) (same_ids xs ys) e), same-ids xs ys (and_right (eqb x y) (same_ids xs ys) e))

pub ids-same : (xs : List ℕ) → same_ids xs xs ≡ true
unfolding same_ids
ids-same [] = refl
ids-same (x ∷ xs) = rw (eq-eqb x x refl, ids-same xs)

-- a part of an ascending list is no longer than it
pub length_remove : (x : ℕ) (xs : List ℕ) → memb x xs ≡ true → suc (length (remove_id x xs)) ≡ length xs
unfolding memb remove_id
length_remove x [] h = absurd (false≢true h)
length_remove x (y ∷ ys) h = go (eqb y x) h (length_remove x ys)
  where
    go : (b : Bool) → b || memb x ys ≡ true → (memb x ys ≡ true → suc (length (remove_id x ys)) ≡ length ys) → suc (length (cond b ys (y ∷ remove_id x ys))) ≡ suc (length ys)
    go true h ih = refl
    go false h ih = ap suc (ih h)

pub length_part : (xs ys : List ℕ) → ascending xs ≡ true → ascending ys ≡ true → ((y : ℕ) → memb y xs ≡ true → memb y ys ≡ true) → length xs ≤ length ys
unfolding ascending memb
length_part [] ys a b h = omega arith
length_part (x ∷ xs) ys a b h =
    omega (arith, length_remove x ys (h x (memb_head x xs)), length_part xs (remove_id x ys) (rising_tail x xs a) (ascending_remove x ys b) go)
  where
    go : (y : ℕ) → memb y xs ≡ true → memb y (remove_id x ys) ≡ true
    go y m = memb_remove x y ys b ∙ here (eqb x y) refl
      where
        here : (e : Bool) → eqb x y ≡ e → not e && memb y ys ≡ true
        here true q = absurd (true≢false (sym m ∙ above_none y x xs a (omega (arith, eqb-true x y q))))
        here false q = h y (or-true (eqb x y) (memb y xs) m)

pub length_insert_le : (x : ℕ) (xs : List ℕ) → length (insert_id x xs) ≤ length xs + 1
unfolding insert_id
length_insert_le x [] = omega arith
length_insert_le x (z ∷ zs) = go (length_insert_le x zs) (ltb z x) (eqb z x)
  where
    go : length (insert_id x zs) ≤ length zs + 1 → (b e : Bool) → length (cond b (z ∷ insert_id x zs) (cond e (z ∷ zs) (x ∷ z ∷ zs))) ≤ suc (length zs) + 1
    go ih true e = omega arith
    go ih false true = omega arith
    go ih false false = omega arith

pub length_remove_le : (x : ℕ) (xs : List ℕ) → length (remove_id x xs) ≤ length xs
unfolding remove_id
length_remove_le x [] = omega arith
length_remove_le x (z ∷ zs) = go (length_remove_le x zs) (eqb z x)
  where
    go : length (remove_id x zs) ≤ length zs → (e : Bool) → length (cond e zs (z ∷ remove_id x zs)) ≤ suc (length zs)
    go ih true = omega arith
    go ih false = omega arith
