-- Words, numbers and names are read back from their bytes. Assumes nothing.
use Prim.Native.Nat.{ℕ, zero, suc, ◌+◌, ◌-◌, ◌*◌, ◌/◌, ◌%◌, ◌^◌, ◌≤◌, ◌<◌}
use mathlib.Core.Path.{◌≡◌, refl, ap, ◌∙◌}
use mathlib.Core.Bool.{Bool, true, false, cond, false≢true}
use mathlib.Core.List.{List, [], ◌∷◌, ◌++◌}
use native.Mathlib.Nat.{div-lt_iff_lt-mul, pow-suc}
use native.Mathlib.Omega.{arith}
use borrow.Author.Tests.{eq-eqb, ne_eqb, ltb-true}
use lib.Dec.{eqb, ltb}
use lib.ListN.{length, length-append}
use Rattle.rules.specs.Ids.{same_ids}
use Rattle.text.specs.Text.{digits, decimal, each}
use Rattle.comparison.specs.Compare.{standing_text}
use Rattle.comparison.specs.Told.{up_to, after, value, sets, find, called}
use Rattle.comparison.specs.declared.line.Standing.{Standing}

-- ** Words

-- no byte c
unfoldable pub free : ℕ → List ℕ → Bool
free c [] = true
free c (b ∷ bs) = cond (eqb b c) false (free c bs)

pub up_to_lem : (c : ℕ) (w r : List ℕ) → free c w ≡ true → up_to c (w ++ (c ∷ r)) ≡ w
unfolding up_to free
up_to_lem c [] r h = rw (eq-eqb c c refl)
up_to_lem c (b ∷ bs) r h = by (up_to_lem c bs r) (eqb b c) h
  where
    by : (free c bs ≡ true → up_to c (bs ++ (c ∷ r)) ≡ bs) → (t : Bool) → cond t false (free c bs) ≡ true
        → cond t [] (b ∷ up_to c (bs ++ (c ∷ r))) ≡ b ∷ bs
    by k true h = absurd (false≢true h)
    by k false h = ap (λ (l : List ℕ). b ∷ l) (k h)

pub past : (c : ℕ) (w r : List ℕ) → free c w ≡ true → after c (w ++ (c ∷ r)) ≡ r
unfolding after free
past c [] r h = rw (eq-eqb c c refl)
past c (b ∷ bs) r h = by (past c bs r) (eqb b c) h
  where
    by : (free c bs ≡ true → after c (bs ++ (c ∷ r)) ≡ r) → (t : Bool) → cond t false (free c bs) ≡ true
        → cond t (bs ++ (c ∷ r)) (after c (bs ++ (c ∷ r))) ≡ r
    by k true h = absurd (false≢true h)
    by k false h = k h

-- ** Numbers

-- each byte is a digit
abbrev pub Digits : List ℕ → Type 0
Digits [] = Unit {0}
Digits (d ∷ ds) = ((48 ≤ d) × (d ≤ 57)) × Digits ds

digits_append : (xs ys : List ℕ) → Digits xs → Digits ys → Digits (xs ++ ys)
digits_append [] ys h k = k
digits_append (x ∷ xs) ys h k = (h.0, digits_append xs ys h.1 k)

digits-only : (k n : ℕ) → Digits (digits k n)
unfolding digits
digits-only zero n = tt
digits-only (suc k) n = by (digits-only k (n / 10)) (ltb n 10) refl
  where
    by : Digits (digits k (n / 10)) → (t : Bool) → ltb n 10 ≡ t → Digits (cond t ((48 + n) ∷ []) (digits k (n / 10) ++ ((48 + n % 10) ∷ [])))
    by r true t = ((omega arith, omega (arith, ltb-true n 10 t)), tt)
    by r false t = digits_append (digits k (n / 10)) ((48 + n % 10) ∷ []) r ((omega arith, omega arith), tt)

digits_free : (c : ℕ) (xs : List ℕ) → c < 48 → Digits xs → free c xs ≡ true
unfolding free
digits_free c [] h k = refl
digits_free c (x ∷ xs) h k = rw (ne_eqb x c (λ e. omega (arith, k.0.0))) (digits_free c xs h k.1)

digits-some : (k n : ℕ) → 0 < length (digits (suc k) n)
unfolding digits
digits-some k n = by (ltb n 10)
  where
    by : (t : Bool) → 0 < length (cond t ((48 + n) ∷ []) (digits k (n / 10) ++ ((48 + n % 10) ∷ [])))
    by true = omega arith
    by false = omega (arith, length-append (digits k (n / 10)) ((48 + n % 10) ∷ []))

value_append : (a : ℕ) (xs : List ℕ) (d : ℕ) → value a (xs ++ (d ∷ [])) ≡ value a xs * 10 + (d - 48)
unfolding value
value_append a [] d = refl
value_append a (x ∷ xs) d = value_append (a * 10 + (x - 48)) xs d

value-digits : (k n : ℕ) → n < 10 ^ k → value 0 (digits k n) ≡ n
unfolding digits value
value-digits zero n h = omega arith
value-digits (suc k) n h = by (value-digits k (n / 10) ((div-lt_iff_lt-mul {k = 10} (omega arith)).1 (rw (← pow-suc) h))) (ltb n 10)
  where
    by : value 0 (digits k (n / 10)) ≡ n / 10 → (t : Bool) → value 0 (cond t ((48 + n) ∷ []) (digits k (n / 10) ++ ((48 + n % 10) ∷ []))) ≡ n
    by r true = omega arith
    by r false = value_append 0 (digits k (n / 10)) (48 + n % 10) ∙ omega (arith, r)

pub decimal-digits : (n : ℕ) → Digits (decimal n)
unfolding decimal
decimal-digits n = digits-only 20 n

pub decimal-some : (n : ℕ) → 0 < length (decimal n)
unfolding decimal
decimal-some n = digits-some 19 n

-- no space
pub decimal-word : (n : ℕ) → free 32 (decimal n) ≡ true
decimal-word n = digits_free 32 (decimal n) (omega arith) (decimal-digits n)

pub decimal-back : (n : ℕ) → n < 2 ^ 64 → value 0 (decimal n) ≡ n
unfolding decimal
decimal-back n h = value-digits 20 n (omega arith)

-- ** Names

-- no space, no newline, and the standing is found by its text
pub record Spelled (s : Standing) : Type 0 where
  pub word : free 32 (standing_text s) ≡ true
  pub row : free 10 (standing_text s) ≡ true
  pub back : called (standing_text s) ≡ s

pub spelled : (s : Standing) → Spelled s
unfolding free standing_text each called find same_ids
spelled s = by s.voters s.outgoing s.learners s.next
  where
    by : (a b c d : Bool) → Spelled (sets a b c d)
    by true true true true = record { word = refl; row = refl; back = refl }
    by true true true false = record { word = refl; row = refl; back = refl }
    by true true false true = record { word = refl; row = refl; back = refl }
    by true true false false = record { word = refl; row = refl; back = refl }
    by true false true true = record { word = refl; row = refl; back = refl }
    by true false true false = record { word = refl; row = refl; back = refl }
    by true false false true = record { word = refl; row = refl; back = refl }
    by true false false false = record { word = refl; row = refl; back = refl }
    by false true true true = record { word = refl; row = refl; back = refl }
    by false true true false = record { word = refl; row = refl; back = refl }
    by false true false true = record { word = refl; row = refl; back = refl }
    by false true false false = record { word = refl; row = refl; back = refl }
    by false false true true = record { word = refl; row = refl; back = refl }
    by false false true false = record { word = refl; row = refl; back = refl }
    by false false false true = record { word = refl; row = refl; back = refl }
    by false false false false = record { word = refl; row = refl; back = refl }
