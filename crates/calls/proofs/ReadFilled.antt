-- Loops that fill an array from a function of the place: the values of f from k on, `step` apart. Assumes nothing.
use Prim.Native.Nat.{ℕ, zero, suc, ◌+◌, ◌*◌, ◌%◌, ◌≤◌, ◌<◌}
use mathlib.Core.Path.{◌≡◌, refl, ap, sym, ◌∙◌}
use mathlib.Core.List.{List, [], ◌∷◌, ◌++◌}
use native.Mathlib.Numerals.{add-one}
use native.Mathlib.Omega.{arith}
use lib.ListN.{length, take, set, length-set}
use lib.Seq.{take_all, take-suc-set}
use Rattle.progress.specs.declared.Progress.{Progress}
use Rattle.tracker.specs.declared.MapChange.{MapChange}
use Rattle.unplug.specs.Words.{words_by, records_by}
use Rattle.calls.specs.Layout.{word, words, record_at, records_at, kind_named, entries_at, kinds_at}

unfoldable pub spaced : {A : Type 0} → ℕ → (ℕ → A) → ℕ → ℕ → List A
spaced zero f step k = []
spaced (suc n) f step k = f k ∷ spaced n f step (k + step)

pub spaced-more : {A : Type 0} (n : ℕ) (f : ℕ → A) (step k : ℕ) → spaced (suc n) f step k ≡ spaced n f step k ++ (f (k + step * n) ∷ [])
unfolding spaced
spaced-more zero f step k =
    let e : k ≡ k + step * 0 = omega arith in
    ap (λ p. f p ∷ []) e
spaced-more (suc n) f step k =
    let e : k + step + step * n ≡ k + step * suc n = omega arith in
    ap (λ r. f k ∷ r) (spaced-more n f step (k + step) ∙ ap (λ p. spaced n f step (k + step) ++ (f p ∷ [])) e)

-- ** The lists of a request are such values

pub words-spaced : (n : ℕ) (s : List ℕ) (k : ℕ) → words n s k ≡ spaced n (word s) 1 k
unfolding words_by spaced
words-spaced zero s k = refl
words-spaced (suc n) s k = ap (λ r. word s k ∷ r) (words-spaced n s (k + 1))

abbrev pub kind_at : List ℕ → ℕ → ℕ
kind_at s k = word s k % 256

pub kinds-spaced : (n : ℕ) (s : List ℕ) (k : ℕ) → kinds_at n s k ≡ spaced n (kind_at s) 1 k
unfolding kinds_at spaced
kinds-spaced zero s k = refl
kinds-spaced (suc n) s k = ap (λ r. kind_at s k ∷ r) (kinds-spaced n s (k + 1))

pub records-spaced : (n : ℕ) (s : List ℕ) (k : ℕ) → records_at n s k ≡ spaced n (record_at s) 10 k
unfolding records_by spaced
records-spaced zero s k = refl
records-spaced (suc n) s k = ap (λ r. record_at s k ∷ r) (records-spaced n s (k + 10))

abbrev pub entry_at : List ℕ → ℕ → MapChange
entry_at s k = record { id = word s k; kind = kind_named (word s (k + 1)) }

pub entries_spaced : (n : ℕ) (s : List ℕ) (k : ℕ) → entries_at n s k ≡ spaced n (entry_at s) 2 k
unfolding entries_at spaced
entries_spaced zero s k = refl
entries_spaced (suc n) s k = ap (λ r. entry_at s k ∷ r) (entries_spaced n s (k + 2))

-- ** The loop

-- the first i of n values stand in out
pub record Filled {A : Type 0} (n : ℕ) (f : ℕ → A) (step k i : ℕ) (out : List A) : Type 0 where
  pub within : i ≤ n
  pub long : length out ≡ n
  pub same : take i out ≡ spaced i f step k

pub fill_start : {A : Type 0} {n : ℕ} {f : ℕ → A} {step k : ℕ} {out : List A} → length out ≡ n → Filled n f step k 0 out
unfolding spaced
fill_start e = record { within = omega arith; long = e; same = refl }

module _ {A : Type 0} {n : ℕ} {f : ℕ → A} {step k i : ℕ} {out : List A} (w : Filled n f step k i out) where
  pub fill_next : {x : A} (p : ℕ) → i < n → p ≡ k + step * i → x ≡ f p → Filled n f step k (i + 1) (set out i x)
  fill_next {x} p h e v =
      let inside : i < length out = omega (arith, w.long) in
      record {
        within = omega arith;
        long = length-set out i x ∙ w.long;
        same =
            ap (λ j. take j (set out i x)) (add-one i)
            ∙ take-suc-set out i x inside
            ∙ ap (λ l. l ++ (x ∷ [])) w.same
            ∙ ap (λ y. spaced i f step k ++ (y ∷ [])) (v ∙ ap f e)
            ∙ sym (spaced-more i f step k)
            ∙ ap (λ j. spaced j f step k) (sym (add-one i));
      }

  pub fill_end : n ≤ i → out ≡ spaced n f step k
  fill_end h =
      let all : i ≡ n = omega (arith, w.within) in
      sym (take_all i out (omega (arith, w.long))) ∙ w.same ∙ ap (λ j. spaced j f step k) all

-- ** Its end, for each list of a request

module _ {n : ℕ} (s : List ℕ) {k i : ℕ} where
  pub words-end : {out : List ℕ} → Filled n (word s) 1 k i out → n ≤ i → out ≡ words n s k
  words-end w h = fill_end w h ∙ sym (words-spaced n s k)

  pub kinds-end : {out : List ℕ} → Filled n (kind_at s) 1 k i out → n ≤ i → out ≡ kinds_at n s k
  kinds-end w h = fill_end w h ∙ sym (kinds-spaced n s k)

  pub records-end : {out : List Progress} → Filled n (record_at s) 10 k i out → n ≤ i → out ≡ records_at n s k
  records-end w h = fill_end w h ∙ sym (records-spaced n s k)

  pub entries_end : {out : List MapChange} → Filled n (entry_at s) 2 k i out → n ≤ i → out ≡ entries_at n s k
  entries_end w h = fill_end w h ∙ sym (entries_spaced n s k)
