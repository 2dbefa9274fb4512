-- Laws of text that is put into a slice piece by piece. Assumes nothing.
use Prim.Native.Nat.{ℕ, suc, ◌+◌, ◌≤◌, ◌<◌, min}
use mathlib.Core.Path.{◌≡◌, refl, ap, sym, ◌∙◌}
use mathlib.Core.List.{List, [], ◌∷◌, ◌++◌, append_assoc}
use native.Mathlib.Nat.{zero-add}
use native.Mathlib.Numerals.{add-one}
use native.Mathlib.Omega.{arith, min_cases}
use lib.ListN.{length, set, length-append, take, drop, get_or, drop_of_length-le}
use lib.Seq.{sets, sets-eq, length-sets, set_out, drop-cons}
use Rattle.text.specs.Text.{each, decimal, spaced, words}
use Rattle.text.specs.Put.{Put, last}

-- what is put past the end changes nothing
pub sets_out : (xs l : List ℕ) (i : ℕ) → length l ≤ i → sets l i xs ≡ l
sets_out [] l i h = refl
sets_out (x ∷ xs) l i h = rw (set_out l i x h) (sets_out xs l (suc i) (omega arith))

pub sets_append : (xs ys l : List ℕ) (i : ℕ) → sets l i (xs ++ ys) ≡ sets (sets l i xs) (i + length xs) ys
sets_append [] ys l i = ap (λ (k : ℕ). sets l k ys) (omega arith)
sets_append (x ∷ xs) ys l i = sets_append xs ys (set l i x) (suc i) ∙ ap (λ (k : ℕ). sets (sets (set l i x) (suc i) xs) k ys) (omega arith)

-- past the largest place is past the end
sets-min : (xs l : List ℕ) (i : ℕ) → length l ≤ last → sets l (min i last) xs ≡ sets l i xs
sets-min xs l i h = min_cases i last (sets l (min i last) xs ≡ sets l i xs) (λ k e. rw e) (λ k e. rw e (sets_out xs l last h ∙ sym (sets_out xs l i (omega arith))))

sets_then : (xs ys l : List ℕ) (i : ℕ) → length l ≤ last → sets (sets l i xs) (min (i + length xs) last) ys ≡ sets l i (xs ++ ys)
sets_then xs ys l i h = sets-min ys (sets l i xs) (i + length xs) (omega (arith, length-sets l i xs)) ∙ sym (sets_append xs ys l i)

-- the empty text
pub put_none : {l : List ℕ} {at : ℕ} → at ≤ last → Put l at [] l at
put_none h = record { bytes = refl; end = omega arith }

-- one text after another
pub put_then : {l m n x y : List ℕ} {at p q : ℕ} → length l ≤ last → Put l at x m p → Put m p y n q → Put l at (x ++ y) n q
put_then {l} {m} {n} {x} {y} {at} {p} {q} h f g = record {
  bytes = g.bytes ∙ rw (f.bytes, f.end) (sets_then x y l at h);
  end = omega (arith, f.end, g.end, length-append x y);
}

pub put-length : {l x m : List ℕ} {at p : ℕ} → Put l at x m p → length m ≡ length l
put-length {l} {x} {m} {at} f = ap length f.bytes ∙ length-sets l at x

-- where the text fits: what stood before it and after it stays
pub put-fits : {l x m : List ℕ} {at p : ℕ} → Put l at x m p → at + length x ≤ length l → m ≡ take at l ++ (x ++ drop (at + length x) l)
put-fits {l} {x} {m} {at} f h = f.bytes ∙ (sets-eq x l at h ∙ append_assoc (take at l) x (drop (at + length x) l))

-- a text that is put at the start has as many bytes as its end says
pub put_count : {l x m : List ℕ} {n : ℕ} → Put l 0 x m n → length x ≤ last → n ≡ length x
put_count f h = omega (arith, f.end)

-- a text that is put at the start, and fits
pub put_whole : {l x m : List ℕ} {n : ℕ} → length l ≤ last → Put l 0 x m n → length x ≤ length l → (m ≡ x ++ drop (length x) l) × (n ≡ length x)
put_whole h f k = (rw zero-add at (put-fits f (omega arith)), put_count f (omega arith))

-- putting `rest` at p is all that is left of putting `text` at `at`
pub record Rest (old : List ℕ) (at : ℕ) (text out : List ℕ) (p : ℕ) (rest : List ℕ) : Type 0 where
  pub fits : length old ≤ last
  pub place : p ≤ last
  pub bytes : sets out p rest ≡ sets old at text
  pub end : min (p + length rest) last ≡ min (at + length text) last

pub rest_all : {l : List ℕ} {at : ℕ} {t : List ℕ} → length l ≤ last → at ≤ last → Rest l at t l at t
rest_all h k = record { fits = h; place = k; bytes = refl; end = refl }

pub rest-length : {old text out rest : List ℕ} {at p : ℕ} → Rest old at text out p rest → length out ≡ length old
rest-length {old} {text} {out} {rest} {at} {p} r = sym (length-sets out p rest) ∙ ap length r.bytes ∙ length-sets old at text

pub rest_put : {old text out x rest new : List ℕ} {at p q : ℕ} → Rest old at text out p (x ++ rest) → Put out p x new q → Rest old at text new q rest
rest_put {old} {text} {out} {x} {rest} {new} {at} {p} {q} r f = record {
  fits = r.fits;
  place = omega (arith, f.end);
  bytes = rw (f.bytes, f.end) (sets_then x rest out p (omega (arith, rest-length r, r.fits)) ∙ r.bytes);
  end = omega (arith, r.end, f.end, length-append x rest);
}

pub rest_none : {old text out : List ℕ} {at p : ℕ} → Rest old at text out p [] → Put old at text out p
rest_none r = record { bytes = r.bytes; end = omega (arith, r.place, r.end) }

pub rest-last : {old text out x new : List ℕ} {at p q : ℕ} → Rest old at text out p x → Put out p x new q → Put old at text new q
rest-last r f = record { bytes = f.bytes ∙ r.bytes; end = omega (arith, r.end, f.end) }

-- a loop that puts `text`, which is the texts of xs from some place on, has come to place i of xs
pub record Passing {A : Type 0} (f : A → List ℕ) (xs : List A) (text old : List ℕ) (at : ℕ) (out : List ℕ) (p i : ℕ) : Type 0 where
  pub within : i ≤ length xs
  pub left : Rest old at text out p (each f (drop i xs))

pub pass_from : {A : Type 0} (f : A → List ℕ) (xs : List A) (k : ℕ) {l : List ℕ} {at : ℕ} → k ≤ length xs → length l ≤ last → at ≤ last → Passing f xs (each f (drop k xs)) l at l at k
pass_from f xs k h m n = record { within = h; left = rest_all m n }

pub pass_start : {A : Type 0} {f : A → List ℕ} {xs : List A} {l : List ℕ} {at : ℕ} → length l ≤ last → at ≤ last → Passing f xs (each f xs) l at l at 0
pass_start {A} {f} {xs} h k = pass_from f xs 0 (omega arith) h k

each_at : {A : Type 0} (f : A → List ℕ) (xs : List A) (i : ℕ) (d : A) → i < length xs → each f (drop i xs) ≡ f (get_or xs i d) ++ each f (drop (i + 1) xs)
unfolding each
each_at f xs i d h = rw (drop-cons xs i d h, add-one)

module _ {A : Type 0} {f : A → List ℕ} {xs : List A} {text old : List ℕ} {at : ℕ} {out : List ℕ} {p i : ℕ} (s : Passing f xs text old at out p i) where
  pub pass_end : length xs ≤ i → Put old at text out p
  unfolding each
  pass_end h = rest_none (rw (drop_of_length-le xs h) at s.left)

  pub pass_length : length out ≡ length old
  pass_length = rest-length s.left

  pub pass_next : (d : A) → i < length xs → {new : List ℕ} {q : ℕ} → Put out p (f (get_or xs i d)) new q → Passing f xs text old at new q (i + 1)
  pass_next d h g = record { within = omega arith; left = rest_put (rw (each_at f xs i d h) at s.left) g }

-- bytes, one after the other
pub each_byte : (xs : List ℕ) → each (λ (b : ℕ). b ∷ []) xs ≡ xs
unfolding each
each_byte [] = refl
each_byte (x ∷ xs) = ap (λ (l : List ℕ). x ∷ l) (each_byte xs)

pub words_none : (xs : List ℕ) → length xs ≡ 0 → words xs ≡ []
unfolding words
words_none [] h = refl
words_none (x ∷ xs) h = absurd (omega arith)

pub words-some : {xs rest : List ℕ} {x : ℕ} → xs ≡ x ∷ rest → words xs ≡ decimal x ++ each spaced rest
unfolding words
words-some e = rw e
