-- Words that are read back from their bytes: a number, words one after the other, and parts of these. Assumes nothing.
use Prim.Native.Nat.{ℕ, zero, suc, ◌+◌, ◌*◌, ◌/◌, ◌%◌, ◌^◌, ◌<◌}
use mathlib.Core.Path.{◌≡◌, refl, ap, sym, ◌∙◌}
use mathlib.Core.List.{List, [], ◌∷◌, ◌++◌, append_assoc}
use native.Mathlib.Nat.{div-lt_iff_lt-mul, pow-suc, add-zero}
use native.Mathlib.Omega.{arith}
use lib.ListN.{length, length-append, get_or, get_or-append}
use lib.Seq.{get_or-append-add, get_or_at}
use Rattle.unplug.specs.Words.{words_by}
use Rattle.calls.specs.Layout.{number, word, words}
use Rattle.calls.specs.Reply.{bytes, word_bytes, all_bytes}
use Rattle.calls.proofs.Typed.{U64, Each, none, more}
use Rattle.calls.proofs.WriteLengths.{word-length}

-- ** One number

shorter : (j n : ℕ) → n < 256 ^ suc j → n / 256 < 256 ^ j
shorter j n h = (div-lt_iff_lt-mul {k = 256} {x = n} {y = 256 ^ j} (omega arith)).1 (rw (← pow-suc) h)

-- j bytes are enough for a number below 256 ^ j
number-back : (j n : ℕ) (p r : List ℕ) (at : ℕ) → length p ≡ at → n < 256 ^ j → number j (p ++ (bytes j n ++ r)) at ≡ n
unfolding number bytes
number-back zero n p r at e h = omega arith
number-back (suc j) n p r at e h =
    let b = n % 256 in
    let q = bytes j (n / 256) ++ r in
    let less : n / 256 < 256 ^ j = shorter j n h in
    let first : get_or (p ++ (b ∷ q)) at 0 ≡ b = get_or_at p b q 0 at e in
    let longer : length (p ++ (b ∷ [])) ≡ at + 1 = omega (arith, length-append p (b ∷ [])) in
    let others : number j ((p ++ (b ∷ [])) ++ q) (at + 1) ≡ n / 256 = number-back j (n / 256) (p ++ (b ∷ [])) r (at + 1) longer less in
    let same : number j (p ++ (b ∷ q)) (at + 1) ≡ n / 256 = ap (λ (l : List ℕ). number j l (at + 1)) (sym (append_assoc p (b ∷ []) q)) ∙ others in
    omega (arith, first, same)

word_back : (w k : ℕ) (p r : List ℕ) → length p ≡ 8 * k → U64 w → word (p ++ (word_bytes w ++ r)) k ≡ w
unfolding word_bytes
word_back w k p r e h = number-back 8 w p r (8 * k) e h

-- ** Words

-- the words from k on are ws
pub record Reads (s : List ℕ) (k : ℕ) (ws : List ℕ) : Type 0 where
  pub at : (i : ℕ) → i < length ws → word s (k + i) ≡ get_or ws i 0

reads-from : {ws : List ℕ} (p r : List ℕ) (k : ℕ) → length p ≡ 8 * k → Each U64 ws → (i : ℕ) → i < length ws → word (p ++ (all_bytes ws ++ r)) (k + i) ≡ get_or ws i 0
unfolding all_bytes
reads-from p r k e none i h = absurd (omega arith)
reads-from {ws = w ∷ ws} p r k e (more m ms) zero h =
    ap (λ (l : List ℕ). word (p ++ l) (k + 0)) (append_assoc (word_bytes w) (all_bytes ws) r) ∙ word_back w (k + 0) p (all_bytes ws ++ r) (omega arith) m
reads-from {ws = w ∷ ws} p r k e (more m ms) (suc i) h =
    let rest = all_bytes ws ++ r in
    let longer : length (p ++ word_bytes w) ≡ 8 * (k + 1) = omega (arith, length-append p (word_bytes w), word-length w) in
    let same : p ++ ((word_bytes w ++ all_bytes ws) ++ r) ≡ (p ++ word_bytes w) ++ rest = ap (λ (l : List ℕ). p ++ l) (append_assoc (word_bytes w) (all_bytes ws) r) ∙ sym (append_assoc p (word_bytes w) rest) in
    let place : k + suc i ≡ (k + 1) + i = omega arith in
    ap (λ (l : List ℕ). word l (k + suc i)) same ∙ (ap (λ (n : ℕ). word ((p ++ word_bytes w) ++ rest) n) place ∙ reads-from (p ++ word_bytes w) r (k + 1) longer ms i (omega arith))

pub reads_all : {ws : List ℕ} (r : List ℕ) → Each U64 ws → Reads (all_bytes ws ++ r) 0 ws
reads_all r m = record { at = reads-from [] r 0 refl m }

-- ** Parts

module _ {s : List ℕ} {k : ℕ} (xs ys : List ℕ) (f : Reads s k (xs ++ ys)) where
  pub reads-left : Reads s k xs
  reads-left = record { at = λ i h. f.at i (omega (arith, length-append xs ys)) ∙ get_or-append xs ys 0 i h }

  pub reads_right : (m : ℕ) → k + length xs ≡ m → Reads s m ys
  reads_right m e = record {
    at = λ i h.
        let place : m + i ≡ k + (length xs + i) = omega arith in
        ap (λ (n : ℕ). word s n) place ∙ (f.at (length xs + i) (omega (arith, length-append xs ys)) ∙ get_or-append-add xs ys i 0);
  }

module _ {s : List ℕ} {k w : ℕ} {ws : List ℕ} (f : Reads s k (w ∷ ws)) where
  pub reads_first : word s k ≡ w
  reads_first = ap (λ (m : ℕ). word s m) (sym (add-zero k)) ∙ f.at 0 (omega arith)

  pub reads-next : Reads s (k + 1) ws
  reads-next = record {
    at = λ i h.
        let place : (k + 1) + i ≡ k + suc i = omega arith in
        ap (λ (m : ℕ). word s m) place ∙ f.at (suc i) (omega arith);
  }

pub words_back : {s : List ℕ} {k : ℕ} {ws : List ℕ} → Reads s k ws → words (length ws) s k ≡ ws
unfolding words_by
words_back {ws = []} f = refl
words_back {s = s} {k = k} {ws = w ∷ ws} f = rw (reads_first f, words_back {s = s} {k = k + 1} {ws = ws} (reads-next f))
