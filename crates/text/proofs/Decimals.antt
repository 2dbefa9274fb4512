-- Decimal numbers. Assumes nothing.
use Prim.Native.Nat.{ℕ, zero, suc, ◌+◌, ◌/◌, ◌%◌, ◌^◌, ◌≤◌, ◌<◌}
use mathlib.Core.Path.{◌≡◌, refl, ◌∙◌}
use mathlib.Core.Bool.{Bool, true, false, cond}
use mathlib.Core.List.{[], ◌∷◌, ◌++◌}
use native.Mathlib.Nat.{div-lt_iff_lt-mul, pow-suc}
use native.Mathlib.Omega.{arith}
use borrow.Author.Tests.{lt-ltb, le-ltb}
use lib.Dec.{ltb}
use lib.ListN.{length, length-append}
use Rattle.text.specs.Text.{digits, decimal}

-- as many digits as hold the number are enough
enough : (k n : ℕ) → n < 10 ^ suc k → digits (suc (suc k)) n ≡ digits (suc k) n
unfolding digits
enough zero n h = simp (lt-ltb n 10 (omega arith))
enough (suc k) n h = go (enough k (n / 10) ((div-lt_iff_lt-mul (omega arith)).1 (rw (← pow-suc) h))) (ltb n 10)
  where
    go : digits (suc (suc k)) (n / 10) ≡ digits (suc k) (n / 10) → (b : Bool) → cond b ((48 + n) ∷ []) (digits (suc (suc k)) (n / 10) ++ ((48 + n % 10) ∷ [])) ≡ cond b ((48 + n) ∷ []) (digits (suc k) (n / 10) ++ ((48 + n % 10) ∷ []))
    go e true = refl
    go e false = rw e

pub decimal-one : {n : ℕ} → n < 10 → decimal n ≡ (48 + n) ∷ []
unfolding decimal digits
decimal-one {n} h = simp (lt-ltb n 10 h)

pub decimal-more : {n : ℕ} → 10 ≤ n → n < 2 ^ 64 → decimal n ≡ decimal (n / 10) ++ ((48 + n % 10) ∷ [])
unfolding decimal digits
decimal-more {n} h k = more ∙ rw (enough 18 (n / 10) less)
  where
    less : n / 10 < 10 ^ 19
    less = omega arith

    more : digits 20 n ≡ digits 19 (n / 10) ++ ((48 + n % 10) ∷ [])
    more = simp (le-ltb n 10 h)

-- at most a byte for each digit
digits-length : (k n : ℕ) → length (digits k n) ≤ k
unfolding digits
digits-length zero n = omega arith
digits-length (suc k) n = go (digits-length k (n / 10)) (ltb n 10)
  where
    go : length (digits k (n / 10)) ≤ k → (b : Bool) → length (cond b ((48 + n) ∷ []) (digits k (n / 10) ++ ((48 + n % 10) ∷ []))) ≤ suc k
    go h true = omega arith
    go h false = omega (arith, length-append (digits k (n / 10)) ((48 + n % 10) ∷ []))

pub decimal-length : (n : ℕ) → length (decimal n) ≤ 20
unfolding decimal
decimal-length n = digits-length 20 n
