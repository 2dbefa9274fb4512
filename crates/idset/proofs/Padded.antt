-- A list padded to 64 places with one element, over any element type: what a place set, put in or taken out makes of it.
-- Assumes nothing.
use Prim.Native.Nat.{ℕ, zero, suc, ◌+◌, ◌-◌, ◌≤◌, ◌<◌}
use mathlib.Core.Path.{◌≡◌, refl, ap}
use mathlib.Core.List.{List, ◌∷◌, ◌++◌, append_assoc}
use native.Mathlib.Nat.{not-suc-le-zero}
use native.Mathlib.Omega.{arith}
use lib.ListN.{length, take, drop, set, replicate, length-take, length-drop, length-set, length-append, length-replicate, replicate-append-replicate}
use lib.Seq.{take-append-le, drop-append-le, take-append-add, set-append_left}
use Rattle.idset.specs.Places.{insert_at, remove_at}

pub padded_long : {A : Type 0} (x : A) (m n : ℕ) (xs : List A) → length xs ≡ n → n ≤ m → length (xs ++ replicate (m - n) x) ≡ m
padded_long x m n xs h k = omega (arith, length-append xs (replicate (m - n) x), length-replicate (m - n) x)

take-replicate : {A : Type 0} (m k : ℕ) (u : A) → m ≤ k → take m (replicate k u) ≡ replicate m u
take-replicate zero k u h = refl
take-replicate (suc m) zero u h = absurd (not-suc-le-zero h)
take-replicate (suc m) (suc k) u h = ap (λ l. u ∷ l) (take-replicate m k u (omega arith))

module _ {A : Type 0} (u : A) where
  abbrev pub padded : List A → List A
  padded l = l ++ replicate (64 - length l) u

  module _ (k : ℕ) (l : List A) where
    pub set_padded : (e : A) → k < length l → set (padded l) k e ≡ padded (set l k e)
    set_padded e h = rw (set-append_left l (replicate (64 - length l) u) k e h, length-set l k e)

    pub insert_padded : (e : A) → k ≤ length l → length l < 64 → insert_at k e (padded l) ≡ padded (take k l ++ (e ∷ drop k l))
    unfolding insert_at
    insert_padded e h r =
        let w : List A = take k l ++ (e ∷ drop k l) in
        let z : List A = replicate (64 - length l) u in
        let one : length w ≡ length l + 1 = simp (length-append, length-take, length-drop) (omega arith) in
        let total : length (padded l) ≡ length w + (64 - length w) = omega (arith, padded_long u 64 (length l) l refl (omega arith), one) in
        let less : 64 - length w ≤ 64 - length l = omega (arith, one) in
        let whole : take k (l ++ z) ++ (e ∷ drop k (l ++ z)) ≡ w ++ z = rw (take-append-le k l z h, drop-append-le k l z h, append_assoc) in
        rw (total, whole, take-append-add w z (64 - length w), take-replicate (64 - length w) (64 - length l) u less)

    pub remove_padded : k < length l → length l ≤ 64 → remove_at k u (padded l) ≡ padded (take k l ++ drop (k + 1) l)
    unfolding remove_at
    remove_padded h r =
        let w : List A = take k l ++ drop (k + 1) l in
        let z : List A = replicate (64 - length l) u in
        let le : k ≤ length l = omega arith in
        let le1 : k + 1 ≤ length l = omega arith in
        let one : length w ≡ length l - 1 = simp (length-append, length-take, length-drop) (omega arith) in
        let more : 64 - length w ≡ 64 - length l + 1 = omega (arith, one) in
        rw (take-append-le k l z le, drop-append-le (k + 1) l z le1, more, ← append_assoc, ← replicate-append-replicate, ← append_assoc)
