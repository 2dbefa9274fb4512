-- Laws of what stands at the front of bytes: `front`, by its first byte; where it ends; whether it fits. Assumes nothing.
use Prim.Native.Nat.{ℕ, suc, ◌+◌, ◌-◌, ◌^◌, ◌≤◌, ◌<◌}
use mathlib.Core.Path.{◌≡◌, refl, ap, ◌∙◌}
use mathlib.Core.Bool.{Bool, true, false, ◌&&◌}
use mathlib.Core.List.{List}
use native.Mathlib.Numerals.{add-one}
use native.Mathlib.Omega.{arith}
use borrow.Author.Tests.{le-ltb, lt-leb}
use lib.Dec.{leb, ltb}
use lib.ListN.{length, drop, get_or, drop_of_length-le}
use lib.Seq.{drop-cons}
use Rattle.std.specs.Prelude.{Some, None}
use Rattle.rules.proofs.Wire.{front-one}
use Rattle.rules.specs.Wire.{Front, cut, num, more, front, fits}
use Rattle.wire.specs.Varints.{past}

-- what stands at place p, by its first byte
pub front_none : (l : List ℕ) (p : ℕ) → length l ≤ p → front (drop p l) ≡ cut
unfolding front
front_none l p h = rw (drop_of_length-le l h)

pub front-last : (l : List ℕ) (p : ℕ) → p < length l → get_or l p 0 < 128 → front (drop p l) ≡ num (get_or l p 0) 1
front-last l p h k = ap front (drop-cons l p 0 h) ∙ front-one (get_or l p 0) (drop (suc p) l) k

pub front-more : (l : List ℕ) (p : ℕ) → p < length l → 128 ≤ get_or l p 0 → front (drop p l) ≡ more (get_or l p 0 - 128) (front (drop (p + 1) l))
unfolding front
front-more l p h k = rw (drop-cons l p 0 h, front, le-ltb _ _ k, add-one)

-- the place where it ends
pub past_more : (p low : ℕ) (f : Front) → past p (more low f) ≡ past (p + 1) f
past_more p low cut = refl
past_more p low (num v n) = let e : p + suc n ≡ p + 1 + n = omega arith in ap Some e

pub past_none : (l : List ℕ) (p : ℕ) → past p (front l) ≡ None → front l ≡ cut
past_none l p e = by (front l) e
  where
    by : (f : Front) → past p f ≡ None → f ≡ cut
    by cut e = refl
    by (num v n) e = cc

-- whether it fits
pub fits-long : (v n : ℕ) → 10 < n → fits v n ≡ false
unfolding fits
fits-long v n h = rw (lt-leb _ _ h)

pub fits_large : (v n : ℕ) → 2 ^ 64 ≤ v → fits v n ≡ false
unfolding fits
fits_large v n h = go (leb n 10)
  where
    go : (b : Bool) → (b && ltb v (2 ^ 64)) ≡ false
    go true = le-ltb _ _ h
    go false = refl
