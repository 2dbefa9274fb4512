-- Laws of packed numbers: by the first of them, and numbers that were packed are found again. Assumes nothing.
use Prim.Native.Nat.{ℕ, ◌-◌, ◌*◌, ◌^◌, ◌≤◌, ◌<◌}
use mathlib.Core.Path.{◌≡◌, refl, ap, ◌∙◌}
use mathlib.Core.Bool.{Bool, true, false, cond}
use mathlib.Core.List.{List, [], ◌∷◌, ◌++◌}
use native.Mathlib.Omega.{arith}
use lib.Dec.{ltb}
use lib.ListN.{length, drop, length-append}
use lib.Seq.{drop-append_seam}
use Rattle.rules.specs.Wire.{Front, cut, num, more, front, found, judged, varint_of, groups}
use Rattle.rules.specs.Message.{Below, faulty, all, carried, fronts, before, gathered, packed, packed_of}
use Rattle.rules.proofs.Wire.{fits-yes, front-groups, varint-length}

-- ** The first number apart

abbrev split : List ℕ → Front → List Front
split l cut = cut ∷ []
split l (num v n) = num v n ∷ fronts (drop n l)

carried-split : (low b d : ℕ) (ds : List ℕ) (f : Front) → carried low (split (d ∷ ds) f) ≡ split (b ∷ d ∷ ds) (more low f)
carried-split low b d ds cut = refl
carried-split low b d ds (num v n) = refl

fronts-split : (b : ℕ) (bs : List ℕ) → fronts (b ∷ bs) ≡ split (b ∷ bs) (front (b ∷ bs))
unfolding fronts front
fronts-split b [] = by (ltb b 128)
  where
    by : (t : Bool) → cond t (num b 1 ∷ []) (cut ∷ []) ≡ split (b ∷ []) (cond t (num b 1) cut)
    by true = refl
    by false = refl
fronts-split b (d ∷ ds) = by (fronts-split d ds) (ltb b 128)
  where
    by : fronts (d ∷ ds) ≡ split (d ∷ ds) (front (d ∷ ds)) → (t : Bool)
        → cond t (num b 1 ∷ fronts (d ∷ ds)) (carried (b - 128) (fronts (d ∷ ds))) ≡ split (b ∷ d ∷ ds) (cond t (num b 1) (more (b - 128) (front (d ∷ ds))))
    by r true = refl
    by r false = ap (carried (b - 128)) r ∙ carried-split (b - 128) b d ds (front (d ∷ ds))

no_front : {A : Type 0} {v n : ℕ} → cut ≡ num v n → A
no_front e = let z : ◌≡◌ {A = ℕ} 0 1 = cc in absurd (omega arith)

pub packed_none : packed [] ≡ all []
unfolding packed gathered fronts
packed_none = refl

-- bytes are left, and no number ends among them
pub packed-cut : (l : List ℕ) → 0 < length l → front l ≡ cut → packed l ≡ faulty 28
unfolding packed gathered
packed-cut [] h e = absurd (omega arith)
packed-cut (b ∷ bs) h e = ap gathered (fronts-split b bs ∙ ap (split (b ∷ bs)) e)

pub packed-num : (l : List ℕ) {v n : ℕ} → front l ≡ num v n → packed l ≡ before (judged (num v n)) (packed (drop n l))
unfolding packed gathered front
packed-num [] e = no_front e
packed-num (b ∷ bs) e = ap gathered (fronts-split b bs ∙ ap (split (b ∷ bs)) e)

-- ** What was packed

packed-one : (x : ℕ) (rest : List ℕ) → x < 2 ^ 64 → packed (varint_of x ++ rest) ≡ before (found x (length (varint_of x))) (packed rest)
unfolding varint_of
packed-one x rest h =
    packed-num (groups 10 x ++ rest) (front-groups 9 x rest (omega arith))
    ∙ rw (fits-yes x (length (groups 10 x)) (varint-length x) h) (ap (λ (l : List ℕ). before (found x (length (groups 10 x))) (packed l)) (drop-append_seam (groups 10 x) rest))

pub numbers-back : (xs : List ℕ) → Below xs → packed (packed_of xs) ≡ all xs
unfolding packed_of
numbers-back [] h = packed_none
numbers-back (x ∷ xs) h = packed-one x (packed_of xs) h.0 ∙ ap (before (found x (length (varint_of x)))) (numbers-back xs h.1)

-- ten bytes for a number are enough
pub packed-size : (xs : List ℕ) → length (packed_of xs) ≤ 10 * length xs
unfolding packed_of
packed-size [] = omega arith
packed-size (x ∷ xs) = omega (arith, length-append (varint_of x) (packed_of xs), varint-length x, packed-size xs)
