-- A test is true or false. Assumes nothing.
use mathlib.Core.Path.{◌≡◌, refl}
use mathlib.Core.Bool.{Bool, true, false, cond}

pub either : (b : Bool) {Q : Type 0} → (b ≡ true → Q) → (b ≡ false → Q) → Q
either true f g = f refl
either false f g = g refl

-- two tests that are never both true may be asked in either order
pub cond-swap : {A B C : Type 0} (f : A → B → C) (i j k : A) (x y w : B) (a b : Bool) → (a ≡ true → b ≡ true → ⊥)
    → cond a (f i x) (cond b (f j y) (f k w)) ≡ f (cond b j (cond a i k)) (cond b y (cond a x w))
cond-swap f i j k x y w true true h = absurd (h refl refl)
cond-swap f i j k x y w true false h = refl
cond-swap f i j k x y w false true h = refl
cond-swap f i j k x y w false false h = refl

pub cond_same : {A : Type 0} (x : A) (a b : Bool) → cond a x (cond b x x) ≡ x
cond_same x true b = refl
cond_same x false true = refl
cond_same x false false = refl
