-- The test of each id of an ascending list: two tests of each are the sooner of two walks, and the tests of a union the sooner of its
-- parts'. Assumes nothing.
use Prim.Native.Nat.{ℕ, ◌≤◌, ◌<◌}
use mathlib.Core.Path.{◌≡◌, refl, ap, ◌∙◌, sym}
use mathlib.Core.Bool.{Bool, true, false, cond}
use mathlib.Core.List.{List, [], ◌∷◌}
use native.Mathlib.Omega.{arith}
use borrow.Author.Tests.{lt-ltb, le-ltb, ltb-true, ltb-false}
use lib.Dec.{ltb}
use Rattle.rules.specs.Answers.{Verdict, ok, fault, each, refuse, ◌▸◌}
use Rattle.rules.specs.Ids.{above, ascending, insert_all}
use Rattle.rules.proofs.Sets.{and_left, and_right, rising_tail}
use Rattle.idset.specs.Places.{merge}
use Rattle.idset.proofs.Merge.{merge-all}
use Rattle.invariants.specs.Walk.{sooner}

-- ** Where a fault is

-- a fault of the test of x is at x
pub record Local (f : ℕ → Verdict) : Type 0 where
  pub place : (x n y : ℕ) → f x ≡ fault n y → y ≡ x

never : {n y : ℕ} → ok ≡ fault n y → ⊥
never e = let z : ◌≡◌ {A = ℕ} 0 1 = cc in omega arith

pub local_refuse : (p : ℕ → Bool) (m : ℕ) → Local (λ x. refuse (p x) m x)
local_refuse p m = record { place = λ x n y. go x n y (p x) }
  where
    go : (x n y : ℕ) (b : Bool) → refuse b m x ≡ fault n y → y ≡ x
    go x n y true e = cc
    go x n y false e = absurd (never e)

pub local_then : {f g : ℕ → Verdict} → Local f → Local g → Local (λ x. f x ▸ g x)
local_then {f} {g} a b = record { place = λ x n y. go x n y (f x) refl }
  where
    go : (x n y : ℕ) (v : Verdict) → f x ≡ v → v ▸ g x ≡ fault n y → y ≡ x
    go x n y ok p e = b.place x n y e
    go x n y (fault m z) p e = a.place x n y (p ∙ e)

module _ {f : ℕ → Verdict} (a : Local f) where
  each-later : (p : ℕ) (xs : List ℕ) → above p xs ≡ true → (n y : ℕ) → each f xs ≡ fault n y → p < y
  unfolding each above
  each-later p [] r n y e = absurd (never e)
  each-later p (x ∷ xs) r n y e = go (f x) refl e (each-later x xs (and_right (ltb p x) (above x xs) r) n y)
    where
      l : p < x
      l = ltb-true p x (and_left (ltb p x) (above x xs) r)

      go : (v : Verdict) → f x ≡ v → v ▸ each f xs ≡ fault n y → (each f xs ≡ fault n y → x < y) → p < y
      go ok q e ih = omega (arith, ih e, l)
      go (fault m z) q e ih = omega (arith, a.place x n y (q ∙ e), l)

  each_from : (x : ℕ) (xs : List ℕ) → above x xs ≡ true → (n y : ℕ) → each f (x ∷ xs) ≡ fault n y → x ≤ y
  unfolding each
  each_from x xs r n y e = go (f x) refl e
    where
      go : (v : Verdict) → f x ≡ v → v ▸ each f xs ≡ fault n y → x ≤ y
      go ok q e = omega (arith, each-later x xs r n y e)
      go (fault m z) q e = omega (arith, a.place x n y (q ∙ e))

-- ** The sooner of two

sooner_none : (v : Verdict) → v ≡ sooner v ok
sooner_none ok = refl
sooner_none (fault n x) = refl

-- a fault stays before those that are not sooner, and goes before later ones
module _ (n x : ℕ) where
  stays : (w : Verdict) → ((m y : ℕ) → w ≡ fault m y → x ≤ y) → fault n x ≡ sooner (fault n x) w
  stays ok h = refl
  stays (fault m y) h = rw (le-ltb y x (h m y refl))

  goes : (w : Verdict) → ((m y : ℕ) → w ≡ fault m y → x < y) → fault n x ≡ sooner w (fault n x)
  goes ok h = refl
  goes (fault m y) h = rw (lt-ltb x y (h m y refl))

-- ** Two tests of each

module _ {f g : ℕ → Verdict} (a : Local f) (b : Local g) where
  pub each_both : (xs : List ℕ) → ascending xs ≡ true → each (λ x. f x ▸ g x) xs ≡ sooner (each f xs) (each g xs)
  unfolding each ascending
  each_both [] r = refl
  each_both (x ∷ xs) r = go (f x) refl (g x) refl (each_both xs (rising_tail x xs r))
    where
      go : (u : Verdict) → f x ≡ u → (v : Verdict) → g x ≡ v → each (λ x. f x ▸ g x) xs ≡ sooner (each f xs) (each g xs)
          → (u ▸ v) ▸ each (λ x. f x ▸ g x) xs ≡ sooner (u ▸ each f xs) (v ▸ each g xs)
      go (fault n y) p v q ih = stays n y (v ▸ each g xs) (λ m z e. omega (arith, a.place x n y p, each_from b x xs r m z (ap (λ (w : Verdict). w ▸ each g xs) q ∙ e)))
      go ok p (fault m z) q ih = goes m z (each f xs) (λ k w e. omega (arith, b.place x m z q, each-later a x xs r k w e))
      go ok p ok q ih = ih

-- ** A union

module _ {g : ℕ → Verdict} (a : Local g) where
  each-merge : (xs ys : List ℕ) → ascending xs ≡ true → ascending ys ≡ true → each g (merge xs ys) ≡ sooner (each g xs) (each g ys)
  unfolding each merge ascending
  each-merge [] ys r s = refl
  each-merge (x ∷ xs) [] r s = sooner_none (each g (x ∷ xs))
  each-merge (x ∷ xs) (y ∷ ys) r s =
      go (ltb x y) refl (ltb y x) refl (each-merge xs (y ∷ ys) (rising_tail x xs r) s) (each-merge (x ∷ xs) ys r (rising_tail y ys s)) (each-merge xs ys (rising_tail x xs r) (rising_tail y ys s))
    where
      -- the first of xs, before y or with it
      left : x ≤ y → (u v : Verdict) → g x ≡ u → (u ≡ ok → v ≡ sooner (each g xs) (each g (y ∷ ys))) → u ▸ v ≡ sooner (u ▸ each g xs) (each g (y ∷ ys))
      left l ok v p h = h refl
      left l (fault n z) v p h = stays n z (each g (y ∷ ys)) (λ m w e. omega (arith, a.place x n z p, each_from a y ys s m w e))

      right : y < x → (u v : Verdict) → g y ≡ u → v ≡ sooner (each g (x ∷ xs)) (each g ys) → u ▸ v ≡ sooner (each g (x ∷ xs)) (u ▸ each g ys)
      right l ok v p h = h
      right l (fault n z) v p h = goes n z (each g (x ∷ xs)) (λ m w e. omega (arith, a.place y n z p, each_from a x xs r m w e))

      go : (b : Bool) → ltb x y ≡ b → (c : Bool) → ltb y x ≡ c → each g (merge xs (y ∷ ys)) ≡ sooner (each g xs) (each g (y ∷ ys)) → each g (merge (x ∷ xs) ys) ≡ sooner (each g (x ∷ xs)) (each g ys) → each g (merge xs ys) ≡ sooner (each g xs) (each g ys)
          → each g (cond b (x ∷ merge xs (y ∷ ys)) (cond c (y ∷ merge (x ∷ xs) ys) (x ∷ merge xs ys))) ≡ sooner (each g (x ∷ xs)) (each g (y ∷ ys))
      go true p c q i j k = left (omega (arith, ltb-true x y p)) (g x) (each g (merge xs (y ∷ ys))) refl (λ e. i)
      go false p true q i j k = right (ltb-true y x q) (g y) (each g (merge (x ∷ xs) ys)) refl j
      go false p false q i j k =
          let l : x ≤ y = ltb-false y x q in
          let e : x ≡ y = omega (arith, ltb-false x y p, ltb-false y x q) in
          left l (g x) (each g (merge xs ys)) refl (λ h. k ∙ rw (← e, h))

  pub each_all : (xs ys : List ℕ) → ascending xs ≡ true → ascending ys ≡ true → each g (insert_all xs ys) ≡ sooner (each g xs) (each g ys)
  each_all xs ys r s = ap (each g) (sym (merge-all xs ys r s)) ∙ each-merge xs ys r s
