-- Kinds above 2: that one is, is what the rules test of each. Assumes nothing.
use Prim.Native.Nat.{ℕ}
use mathlib.Core.Path.{◌≡◌, refl, ap, ◌∙◌}
use mathlib.Core.Bool.{Bool, true, false, ◌||◌}
use mathlib.Core.List.{List, [], ◌∷◌}
use lib.Dec.{ltb}
use Rattle.rules.specs.Answers.{Verdict, each, refuse, ◌▸◌}
use Rattle.changer.specs.Before.{any_above2}

pub each-kind : (ks : List ℕ) → each (λ k. refuse (ltb 2 k) 3 0) ks ≡ refuse (any_above2 ks) 3 0
unfolding each
each-kind [] = refl
each-kind (k ∷ ks) = ap (λ (v : Verdict). refuse (ltb 2 k) 3 0 ▸ v) (each-kind ks) ∙ go (ltb 2 k) (any_above2 ks)
  where
    go : (a b : Bool) → refuse a 3 0 ▸ refuse b 3 0 ≡ refuse (a || b) 3 0
    go true b = refl
    go false b = refl
