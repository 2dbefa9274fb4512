-- Tests 2 and 3, as the code makes them. Assumes nothing.
use Prim.Native.Nat.{ℕ, ◌≤◌, ◌<◌}
use mathlib.Core.Path.{◌≡◌}
use mathlib.Core.Bool.{Bool, true, false}
use mathlib.Core.List.{List}
use mathlib.Core.Logic.{◌⊎◌, inl, inr}
use Rattle.std.proofs.Math.Bool.{or-true}
use borrow.Author.Tests.{eq-eqb, ne_eqb, lt-ltb, le-ltb}
use lib.ListN.{length}
use Rattle.rules.specs.Answers.{fault, ok, refuse}
use Rattle.rules.specs.Calls.{readable}
use Rattle.changer.specs.Before.{any_above2}
use Rattle.changer.proofs.Above.{each-kind}

module _ (xs ks : List ℕ) where
  pub reads-long : ((length xs ≡ length ks → ⊥) ⊎ ((length xs ≡ length ks) × (256 < length xs))) → fault 2 0 ≡ readable xs ks
  unfolding readable
  reads-long (inl h) = rw (ne_eqb _ _ h)
  reads-long (inr (e, k)) = rw (lt-ltb _ _ k, or-true)

  module _ (h : length xs ≡ length ks) (k : length xs ≤ 256) {a : Bool} (p : a ≡ any_above2 ks) where
    by-kinds : readable xs ks ≡ refuse a 3 0
    unfolding readable
    by-kinds = rw (eq-eqb _ _ h, le-ltb _ _ k, p) (each-kind ks)

    pub reads-above : a ≡ true → fault 3 0 ≡ readable xs ks
    reads-above g = rw (by-kinds, g)

    pub reads_well : a ≡ false → ok ≡ readable xs ks
    reads_well g = rw (by-kinds, g)
