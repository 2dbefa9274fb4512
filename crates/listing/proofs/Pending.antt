-- What the tests of the pending list answer, of a list with 256 places. Assumes nothing.
use Prim.Native.Nat.{ℕ, zero, suc, ◌≤◌, ◌<◌}
use mathlib.Core.Path.{◌≡◌, refl, sym, ◌∙◌}
use mathlib.Core.Bool.{Bool, true, false, not, ◌||◌}
use mathlib.Core.List.{List, [], ◌∷◌}
use native.Mathlib.Omega.{arith}
use borrow.Author.Tests.{eq-eqb, ne_eqb, le-leb, lt-leb, leb-true, leb-false, lt-ltb, le-ltb}
use lib.Dec.{eqb, leb, eqb-suc-zero}
use lib.ListN.{length, take, length-take}
use Rattle.rules.specs.Ids.{is_empty}
use Rattle.listing.specs.Script.{stops}
use Rattle.listing.specs.Sessions.{session_of}
use Rattle.listing.specs.declared.Session.{Session}
use Rattle.listing.proofs.Cases.{either}

or-false : (b : Bool) → b || false ≡ b
or-false true = refl
or-false false = refl

empty_none : (n : ℕ) (l : List ℕ) → length l ≡ 256 → eqb n 0 ≡ is_empty (take n l)
empty_none zero l h = refl
empty_none (suc n) [] h = absurd (omega arith)
empty_none (suc n) (x ∷ xs) h = eqb-suc-zero n

module _ (z : Session) (long : length z.ids ≡ 256) where
  pub none_pending : z.len ≡ 0 → is_empty (session_of z).ids ≡ true
  none_pending h = sym (empty_none z.len z.ids long) ∙ eq-eqb _ _ h

  pub some-pending : (z.len ≡ 0 → ⊥) → is_empty (session_of z).ids ≡ false
  some-pending h = sym (empty_none z.len z.ids long) ∙ ne_eqb _ _ h

  many_pending : leb 256 z.len ≡ leb 256 (length (session_of z).ids)
  many_pending =
      let n : ℕ = length (take z.len z.ids) in
      either (leb 256 z.len)
      (λ e. e ∙ sym (le-leb 256 n (omega (arith, leb-true 256 z.len e, length-take z.len z.ids))))
      (λ e. e ∙ sym (lt-leb 256 n (omega (arith, leb-false 256 z.len e, length-take z.len z.ids))))

module _ (z : Session) (kind : ℕ) where
  pub stops-unknown : 6 < kind → true ≡ stops (session_of z) kind
  unfolding stops
  stops-unknown h = rw (lt-ltb 6 kind h)

  module _ (known : kind ≤ 6) where
    pub stops-change : length z.ids ≡ 256 → kind ≤ 2 → leb 256 z.len ≡ stops (session_of z) kind
    unfolding stops
    stops-change long h = rw (le-ltb 6 kind known, le-leb kind 2 h, ne_eqb kind 6 (omega arith), many_pending z long) (sym (or-false _))

    module _ (run : 2 < kind) where
      pub stops-leave : length z.ids ≡ 256 → kind ≡ 6 → not (eqb z.len 0) ≡ stops (session_of z) kind
      unfolding stops
      stops-leave long h = rw (le-ltb 6 kind known, lt-leb kind 2 run, eq-eqb kind 6 h, empty_none z.len z.ids long)

      pub stops-not : (kind ≡ 6 → ⊥) → false ≡ stops (session_of z) kind
      unfolding stops
      stops-not h = rw (le-ltb 6 kind known, lt-leb kind 2 run, ne_eqb kind 6 h)
