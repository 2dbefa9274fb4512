-- The scan of a log's first entries: what one of them says, and that what is left of them answers for all. Assumes nothing.
use Prim.Native.Nat.{ℕ}
use mathlib.Core.Path.{◌≡◌, refl, ap, sym, ◌∙◌}
use mathlib.Core.Bool.{Bool, ◌||◌}
use mathlib.Core.List.{List, [], ◌∷◌}
use lib.Dec.{eqb}
use Rattle.std.specs.List.{fold, list_any}
use Rattle.rules.specs.Ids.{memb}
use Rattle.rules.specs.Changes.{last_says}
use Rattle.tracker.specs.Bridge.{entry, entry_of, entries_of}
use Rattle.tracker.specs.declared.MapChange.{MapChange}
use Rattle.tracker.specs.declared.MapChangeType.{MapChangeType}
use Rattle.tracker.specs.declared.MapChangeType.TheVariants.{Add, Remove}
use Rattle.changes.specs.Pending.{entry_says}

says_cons : (x : ℕ) (e : MapChange) (es : List MapChange) (b : Bool) → last_says x (entries_of (e ∷ es)) b ≡ last_says x (entries_of es) (entry_says x (entry_of e) b)
unfolding entries_of last_says
says_cons x e es b = go e.kind
  where
    go : (k : MapChangeType) → last_says x (entry k e.id ∷ entries_of es) b ≡ last_says x (entries_of es) (entry_says x (entry k e.id) b)
    go Add = refl
    go Remove = refl

pub says_fold : (x : ℕ) (es : List MapChange) (b : Bool) → fold (λ b e. entry_says x (entry_of e) b) b es ≡ last_says x (entries_of es) b
unfolding entries_of last_says
says_fold x [] b = refl
says_fold x (e ∷ es) b = says_fold x es (entry_says x (entry_of e) b) ∙ sym (says_cons x e es b)

-- ** The base

pub memb_any : (x : ℕ) (xs : List ℕ) → list_any (λ y. eqb y x) xs ≡ memb x xs
unfolding memb
memb_any x [] = refl
memb_any x (y ∷ ys) = ap (λ (b : Bool). eqb y x || b) (memb_any x ys)
