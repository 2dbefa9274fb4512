-- The log of leaving: a Remove for each id that the walk does not meet, and that what is left of the walk, logged after what is logged so far,
-- comes to the same. Assumes nothing.
use Prim.Native.Nat.{ℕ, ◌+◌, ◌≤◌, ◌<◌}
use mathlib.Core.Path.{◌≡◌, refl, ap, sym, ◌∙◌}
use mathlib.Core.Bool.{Bool, true, false, ◌||◌, cond}
use mathlib.Core.List.{List, [], ◌∷◌, ◌++◌, append_assoc, append-nil}
use mathlib.Core.Logic.{◌⊎◌, inl, inr}
use native.Mathlib.Omega.{arith}
use native.Mathlib.Numerals.{add-one}
use lib.ListN.{length, drop, get_or, length-append, length-take}
use lib.Seq.{drop-cons, drop-drop}
use Rattle.rules.specs.Calls.{removals}
use Rattle.rules.specs.State.{Entry, remove}
use Rattle.idset.specs.Places.{first_is, rank}
use Rattle.idset.specs.Set.{held}
use Rattle.idset.specs.declared.IdSet.{IdSet}
use Rattle.tracker.specs.Bridge.{change_log_of}
use Rattle.tracker.specs.declared.ChangeLog.{ChangeLog}
use Rattle.tracker.specs.declared.MapChangeType.TheVariants.{Remove}
use Rattle.invariants.specs.Walk.{past}
use Rattle.changes.specs.Change.{push_in}
use Rattle.changes.proofs.RulesParts.{push_in_lem}
use Rattle.changer.specs.Stages.{gone_walk}

-- ** A Remove of each

unfoldable pub removing : List ℕ → ChangeLog → ChangeLog
removing [] l = l
removing (x ∷ xs) l = removing xs (push_in x Remove l)

removing_after : (xs : List ℕ) (es : List Entry) → length es + length xs ≤ 256 → removing xs (change_log_of es) ≡ change_log_of (es ++ removals xs)
unfolding removing removals
removing_after [] es h = rw append-nil
removing_after (x ∷ xs) es h =
    let k : length es < 256 = omega arith in
    let m : length (es ++ (remove x ∷ [])) + length xs ≤ 256 = simp length-append (omega arith) in
    ap (removing xs) (push_in_lem (remove x) es k) ∙ removing_after xs (es ++ (remove x ∷ [])) m ∙ rw append_assoc

gone-few : (xs is ls : List ℕ) → length (gone_walk xs is ls) ≤ length xs
unfolding gone_walk
gone-few [] is ls = omega arith
gone-few (x ∷ xs) is ls = go (first_is x (past x is) || first_is x (past x ls)) (gone_walk xs (past x is) (past x ls)) (gone-few xs (past x is) (past x ls))
  where
    go : (b : Bool) (g : List ℕ) → length g ≤ length xs → length (cond b g (x ∷ g)) ≤ length (x ∷ xs)
    go true g h = omega arith
    go false g h = omega arith

-- ** The walk

gone_cons : (x : ℕ) (xs is ls : List ℕ)
    → gone_walk (x ∷ xs) is ls
    ≡ cond (first_is x (past x is) || first_is x (past x ls)) (gone_walk xs (past x is) (past x ls)) (x ∷ gone_walk xs (past x is) (past x ls))
unfolding gone_walk
gone_cons x xs is ls = refl

-- what is left before a turn
pub next_left : (xs : List ℕ) (i : ℕ) → i < length xs → drop i xs ≡ get_or xs i 0 ∷ drop (i + 1) xs
next_left xs i h = rw add-one (drop-cons xs i 0 h)

-- those of o in neither is nor ls are logged: `left` are left of o, it has passed j and k of the others, and has got to log
pub record Leaving (o is ls : IdSet) (left : List ℕ) (log : ChangeLog) (j k : ℕ) : Type 0 where
  pub same : removing (gone_walk left (drop j (held is)) (drop k (held ls))) log ≡ change_log_of (removals (gone_walk (held o) (held is) (held ls)))

pub leave-start : (o is ls : IdSet) {left : List ℕ} {log : ChangeLog} → length o.ids ≡ 64 → left ≡ held o → log ≡ change_log_of [] → Leaving o is ls left log 0 0
leave-start o is ls s h e =
    let m : length (gone_walk (held o) (held is) (held ls)) ≤ 256 = omega (arith, gone-few (held o) (held is) (held ls), length-take o.len o.ids) in
    record { same = rw (h, e) (removing_after (gone_walk (held o) (held is) (held ls)) [] (omega arith)) }

module _ {o is ls : IdSet} {left : List ℕ} {log : ChangeLog} {j k : ℕ} (s : Leaving o is ls left log j k) where
  pub leave-end : left ≡ [] → log ≡ change_log_of (removals (gone_walk (held o) (held is) (held ls)))
  unfolding gone_walk removing
  leave-end h = rw h at s.same

  module _ {x : ℕ} {xs : List ℕ} (h : left ≡ x ∷ xs)
      {p : ℕ} (at_p : p ≡ j + rank x (drop j (held is)))
      {q : ℕ} (at-q : q ≡ k + rank x (drop k (held ls)))
      {v : Bool} (voter : v ≡ first_is x (drop p (held is)))
      {l : Bool} (learner : l ≡ first_is x (drop q (held ls))) where
    abbrev rest : List ℕ
    rest = gone_walk xs (drop p (held is)) (drop q (held ls))

    turn : gone_walk left (drop j (held is)) (drop k (held ls)) ≡ cond (v || l) rest (x ∷ rest)
    turn =
        rw (h, gone_cons, drop-drop (rank x (drop j (held is))) j (held is), drop-drop (rank x (drop k (held ls))) k (held ls), ← at_p, ← at-q, ← voter, ← learner)

    pub leave-kept : ((v ≡ false) × (l ≡ true)) ⊎ (v ≡ true) → Leaving o is ls xs log p q
    leave-kept h = record { same = ap (λ (xs : List ℕ). removing xs log) (sym (turn ∙ go h)) ∙ s.same }
      where
        go : ((v ≡ false) × (l ≡ true)) ⊎ (v ≡ true) → cond (v || l) rest (x ∷ rest) ≡ rest
        go (inl (a, b)) = rw (a, b)
        go (inr a) = rw a

    pub leave-logged : v ≡ false → l ≡ false → {r : ChangeLog} → r ≡ push_in x Remove log → Leaving o is ls xs r p q
    unfolding removing
    leave-logged a b e =
        let k : cond (v || l) rest (x ∷ rest) ≡ x ∷ rest = rw (a, b) in
        record { same = rw e (ap (λ (xs : List ℕ). removing xs log) (sym (turn ∙ k)) ∙ s.same) }
