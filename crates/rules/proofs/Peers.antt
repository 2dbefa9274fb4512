-- Laws of the tracked list. Assumes nothing.
use Prim.Native.Nat.{ℕ, ◌≤◌, ◌<◌}
use mathlib.Core.Path.{◌≡◌, refl, ap, ◌∙◌, sym}
use mathlib.Core.Bool.{Bool, true, false, ◌||◌, cond, true≢false}
use mathlib.Core.List.{List, [], ◌∷◌}
use native.Mathlib.Omega.{arith}
use borrow.Author.Tests.{ltb-true, eqb-true, eqb-false}
use lib.Dec.{eqb, ltb}
use Rattle.progress.specs.declared.Progress.{Progress}
use Rattle.rules.specs.Ids.{above, ascending, insert_id, memb, remove_id}
use Rattle.rules.specs.State.{Peer, ids}
use Rattle.rules.specs.Apply.{track, untrack}
use Rattle.rules.specs.Boxes.{absent, found, record_of}
use Rattle.rules.proofs.Sets.{above_none, rising_tail}

pub ids-track : (x : ℕ) (r : Progress) (ps : List Peer) → ids (track x r ps) ≡ insert_id x (ids ps)
unfolding ids track insert_id
ids-track x r [] = refl
ids-track x r (p ∷ ps) = go (ltb p.id x) (eqb p.id x) refl (ids-track x r ps)
  where
    go : (b e : Bool) → eqb p.id x ≡ e → ids (track x r ps) ≡ insert_id x (ids ps)
        → ids (cond b (p ∷ track x r ps) (cond e (record { id = x; progress = r } ∷ ps) (record { id = x; progress = r } ∷ p ∷ ps))) ≡ cond b (p.id ∷ insert_id x (ids ps)) (cond e (p.id ∷ ids ps) (x ∷ p.id ∷ ids ps))
    go true e q ih = ap (λ (l : List ℕ). p.id ∷ l) ih
    go false true q ih = ap (λ (y : ℕ). y ∷ ids ps) (sym (eqb-true p.id x q))
    go false false q ih = refl

pub ids-untrack : (x : ℕ) (ps : List Peer) → ids (untrack x ps) ≡ remove_id x (ids ps)
unfolding ids untrack remove_id
ids-untrack x [] = refl
ids-untrack x (p ∷ ps) = go (eqb p.id x) (ids-untrack x ps)
  where
    go : (b : Bool) → ids (untrack x ps) ≡ remove_id x (ids ps) → ids (cond b ps (p ∷ untrack x ps)) ≡ cond b (ids ps) (p.id ∷ remove_id x (ids ps))
    go true ih = refl
    go false ih = ap (λ (l : List ℕ). p.id ∷ l) ih

pub record_track : (x y : ℕ) (r : Progress) (ps : List Peer) → record_of y (track x r ps) ≡ cond (eqb x y) (found r) (record_of y ps)
unfolding record_of track
record_track x y r [] = refl
record_track x y r (p ∷ ps) = go (ltb p.id x) refl (eqb p.id x) refl (record_track x y r ps)
  where
    go : (b : Bool) → ltb p.id x ≡ b → (e : Bool) → eqb p.id x ≡ e → record_of y (track x r ps) ≡ cond (eqb x y) (found r) (record_of y ps)
        → record_of y (cond b (p ∷ track x r ps) (cond e (record { id = x; progress = r } ∷ ps) (record { id = x; progress = r } ∷ p ∷ ps)))
        ≡ cond (eqb x y) (found r) (cond (eqb p.id y) (found p.progress) (record_of y ps))
    go true l e q ih = rw ih (swap (eqb x y) refl (eqb p.id y) refl)
      where
        swap : (a : Bool) → eqb x y ≡ a → (c : Bool) → eqb p.id y ≡ c → cond c (found p.progress) (cond a (found r) (record_of y ps)) ≡ cond a (found r) (cond c (found p.progress) (record_of y ps))
        swap true f true g = let z : p.id < p.id = omega (arith, eqb-true x y f, eqb-true p.id y g, ltb-true p.id x l) in absurd (omega arith)
        swap true f false g = refl
        swap false f true g = refl
        swap false f false g = refl
    go false l true q ih = rw (eqb-true p.id x q) (again (eqb x y))
      where
        again : (a : Bool) → cond a (found r) (record_of y ps) ≡ cond a (found r) (cond a (found p.progress) (record_of y ps))
        again true = refl
        again false = refl
    go false l false q ih = refl

untracked : (x : ℕ) (ps : List Peer) → memb x (ids ps) ≡ false → record_of x ps ≡ absent
unfolding memb ids record_of
untracked x [] m = refl
untracked x (q ∷ qs) m = go (eqb q.id x) m (untracked x qs)
  where
    go : (b : Bool) → b || memb x (ids qs) ≡ false → (memb x (ids qs) ≡ false → record_of x qs ≡ absent) → cond b (found q.progress) (record_of x qs) ≡ absent
    go true m ih = absurd (true≢false m)
    go false m ih = ih m

absent-above : (x p : ℕ) (ps : List Peer) → above p (ids ps) ≡ true → x ≤ p → record_of x ps ≡ absent
absent-above x p ps a h = untracked x ps (above_none x p (ids ps) a h)

pub record_untrack : (x y : ℕ) (ps : List Peer) → ascending (ids ps) ≡ true → record_of y (untrack x ps) ≡ cond (eqb x y) absent (record_of y ps)
unfolding record_of untrack ids ascending
record_untrack x y [] a = go (eqb x y)
  where
    go : (b : Bool) → absent ≡ cond b absent absent
    go true = refl
    go false = refl
record_untrack x y (p ∷ ps) a = go (eqb p.id x) refl (eqb x y) refl (eqb p.id y) refl (record_untrack x y ps (rising_tail p.id (ids ps) a))
  where
    go : (e : Bool) → eqb p.id x ≡ e → (f : Bool) → eqb x y ≡ f → (g : Bool) → eqb p.id y ≡ g
        → record_of y (untrack x ps) ≡ cond (eqb x y) absent (record_of y ps)
        → record_of y (cond e ps (p ∷ untrack x ps)) ≡ cond f absent (cond g (found p.progress) (record_of y ps))
    go true e true f g h ih = absent-above y p.id ps a (omega (arith, eqb-true p.id x e, eqb-true x y f))
    go true e false f true h ih = absurd (eqb-false x y f (sym (eqb-true p.id x e) ∙ eqb-true p.id y h))
    go true e false f false h ih = refl
    go false e true f true h ih = absurd (eqb-false p.id x e (eqb-true p.id y h ∙ sym (eqb-true x y f)))
    go false e true f false h ih = rw (h, ih, f)
    go false e false f g h ih = rw (h, ih, f)
