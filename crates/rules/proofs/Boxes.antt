-- What one change does to each box. Assumes nothing.
use Prim.Native.Nat.{ℕ}
use mathlib.Core.Path.{◌≡◌, refl, ap, ◌∙◌}
use mathlib.Core.Bool.{Bool, true, false, ◌&&◌, ◌||◌, not, cond}
use mathlib.Core.List.{List}
use borrow.Author.Tests.{eq-eqb, eqb-true}
use lib.Dec.{eqb}
use Rattle.progress.specs.declared.Progress.{Progress}
use Rattle.rules.specs.Ids.{ascending, memb}
use Rattle.rules.specs.State.{Conf, Kind, Peer, add_learner, add_node, ids, remove_node}
use Rattle.rules.specs.Table.{Effect, I, IO, L, O, OS, Places, Standing, adds, idle, none, place, places, places_in, places_of, put, removes, standing_in, stays, table}
use Rattle.rules.specs.Apply.{track, untrack}
use Rattle.rules.specs.Boxes.{Box, Found, change_box, kept, record_of}
use Rattle.rules.proofs.Sets.{ascending_insert, ascending_remove, memb_insert, memb_remove}
use Rattle.rules.proofs.Peers.{ids-track, ids-untrack, record_track, record_untrack}

pub standing-places : (s : Standing) → standing_in (places_of s) ≡ s
unfolding standing_in
standing-places none = refl
standing-places idle = refl
standing-places I = refl
standing-places L = refl
standing-places O = refl
standing-places IO = refl
standing-places OS = refl

abbrev tracked_after : Effect → Bool → Bool
tracked_after stays t = t
tracked_after adds t = true
tracked_after removes t = false

-- the places that a row leads to
row-places : (s : Standing) (k : Kind)
    → places (tracked_after (table s k).1 (places_of s).tracked) (places_of (table s k).0).incoming (places_of s).outgoing (places_of (table s k).0).learner (places_of (table s k).0).staged
    ≡ places_of (table s k).0
unfolding table
row-places none add_node = refl
row-places none add_learner = refl
row-places none remove_node = refl
row-places idle add_node = refl
row-places idle add_learner = refl
row-places idle remove_node = refl
row-places I add_node = refl
row-places I add_learner = refl
row-places I remove_node = refl
row-places L add_node = refl
row-places L add_learner = refl
row-places L remove_node = refl
row-places O add_node = refl
row-places O add_learner = refl
row-places O remove_node = refl
row-places IO add_node = refl
row-places IO add_learner = refl
row-places IO remove_node = refl
row-places OS add_node = refl
row-places OS add_learner = refl
row-places OS remove_node = refl

pub memb-put : (b : Bool) (x y : ℕ) (xs : List ℕ) → ascending xs ≡ true → memb y (put b x xs) ≡ cond (eqb x y) b (memb y xs)
memb-put true x y xs a = memb_insert x y xs ∙ go (eqb x y)
  where
    go : (e : Bool) → e || memb y xs ≡ cond e true (memb y xs)
    go true = refl
    go false = refl
memb-put false x y xs a = memb_remove x y xs a ∙ go (eqb x y)
  where
    go : (e : Bool) → not e && memb y xs ≡ cond e false (memb y xs)
    go true = refl
    go false = refl

pub ascending-put : (b : Bool) (x : ℕ) (xs : List ℕ) → ascending xs ≡ true → ascending (put b x xs) ≡ true
ascending-put true x xs a = ascending_insert x xs a
ascending-put false x xs a = ascending_remove x xs a

-- the tracked after a change's effect
abbrev pub by_effect : Effect → Progress → ℕ → List Peer → List Peer
by_effect stays r x ps = ps
by_effect adds r x ps = track x r ps
by_effect removes r x ps = untrack x ps

ascending_effect : (e : Effect) (r : Progress) (x : ℕ) (ps : List Peer) → ascending (ids ps) ≡ true → ascending (ids (by_effect e r x ps)) ≡ true
ascending_effect stays r x ps a = a
ascending_effect adds r x ps a = rw (ids-track x r ps) (ascending_insert x (ids ps) a)
ascending_effect removes r x ps a = rw (ids-untrack x ps) (ascending_remove x (ids ps) a)

memb_effect : (e : Effect) (r : Progress) (x y : ℕ) (ps : List Peer) → ascending (ids ps) ≡ true → memb y (ids (by_effect e r x ps)) ≡ cond (eqb x y) (tracked_after e (memb y (ids ps))) (memb y (ids ps))
memb_effect stays r x y ps a = go (eqb x y) (memb y (ids ps))
  where
    go : (e b : Bool) → b ≡ cond e b b
    go true b = refl
    go false b = refl
memb_effect adds r x y ps a = rw (ids-track x r ps) (memb-put true x y (ids ps) a)
memb_effect removes r x y ps a = rw (ids-untrack x ps) (memb-put false x y (ids ps) a)

record_effect : (e : Effect) (r : Progress) (x y : ℕ) (ps : List Peer) → ascending (ids ps) ≡ true → record_of y (by_effect e r x ps) ≡ cond (eqb x y) (kept e r (record_of y ps)) (record_of y ps)
record_effect stays r x y ps a = go (eqb x y) (record_of y ps)
  where
    go : (e : Bool) (b : Found) → b ≡ cond e b b
    go true b = refl
    go false b = refl
record_effect adds r x y ps a = record_track x y r ps
record_effect removes r x y ps a = record_untrack x y ps a

-- where y is, and its box, under a configuration and a tracked list
abbrev pub spot : Conf → List Peer → ℕ → Places
spot c ps y = places_in (memb y (ids ps)) c y

abbrev pub box_at : Conf → List Peer → ℕ → Box
box_at c ps y = record { standing = standing_in (spot c ps y); held = record_of y ps }

-- each list ascending, and each id at one of the seven standings
pub record Sound (c : Conf) (ps : List Peer) : Type 0 where
  pub incoming↑ : ascending c.incoming ≡ true
  pub outgoing↑ : ascending c.outgoing ≡ true
  pub learners↑ : ascending c.learners ≡ true
  pub staged↑ : ascending c.staged ≡ true
  pub ids↑ : ascending (ids ps) ≡ true
  pub stands : (y : ℕ) → spot c ps y ≡ places_of (standing_in (spot c ps y))

module _ (r : Progress) (x : ℕ) (k : Kind) (c : Conf) (ps : List Peer) (s : Sound c ps) (st : Standing) (q : spot c ps x ≡ places_of st) where
  abbrev to : Standing × Effect
  to = table st k

  abbrev c' : Conf
  c' = place x to.0 c

  abbrev ps' : List Peer
  ps' = by_effect to.1 r x ps

  spot_other : (y : ℕ) → eqb x y ≡ false → spot c' ps' y ≡ spot c ps y
  spot_other y e =
      rw (
        memb-put (places_of to.0).incoming x y c.incoming s.incoming↑,
        memb-put (places_of to.0).learner x y c.learners s.learners↑,
        memb-put (places_of to.0).staged x y c.staged s.staged↑,
        memb_effect to.1 r x y ps s.ids↑,
        e,
      )

  spot_self : spot c' ps' x ≡ places_of to.0
  spot_self =
      rw (
        memb-put (places_of to.0).incoming x x c.incoming s.incoming↑,
        memb-put (places_of to.0).learner x x c.learners s.learners↑,
        memb-put (places_of to.0).staged x x c.staged s.staged↑,
        memb_effect to.1 r x x ps s.ids↑,
        eq-eqb x x refl,
        ap (λ (p : Places). p.tracked) q,
        ap (λ (p : Places). p.outgoing) q,
      )
      (row-places st k)

  pub box_changed : (y : ℕ) → box_at c' ps' y ≡ cond (eqb x y) (change_box r k (box_at c ps y)) (box_at c ps y)
  box_changed y = go (eqb x y) refl
    where
      go : (e : Bool) → eqb x y ≡ e → box_at c' ps' y ≡ cond e (change_box r k (box_at c ps y)) (box_at c ps y)
      go true e =
          rw (← eqb-true x y e, spot_self, standing-places to.0, record_effect to.1 r x x ps s.ids↑, eq-eqb x x refl, q, standing-places st)
      go false e = rw (spot_other y e, record_effect to.1 r x y ps s.ids↑, e)

  pub sound_changed : Sound c' ps'
  sound_changed =
      record {
        incoming↑ = ascending-put (places_of to.0).incoming x c.incoming s.incoming↑;
        outgoing↑ = s.outgoing↑;
        learners↑ = ascending-put (places_of to.0).learner x c.learners s.learners↑;
        staged↑ = ascending-put (places_of to.0).staged x c.staged s.staged↑;
        ids↑ = ascending_effect to.1 r x ps s.ids↑;
        stands = λ y. go y (eqb x y) refl;
      }
    where
      go : (y : ℕ) (e : Bool) → eqb x y ≡ e → spot c' ps' y ≡ places_of (standing_in (spot c' ps' y))
      go y true e = rw (← eqb-true x y e, spot_self, standing-places to.0)
      go y false e = rw (spot_other y e) (s.stands y)
