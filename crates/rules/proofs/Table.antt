-- The table agrees with the set operations of the Rust. Assumes nothing.
use Prim.Native.Nat.{ℕ}
use mathlib.Core.Path.{◌≡◌, refl, ap, ◌∙◌, sym}
use mathlib.Core.Bool.{Bool, true, false, ◌&&◌, ◌||◌, not, cond, true≢false}
use mathlib.Core.List.{List, ◌++◌, append-nil}
use lib.Dec.{eqb, leb}
use lib.ListN.{length}
use Rattle.progress.specs.declared.Progress.{Progress}
use Rattle.rules.specs.Ids.{ascending, insert_id, memb, remove_id}
use Rattle.rules.specs.State.{Change, Conf, Entry, Kind, Peer, add_learner, add_node, ids, remove_node}
use Rattle.rules.specs.Table.{Effect, I, IO, L, O, OS, Places, Standing, adds, idle, none, place, places_in, places_of, put, removes, stays, table}
use Rattle.rules.specs.Changes.{Work, change, done, full, logged, pending, pending_tracked}
use Rattle.rules.specs.Rust.{by_kind, rust_change, tracks, work}
use Rattle.rules.proofs.Sets.{ascending_ext, ascending_insert, ascending_remove, insert_same, memb_insert, memb_remove, remove_none}
use Rattle.rules.proofs.Changes.{Fine, entries, here, logged-done, tracked-now}

keep : (b : Bool) (x : ℕ) (xs : List ℕ) → ascending xs ≡ true → memb x xs ≡ b → put b x xs ≡ xs
keep true x xs a h = insert_same x xs a h
keep false x xs a h = remove_none x xs h

insert_remove : (x : ℕ) (xs : List ℕ) → ascending xs ≡ true → insert_id x (remove_id x xs) ≡ insert_id x xs
insert_remove x xs a =
    ascending_ext (insert_id x (remove_id x xs)) (insert_id x xs) (ascending_insert x (remove_id x xs) (ascending_remove x xs a)) (ascending_insert x xs a)
    (λ y. rw (memb_insert x y (remove_id x xs), memb_insert x y xs, memb_remove x y xs a) (go (eqb x y) (memb y xs)))
  where
    go : (e m : Bool) → e || (not e && m) ≡ e || m
    go true m = refl
    go false m = refl

module _ (x : ℕ) (t : Bool) (w : Work) (i : ascending w.conf.incoming ≡ true) (l : ascending w.conf.learners ≡ true) (g : ascending w.conf.staged ≡ true) where
  abbrev moved : Standing × Effect → Work
  moved to = record { conf = place x to.0 w.conf; log = w.log ++ entries to.1 x }

  -- at each of the standings, one change is the set operations of its kind
  pub table_agrees : (st : Standing) (k : Kind) → places_in t w.conf x ≡ places_of st → by_kind k t x w ≡ moved (table st k)
  unfolding table
  table_agrees none add_node q = rw (ap (λ (p : Places). p.tracked) q, remove_none x w.conf.learners (ap (λ (p : Places). p.learner) q), remove_none x w.conf.staged (ap (λ (p : Places). p.staged) q))
  table_agrees none add_learner q = rw (ap (λ (p : Places). p.tracked) q, remove_none x w.conf.incoming (ap (λ (p : Places). p.incoming) q), remove_none x w.conf.staged (ap (λ (p : Places). p.staged) q))
  table_agrees none remove_node q = rw (ap (λ (p : Places). p.tracked) q, append-nil, remove_none x w.conf.incoming (ap (λ (p : Places). p.incoming) q), remove_none x w.conf.learners (ap (λ (p : Places). p.learner) q), remove_none x w.conf.staged (ap (λ (p : Places). p.staged) q))
  table_agrees idle add_node q = rw (ap (λ (p : Places). p.tracked) q, append-nil)
  table_agrees idle add_learner q = rw (ap (λ (p : Places). p.tracked) q, ap (λ (p : Places). p.learner) q, ap (λ (p : Places). p.outgoing) q, append-nil, insert_remove x w.conf.learners l)
  table_agrees idle remove_node q = rw (ap (λ (p : Places). p.tracked) q, ap (λ (p : Places). p.outgoing) q)
  table_agrees I add_node q = rw (ap (λ (p : Places). p.tracked) q, append-nil)
  table_agrees I add_learner q = rw (ap (λ (p : Places). p.tracked) q, ap (λ (p : Places). p.learner) q, ap (λ (p : Places). p.outgoing) q, append-nil, insert_remove x w.conf.learners l)
  table_agrees I remove_node q = rw (ap (λ (p : Places). p.tracked) q, ap (λ (p : Places). p.outgoing) q)
  table_agrees L add_node q = rw (ap (λ (p : Places). p.tracked) q, append-nil)
  table_agrees L add_learner q = rw (ap (λ (p : Places). p.tracked) q, ap (λ (p : Places). p.learner) q, append-nil, remove_none x w.conf.incoming (ap (λ (p : Places). p.incoming) q), insert_same x w.conf.learners l (ap (λ (p : Places). p.learner) q), remove_none x w.conf.staged (ap (λ (p : Places). p.staged) q))
  table_agrees L remove_node q = rw (ap (λ (p : Places). p.tracked) q, ap (λ (p : Places). p.outgoing) q)
  table_agrees O add_node q = rw (ap (λ (p : Places). p.tracked) q, append-nil)
  table_agrees O add_learner q = rw (ap (λ (p : Places). p.tracked) q, ap (λ (p : Places). p.learner) q, ap (λ (p : Places). p.outgoing) q, append-nil, insert_remove x w.conf.staged g)
  table_agrees O remove_node q = rw (ap (λ (p : Places). p.tracked) q, ap (λ (p : Places). p.outgoing) q, append-nil)
  table_agrees IO add_node q = rw (ap (λ (p : Places). p.tracked) q, append-nil)
  table_agrees IO add_learner q = rw (ap (λ (p : Places). p.tracked) q, ap (λ (p : Places). p.learner) q, ap (λ (p : Places). p.outgoing) q, append-nil, insert_remove x w.conf.staged g)
  table_agrees IO remove_node q = rw (ap (λ (p : Places). p.tracked) q, ap (λ (p : Places). p.outgoing) q, append-nil)
  table_agrees OS add_node q = rw (ap (λ (p : Places). p.tracked) q, append-nil)
  table_agrees OS add_learner q = rw (ap (λ (p : Places). p.tracked) q, ap (λ (p : Places). p.learner) q, ap (λ (p : Places). p.outgoing) q, append-nil, insert_remove x w.conf.staged g)
  table_agrees OS remove_node q = rw (ap (λ (p : Places). p.tracked) q, ap (λ (p : Places). p.outgoing) q, append-nil)

-- ** 16

abbrev is_adds : Effect → Bool
is_adds stays = false
is_adds adds = true
is_adds removes = false

-- an Add is logged where an untracked id is to be tracked
adds_where : (st : Standing) (k : Kind) → is_adds (table st k).1 ≡ not (places_of st).tracked && tracks k
unfolding table
adds_where none add_node = refl
adds_where none add_learner = refl
adds_where none remove_node = refl
adds_where idle add_node = refl
adds_where idle add_learner = refl
adds_where idle remove_node = refl
adds_where I add_node = refl
adds_where I add_learner = refl
adds_where I remove_node = refl
adds_where L add_node = refl
adds_where L add_learner = refl
adds_where L remove_node = refl
adds_where O add_node = refl
adds_where O add_learner = refl
adds_where O remove_node = refl
adds_where IO add_node = refl
adds_where IO add_learner = refl
adds_where IO remove_node = refl
adds_where OS add_node = refl
adds_where OS add_learner = refl
adds_where OS remove_node = refl

logged-is : (e : Effect) (base : List ℕ) (x : ℕ) (c : Conf) (log : List Entry)
    → logged e base x c log ≡ cond (is_adds e && leb 64 (length (pending log base))) (full x) (done (work c (log ++ entries e x)))
logged-is stays base x c log = rw append-nil
logged-is adds base x c log = refl
logged-is removes base x c log = refl

-- ** One change

-- by the table it is what the Rust does
pub change-is : (r : Progress) (ps : List Peer) (up : ascending (ids ps) ≡ true) (c : Change) (w : Work) → Fine r ps up w → change (ids ps) c w ≡ rust_change (ids ps) c w
unfolding change rust_change
change-is r ps up c w f = go (eqb c.id 0)
  where
    st : Standing
    st = here r ps up c w f

    t : Bool
    t = pending_tracked (ids ps) w.log c.id

    q : places_in t w.conf c.id ≡ places_of st
    q = rw (tracked-now r ps up w c.id) (f.sound.stands c.id)

    agrees : by_kind c.kind t c.id w ≡ work (place c.id (table st c.kind).0 w.conf) (w.log ++ entries (table st c.kind).1 c.id)
    agrees = table_agrees c.id t w f.sound.incoming↑ f.sound.learners↑ f.sound.staged↑ st c.kind q

    room : is_adds (table st c.kind).1 ≡ not t && tracks c.kind
    room = adds_where st c.kind ∙ ap (λ (p : Places). not p.tracked && tracks c.kind) (sym q)

    go : (b : Bool)
        → cond b (done w) (logged (table st c.kind).1 (ids ps) c.id (place c.id (table st c.kind).0 w.conf) w.log)
        ≡ cond b (done w) (cond (not t && tracks c.kind && leb 64 (length (pending w.log (ids ps)))) (full c.id) (done (by_kind c.kind t c.id w)))
    go true = refl
    go false =
        logged-is (table st c.kind).1 (ids ps) c.id (place c.id (table st c.kind).0 w.conf) w.log
        ∙ ap (λ (a : Bool). cond (a && leb 64 (length (pending w.log (ids ps)))) (full c.id) (done (work (place c.id (table st c.kind).0 w.conf) (w.log ++ entries (table st c.kind).1 c.id)))) room
        ∙ ap (λ (v : Work). cond (not t && tracks c.kind && leb 64 (length (pending w.log (ids ps)))) (full c.id) (done v)) (sym agrees)

-- what a change that is not skipped and not refused leaves is what the Rust's operation of its kind leaves
pub change_agrees : (r : Progress) (ps : List Peer) (up : ascending (ids ps) ≡ true) (c : Change) (w v : Work) → Fine r ps up w → eqb c.id 0 ≡ false
    → change (ids ps) c w ≡ done v → v ≡ by_kind c.kind (pending_tracked (ids ps) w.log c.id) c.id w
unfolding change
change_agrees r ps up c w v f z h = go (eqb c.id 0) z h
  where
    st : Standing
    st = here r ps up c w f

    go : (b : Bool) → b ≡ false → cond b (done w) (logged (table st c.kind).1 (ids ps) c.id (place c.id (table st c.kind).0 w.conf) w.log) ≡ done v
        → v ≡ by_kind c.kind (pending_tracked (ids ps) w.log c.id) c.id w
    go true e h = absurd (true≢false e)
    go false e h =
        sym (logged-done (table st c.kind).1 (ids ps) c.id (place c.id (table st c.kind).0 w.conf) w.log v h).work
        ∙ sym (table_agrees c.id (pending_tracked (ids ps) w.log c.id) w f.sound.incoming↑ f.sound.learners↑ f.sound.staged↑ st c.kind
        (rw (tracked-now r ps up w c.id) (f.sound.stands c.id)))
