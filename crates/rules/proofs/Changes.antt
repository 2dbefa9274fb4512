-- What a list of changes does to each box. Assumes nothing.
use Prim.Native.Nat.{ℕ, ◌+◌, ◌≤◌}
use mathlib.Core.Path.{◌≡◌, refl, ap, ◌∙◌, sym}
use mathlib.Core.Bool.{Bool, true, false, ◌&&◌, not, cond}
use mathlib.Core.List.{List, [], ◌∷◌, ◌++◌, append-nil}
use native.Mathlib.Omega.{arith}
use borrow.Author.Tests.{eq-eqb, ne_eqb, eqb-true, eqb-false, leb-false}
use lib.Dec.{eqb, leb}
use lib.ListN.{length, length-append}
use Rattle.progress.specs.declared.Progress.{Progress}
use Rattle.rules.specs.Ids.{ascending, insert_id, memb, remove_id}
use Rattle.rules.specs.State.{Change, Conf, Entry, Peer, add, ids, remove}
use Rattle.rules.specs.Answers.{Verdict, ◌▸◌, fault, ok, refuse}
use Rattle.rules.specs.Table.{Effect, Standing, adds, place, places_in, places_of, removes, standing_in, stays, table}
use Rattle.rules.specs.Changes.{Done, Work, and_then, change, changes, done, full, last_says, logged, pending, pending_tracked}
use Rattle.rules.specs.Apply.{enrol, room, track, untrack}
use Rattle.rules.proofs.Sets.{ascending_insert, ascending_remove, length_insert_le, length_remove_le, memb_insert, memb_remove}
use Rattle.rules.proofs.Peers.{ids-track, ids-untrack}
use Rattle.rules.proofs.Plain.{changes_box}
use Rattle.rules.proofs.Boxes.{Sound, box_changed, box_at, by_effect, sound_changed, spot}

-- ** The log

pub ids-enrol : (r : Progress) (log : List Entry) (ps : List Peer) → ids (enrol r log ps) ≡ pending log (ids ps)
unfolding enrol pending
ids-enrol r [] ps = refl
ids-enrol r (add x ∷ es) ps = ids-enrol r es (track x r ps) ∙ ap (pending es) (ids-track x r ps)
ids-enrol r (remove x ∷ es) ps = ids-enrol r es (untrack x ps) ∙ ap (pending es) (ids-untrack x ps)

-- of the entries for x the last decides
pub last_says_lem : (x : ℕ) (log : List Entry) (base : List ℕ) → ascending base ≡ true → last_says x log (memb x base) ≡ memb x (pending log base)
unfolding last_says pending
last_says_lem x [] base a = refl
last_says_lem x (add y ∷ es) base a = ap (last_says x es) (sym (memb_insert y x base)) ∙ last_says_lem x es (insert_id y base) (ascending_insert y base a)
last_says_lem x (remove y ∷ es) base a = ap (last_says x es) (sym (memb_remove y x base a)) ∙ last_says_lem x es (remove_id y base) (ascending_remove y base a)

pub enrol_append : (r : Progress) (log es : List Entry) (ps : List Peer) → enrol r (log ++ es) ps ≡ enrol r es (enrol r log ps)
unfolding enrol
enrol_append r [] es ps = refl
enrol_append r (add x ∷ log) es ps = enrol_append r log es (track x r ps)
enrol_append r (remove x ∷ log) es ps = enrol_append r log es (untrack x ps)

pub pending_append : (log es : List Entry) (base : List ℕ) → pending (log ++ es) base ≡ pending es (pending log base)
unfolding pending
pending_append [] es base = refl
pending_append (add x ∷ log) es base = pending_append log es (insert_id x base)
pending_append (remove x ∷ log) es base = pending_append log es (remove_id x base)

then_assoc : (u v w : Verdict) → (u ▸ v) ▸ w ≡ u ▸ (v ▸ w)
then_assoc ok v w = refl
then_assoc (fault n x) v w = refl

pub room_append : (log es : List Entry) (base : List ℕ) → room (log ++ es) base ≡ room log base ▸ room es (pending log base)
unfolding room pending
room_append [] es base = refl
room_append (add x ∷ log) es base =
    ap (λ (v : Verdict). refuse (not (memb x base) && leb 64 (length base)) 16 x ▸ v) (room_append log es (insert_id x base))
    ∙ sym (then_assoc (refuse (not (memb x base) && leb 64 (length base)) 16 x) (room log (insert_id x base)) (room es (pending log (insert_id x base))))
room_append (remove x ∷ log) es base = room_append log es (remove_id x base)

-- ** What is logged

abbrev pub entries : Effect → ℕ → List Entry
entries stays x = []
entries adds x = add x ∷ []
entries removes x = remove x ∷ []

enrol_entries : (e : Effect) (r : Progress) (x : ℕ) (ps : List Peer) → enrol r (entries e x) ps ≡ by_effect e r x ps
unfolding enrol
enrol_entries stays r x ps = refl
enrol_entries adds r x ps = refl
enrol_entries removes r x ps = refl

pub record Logged (e : Effect) (base : List ℕ) (x : ℕ) (c : Conf) (log : List Entry) (w : Work) : Type 0 where
  pub work : record { conf = c; log = log ++ entries e x } ≡ w
  pub fits : room (entries e x) (pending log base) ≡ ok
  pub few : length (pending log base) ≤ 64 → length (pending (entries e x) (pending log base)) ≤ 64
  pub one : length (entries e x) ≤ 1

pub logged-done : (e : Effect) (base : List ℕ) (x : ℕ) (c : Conf) (log : List Entry) (w : Work) → logged e base x c log ≡ done w → Logged e base x c log w
unfolding pending room
logged-done stays base x c log w h =
    record { work = rw append-nil (cc); fits = refl; few = λ f. f; one = omega arith }
logged-done adds base x c log w h = go (leb 64 (length (pending log base))) refl h
  where
    last : (b : Bool) → b && false ≡ false
    last true = refl
    last false = refl

    go : (b : Bool) → leb 64 (length (pending log base)) ≡ b → cond b (full x) (done (record { conf = c; log = log ++ (add x ∷ []) })) ≡ done w → Logged adds base x c log w
    go true q h = absurd (let z : ◌≡◌ {A = ℕ} 0 1 = cc in omega arith)
    go false q h =
        record {
          work = cc;
          fits = rw (q, last (not (memb x (pending log base))));
          few = λ f. omega (arith, leb-false 64 (length (pending log base)) q, length_insert_le x (pending log base));
          one = omega arith;
        }
logged-done removes base x c log w h =
    record { work = cc; fits = refl; few = λ f. omega (arith, length_remove_le x (pending log base)); one = omega arith }

-- which boxes a change names
named_zero : (x y : ℕ) → eqb x 0 ≡ true → eqb x y && not (eqb y 0) ≡ false
named_zero x y e = go (eqb x y) refl
  where
    go : (b : Bool) → eqb x y ≡ b → b && not (eqb y 0) ≡ false
    go true q = rw (eq-eqb y 0 (sym (eqb-true x y q) ∙ eqb-true x 0 e))
    go false q = refl

pub named : (x y : ℕ) → eqb x 0 ≡ false → eqb x y && not (eqb y 0) ≡ eqb x y
named x y e = go (eqb x y) refl
  where
    go : (b : Bool) → eqb x y ≡ b → b && not (eqb y 0) ≡ b
    go true q = rw (ne_eqb y 0 (λ z. eqb-false x 0 e (eqb-true x y q ∙ z)))
    go false q = refl

-- ** A change, and a list of them, over the tracked list ps

module _ (r : Progress) (ps : List Peer) (up : ascending (ids ps) ≡ true) where
  -- the tracked, once the log is applied
  abbrev pub now : Work → List Peer
  now w = enrol r w.log ps

  pub tracked-now : (w : Work) (x : ℕ) → pending_tracked (ids ps) w.log x ≡ memb x (ids (now w))
  tracked-now w x = last_says_lem x w.log (ids ps) up ∙ ap (memb x) (sym (ids-enrol r w.log ps))

  pub record Fine (w : Work) : Type 0 where
    pub sound : Sound w.conf (now w)
    pub fits : room w.log (ids ps) ≡ ok
    pub few : length (pending w.log (ids ps)) ≤ 64

  pub record After (cs : List Change) (w v : Work) : Type 0 where
    pub fine : Fine v
    pub boxes : (y : ℕ) → box_at v.conf (now v) y ≡ changes_box r y cs (box_at w.conf (now w) y)
    pub outgoing : v.conf.outgoing ≡ w.conf.outgoing
    pub auto : v.conf.auto_leave ≡ w.conf.auto_leave
    pub short : length v.log ≤ length w.log + length cs

  after_none : (w : Work) → Fine w → After [] w w
  unfolding changes_box
  after_none w f = record { fine = f; boxes = λ y. refl; outgoing = refl; auto = refl; short = omega arith }

  module _ (c : Change) (w : Work) (f : Fine w) where
    abbrev pub here : Standing
    here = standing_in (places_in (pending_tracked (ids ps) w.log c.id) w.conf c.id)

    pub stands_here : spot w.conf (now w) c.id ≡ places_of here
    stands_here = rw (tracked-now w c.id) (f.sound.stands c.id)

    skipped : eqb c.id 0 ≡ true → After (c ∷ []) w w
    unfolding changes_box
    skipped e = record { fine = f; boxes = λ y. rw (named_zero c.id y e); outgoing = refl; auto = refl; short = omega arith }

    taken : (v : Work) → eqb c.id 0 ≡ false → Logged (table here c.kind).1 (ids ps) c.id (place c.id (table here c.kind).0 w.conf) w.log v → After (c ∷ []) w v
    unfolding changes_box
    taken v e l = rw (← l.work) (
        record {
          fine = record {
            sound = rw peers (sound_changed r c.id c.kind w.conf (now w) f.sound here stands_here);
            fits = rw (room_append w.log es (ids ps), f.fits) l.fits;
            few = rw (pending_append w.log es (ids ps)) (l.few f.few);
          };
          boxes = λ y. rw (peers, named c.id y e) (box_changed r c.id c.kind w.conf (now w) f.sound here stands_here y);
          outgoing = refl;
          auto = refl;
          short = omega (arith, length-append w.log es, l.one);
        })
      where
        es : List Entry
        es = entries (table here c.kind).1 c.id

        peers : enrol r (w.log ++ es) ps ≡ by_effect (table here c.kind).1 r c.id (now w)
        peers = enrol_append r w.log es ps ∙ enrol_entries (table here c.kind).1 r c.id (now w)

  pub change-done : (c : Change) (w v : Work) → change (ids ps) c w ≡ done v → Fine w → After (c ∷ []) w v
  unfolding change
  change-done c w v h f = go (eqb c.id 0) refl h
    where
      go : (b : Bool) → eqb c.id 0 ≡ b
          → cond b (done w) (logged (table (here c w f) c.kind).1 (ids ps) c.id (place c.id (table (here c w f) c.kind).0 w.conf) w.log) ≡ done v → After (c ∷ []) w v
      go true e h = let q : w ≡ v = cc in rw (← q) (skipped c w f e)
      go false e h = taken c w f v e (logged-done (table (here c w f) c.kind).1 (ids ps) c.id (place c.id (table (here c w f) c.kind).0 w.conf) w.log v h)

  after_more : (c : Change) (cs : List Change) (w u v : Work) → After (c ∷ []) w u → After cs u v → After (c ∷ cs) w v
  unfolding changes_box
  after_more c cs w u v a b =
      record {
        fine = b.fine;
        boxes = λ y. b.boxes y ∙ ap (changes_box r y cs) (a.boxes y);
        outgoing = b.outgoing ∙ a.outgoing;
        auto = b.auto ∙ a.auto;
        short = omega (arith, a.short, b.short);
      }

  pub changes-done : (cs : List Change) (w v : Work) → changes (ids ps) cs w ≡ done v → Fine w → After cs w v
  unfolding changes
  changes-done [] w v h f = let q : w ≡ v = cc in rw (← q) (after_none w f)
  changes-done (c ∷ cs) w v h f = go (change (ids ps) c w) refl h (λ u. changes-done cs u v)
    where
      go : (d : Done) → change (ids ps) c w ≡ d → and_then d (λ u. changes (ids ps) cs u) ≡ done v → ((u : Work) → changes (ids ps) cs u ≡ done v → Fine u → After cs u v) → After (c ∷ cs) w v
      go (done u) e h ih = let a : After (c ∷ []) w u = change-done c w u e f in after_more c cs w u v a (ih u h a.fine)
      go (full x) e h ih = absurd (let z : ◌≡◌ {A = ℕ} 0 1 = cc in omega arith)
