-- When a step is accepted. Assumes nothing.
use Prim.Native.Nat.{ℕ, ◌≤◌, ◌<◌}
use mathlib.Core.Path.{◌≡◌, refl, ap, ◌∙◌, sym, fun_ext}
use mathlib.Core.Bool.{Bool, true, false, ◌&&◌, ◌||◌, not, cond, false≢true}
use mathlib.Core.List.{List, [], ◌∷◌, ◌++◌}
use native.Mathlib.Omega.{arith}
use borrow.Author.Tests.{ne_eqb, eqb-true, lt-leb, not-true}
use lib.Dec.{eqb, leb}
use lib.ListN.{length}
use Rattle.progress.specs.Record.{fresh_record}
use Rattle.progress.specs.declared.Progress.{Progress}
use Rattle.rules.specs.Ids.{ascending, is_empty, memb, remove_id}
use Rattle.rules.specs.State.{Change, Conf, Kind, Peer, State, add, add_learner, add_node, ids, remove, remove_node}
use Rattle.rules.specs.Answers.{accepted, ok}
use Rattle.rules.specs.Check.{check, is_tracked, joint}
use Rattle.rules.specs.Table.{Effect, I, IO, L, O, OS, Places, Standing, adds, idle, none, place, places_of, removes, standing_in, stays, table}
use Rattle.rules.specs.Changes.{Work, and_then, change, changes, done, logged, pending, pending_tracked}
use Rattle.rules.specs.Calls.{difference, enter_of, entering, gone, leave_of, leaving, removals, simple_of, start, with_auto}
use Rattle.rules.specs.Apply.{enrol, room}
use Rattle.rules.specs.Boxes.{Box, change_box}
use Rattle.rules.proofs.Sets.{and_left, and_right, ascending_remove, length_part, length_remove, memb_remove}
use Rattle.rules.proofs.Plain.{changes_box}
use Rattle.rules.proofs.Boxes.{Sound, box_at, spot}
use Rattle.rules.proofs.Changes.{After, Fine, change-done, changes-done, here, ids-enrol, last_says_lem, now, stands_here, tracked-now}
use Rattle.rules.proofs.Check.{Passes, check-of, passes_of}
use Rattle.rules.proofs.Steps.{Checked, Ordered, auto_sound, enter_sound, leave_sound}

-- ** At one of the seven standings the check finds no fault

abbrev implies : Bool → Bool → Bool
implies a b = not a || b

apply : (a b : Bool) → implies a b ≡ true → a ≡ true → b ≡ true
apply true b h e = h
apply false b h e = absurd (false≢true e)

abbrev lawful : Places → Bool
lawful p =
    implies p.incoming p.tracked && implies p.outgoing p.tracked && implies p.learner p.tracked && implies p.staged p.tracked
    && implies p.learner (not p.outgoing) && implies p.learner (not p.incoming) && implies p.staged p.outgoing

lawful_places : (st : Standing) → lawful (places_of st) ≡ true
lawful_places none = refl
lawful_places idle = refl
lawful_places I = refl
lawful_places L = refl
lawful_places O = refl
lawful_places IO = refl
lawful_places OS = refl

pub passes_sound : (c : Conf) (ps : List Peer) → Sound c ps → not (joint c) && c.auto_leave ≡ false → Passes (λ y. memb y (ids ps)) c
passes_sound c ps s q =
    record {
      incoming-tracked = λ y. apply (i y) (t y) (and_left (a1 y) (a2 y) (h2 y));
      outgoing-tracked = λ y. apply (o y) (t y) (and_right (a1 y) (a2 y) (h2 y));
      learner-tracked = λ y. apply (l y) (t y) (and_right (a1 y && a2 y) (a3 y) (h3 y));
      learner-not-outgoing = λ y m. not-true (o y) (apply (l y) (not (o y)) (and_right (a1 y && a2 y && a3 y && a4 y) (a5 y) (h5 y)) m);
      learner-not-incoming = λ y m. not-true (i y) (apply (l y) (not (i y)) (and_right (a1 y && a2 y && a3 y && a4 y && a5 y) (a6 y) (h6 y)) m);
      staged-tracked = λ y. apply (g y) (t y) (and_right (a1 y && a2 y && a3 y) (a4 y) (h4 y));
      staged-outgoing = λ y. apply (g y) (o y) (and_right (a1 y && a2 y && a3 y && a4 y && a5 y && a6 y) (a7 y) (h7 y));
      single_quiet = q;
    }
  where
    t : ℕ → Bool
    t y = memb y (ids ps)

    i : ℕ → Bool
    i y = memb y c.incoming

    o : ℕ → Bool
    o y = memb y c.outgoing

    l : ℕ → Bool
    l y = memb y c.learners

    g : ℕ → Bool
    g y = memb y c.staged

    a1 : ℕ → Bool
    a1 y = implies (i y) (t y)

    a2 : ℕ → Bool
    a2 y = implies (o y) (t y)

    a3 : ℕ → Bool
    a3 y = implies (l y) (t y)

    a4 : ℕ → Bool
    a4 y = implies (g y) (t y)

    a5 : ℕ → Bool
    a5 y = implies (l y) (not (o y))

    a6 : ℕ → Bool
    a6 y = implies (l y) (not (i y))

    a7 : ℕ → Bool
    a7 y = implies (g y) (o y)

    h7 : (y : ℕ) → a1 y && a2 y && a3 y && a4 y && a5 y && a6 y && a7 y ≡ true
    h7 y = ap lawful (s.stands y) ∙ lawful_places (standing_in (spot c ps y))

    h6 : (y : ℕ) → a1 y && a2 y && a3 y && a4 y && a5 y && a6 y ≡ true
    h6 y = and_left (a1 y && a2 y && a3 y && a4 y && a5 y && a6 y) (a7 y) (h7 y)

    h5 : (y : ℕ) → a1 y && a2 y && a3 y && a4 y && a5 y ≡ true
    h5 y = and_left (a1 y && a2 y && a3 y && a4 y && a5 y) (a6 y) (h6 y)

    h4 : (y : ℕ) → a1 y && a2 y && a3 y && a4 y ≡ true
    h4 y = and_left (a1 y && a2 y && a3 y && a4 y) (a5 y) (h5 y)

    h3 : (y : ℕ) → a1 y && a2 y && a3 y ≡ true
    h3 y = and_left (a1 y && a2 y && a3 y) (a4 y) (h4 y)

    h2 : (y : ℕ) → a1 y && a2 y ≡ true
    h2 y = and_left (a1 y && a2 y) (a3 y) (h3 y)

-- ** The second check of simple and enter never refuses

module _ (u : State) (o : Checked u) (r : Progress) (j : joint u.conf ≡ false) where
  abbrev up : ascending (ids u.peers) ≡ true
  up = o.sound.ids↑

  recheck : (w : Work) (c : Conf) → Sound c (now r u.peers up w) → not (joint c) && c.auto_leave ≡ false → check (pending_tracked (ids u.peers) w.log) c ≡ ok
  recheck w c s q = rw (fun_ext (tracked-now r u.peers up w)) (check-of (λ y. memb y (ids (now r u.peers up w))) c (passes_sound c (now r u.peers up w) s q))

  pub fine_start : Fine r u.peers up (start u.conf)
  unfolding enrol pending room
  fine_start = record { sound = o.sound; fits = refl; few = o.few }

  pub fine_enter : Fine r u.peers up (start (entering u.conf))
  unfolding enrol pending room
  fine_enter = record { sound = enter_sound u.conf u.peers o.sound j; fits = refl; few = o.few }

  module _ (cs : List Change) (w : Work) (v : is_empty w.conf.incoming ≡ false) where
    pub simple-accepted : changes (ids u.peers) cs (start u.conf) ≡ done w → leb 2 (difference w.conf.incoming u.conf.incoming) ≡ false → simple_of u cs ≡ accepted w.conf w.log
    unfolding simple_of
    simple-accepted e d = rw (j, o.checked, e, v, d, recheck w w.conf a.fine.sound quiet)
      where
        a : After r u.peers up cs (start u.conf) w
        a = changes-done r u.peers up cs (start u.conf) w e fine_start

        quiet : not (joint w.conf) && w.conf.auto_leave ≡ false
        quiet = rw (a.outgoing, a.auto) (passes_of (is_tracked u) u.conf o.checked).single_quiet

    pub enter-accepted : (auto : Bool) → is_empty u.conf.incoming ≡ false → changes (ids u.peers) cs (start (entering u.conf)) ≡ done w → enter_of u auto cs ≡ accepted (with_auto auto w.conf) w.log
    unfolding enter_of
    enter-accepted auto n e = rw (j, o.checked, n, e, v, recheck w (with_auto auto w.conf) (auto_sound auto w.conf (now r u.peers up w) a.fine.sound) quiet)
      where
        a : After r u.peers up cs (start (entering u.conf)) w
        a = changes-done r u.peers up cs (start (entering u.conf)) w e fine_enter

        quiet : not (joint w.conf) && auto ≡ false
        quiet = rw (a.outgoing, n)

-- ** Leaving a joint state in order is accepted

module _ (s : State) (o : Ordered s) (j : joint s.conf ≡ true) where
  abbrev r₀ : Progress
  r₀ = fresh_record 0 0

  abbrev stay : List Peer
  stay = enrol r₀ (removals (gone s.conf)) s.peers

  tracked_then : pending_tracked (ids s.peers) (removals (gone s.conf)) ≡ (λ y. memb y (ids stay))
  tracked_then = fun_ext (λ y. last_says_lem y (removals (gone s.conf)) (ids s.peers) o.sound.ids↑ ∙ ap (memb y) (sym (ids-enrol r₀ (removals (gone s.conf)) s.peers)))

  leave-checked : check (pending_tracked (ids s.peers) (removals (gone s.conf))) (leaving s.conf) ≡ ok
  leave-checked = rw tracked_then (check-of (λ y. memb y (ids stay)) (leaving s.conf) (passes_sound (leaving s.conf) stay (leave_sound r₀ s.conf s.peers o.sound) refl))

  pub leave-accepted : leave_of s ≡ accepted (leaving s.conf) (removals (gone s.conf))
  unfolding leave_of
  leave-accepted = rw (j, o.checked, leave-checked)

-- ** Where every id has its place among 64, no change is refused with 16

length_strict : (x : ℕ) (xs ys : List ℕ) → ascending xs ≡ true → ascending ys ≡ true → ((y : ℕ) → memb y xs ≡ true → memb y ys ≡ true) → memb x ys ≡ true → memb x xs ≡ false → length xs < length ys
length_strict x xs ys a b h m n = omega (arith, length_remove x ys m, length_part xs (remove_id x ys) a (ascending_remove x ys b) go)
  where
    go : (y : ℕ) → memb y xs ≡ true → memb y (remove_id x ys) ≡ true
    go y k = memb_remove x y ys b ∙ rw (ne_eqb x y (λ e. false≢true (sym n ∙ ap (λ (z : ℕ). memb z xs) e ∙ k)), h y k)

abbrev is_adds : Effect → Bool
is_adds stays = false
is_adds adds = true
is_adds removes = false

adds-untracked : (st : Standing) (k : Kind) → is_adds (table st k).1 ≡ true → (places_of st).tracked ≡ false
unfolding table
adds-untracked none add_node h = refl
adds-untracked none add_learner h = refl
adds-untracked none remove_node h = refl
adds-untracked idle add_node h = absurd (false≢true h)
adds-untracked idle add_learner h = absurd (false≢true h)
adds-untracked idle remove_node h = absurd (false≢true h)
adds-untracked I add_node h = absurd (false≢true h)
adds-untracked I add_learner h = absurd (false≢true h)
adds-untracked I remove_node h = absurd (false≢true h)
adds-untracked L add_node h = absurd (false≢true h)
adds-untracked L add_learner h = absurd (false≢true h)
adds-untracked L remove_node h = absurd (false≢true h)
adds-untracked O add_node h = absurd (false≢true h)
adds-untracked O add_learner h = absurd (false≢true h)
adds-untracked O remove_node h = absurd (false≢true h)
adds-untracked IO add_node h = absurd (false≢true h)
adds-untracked IO add_learner h = absurd (false≢true h)
adds-untracked IO remove_node h = absurd (false≢true h)
adds-untracked OS add_node h = absurd (false≢true h)
adds-untracked OS add_learner h = absurd (false≢true h)
adds-untracked OS remove_node h = absurd (false≢true h)

module _ (r : Progress) (ps : List Peer) (up : ascending (ids ps) ≡ true) (T : List ℕ) (T↑ : ascending T ≡ true) (T64 : length T ≤ 64) where
  abbrev pub inside : List Change → Type 0
  inside [] = Unit {0}
  inside (c ∷ cs) = (memb c.id T ≡ true) × inside cs

  abbrev pub Within : Work → Type 0
  Within w = (y : ℕ) → memb y (ids (now r ps up w)) ≡ true → memb y T ≡ true

  change-fits : (c : Change) (w : Work) → Fine r ps up w → Within w → memb c.id T ≡ true → (v : Work) × (change (ids ps) c w ≡ done v)
  unfolding change
  change-fits c w f n m = go (eqb c.id 0) (table st c.kind).1 refl
    where
      st : Standing
      st = here r ps up c w f

      to : Conf
      to = place c.id (table st c.kind).0 w.conf

      out : is_adds (table st c.kind).1 ≡ true → memb c.id (ids (now r ps up w)) ≡ false
      out e = ap (λ (p : Places). p.tracked) (stands_here r ps up c w f) ∙ adds-untracked st c.kind e

      short : is_adds (table st c.kind).1 ≡ true → length (pending w.log (ids ps)) < 64
      short e = rw (← ids-enrol r w.log ps) (omega (arith, length_strict c.id (ids (now r ps up w)) T f.sound.ids↑ T↑ n m (out e)))

      go : (b : Bool) (e : Effect) → (table st c.kind).1 ≡ e → (v : Work) × (cond b (done w) (logged e (ids ps) c.id to w.log) ≡ done v)
      go true e q = (w, refl)
      go false stays q = (record { conf = to; log = w.log }, refl)
      go false adds q = (record { conf = to; log = w.log ++ (add c.id ∷ []) }, rw (lt-leb 64 (length (pending w.log (ids ps))) (short (ap is_adds q))))
      go false removes q = (record { conf = to; log = w.log ++ (remove c.id ∷ []) }, refl)

  within-one : (c : Change) (w v : Work) → After r ps up (c ∷ []) w v → Fine r ps up w → memb c.id T ≡ true → Within w → Within v
  unfolding changes_box
  within-one c w v a f m n y k = go (eqb c.id y) refl
    where
      go : (b : Bool) → eqb c.id y ≡ b → memb y T ≡ true
      go true e = ap (λ (z : ℕ). memb z T) (sym (eqb-true c.id y e)) ∙ m
      go false e =
          let same : box_at v.conf (now r ps up v) y ≡ box_at w.conf (now r ps up w) y =
          a.boxes y ∙ ap (λ (b : Bool). cond (b && not (eqb y 0)) (change_box r c.kind (box_at w.conf (now r ps up w) y)) (box_at w.conf (now r ps up w) y)) e in
          n y (ap (λ (p : Places). p.tracked) (f.sound.stands y) ∙ sym (ap (λ (b : Box). (places_of b.standing).tracked) same) ∙ sym (ap (λ (p : Places). p.tracked) (a.fine.sound.stands y)) ∙ k)

  pub changes_fit : (cs : List Change) (w : Work) → Fine r ps up w → Within w → inside cs → (v : Work) × (changes (ids ps) cs w ≡ done v) × Within v
  unfolding changes
  changes_fit [] w f n h = (w, refl, n)
  changes_fit (c ∷ cs) w f n h = go (change-fits c w f n h.0) (λ u. changes_fit cs u)
    where
      go : (v : Work) × (change (ids ps) c w ≡ done v)
          → ((u : Work) → Fine r ps up u → Within u → inside cs → (v : Work) × (changes (ids ps) cs u ≡ done v) × Within v)
          → (v : Work) × (and_then (change (ids ps) c w) (λ u. changes (ids ps) cs u) ≡ done v) × Within v
      go one ih =
          let a : After r ps up (c ∷ []) w one.0 = change-done r ps up c w one.0 one.1 f in
          let more : (v : Work) × (changes (ids ps) cs one.0 ≡ done v) × Within v = ih one.0 a.fine (within-one c w one.0 a f h.0 n) h.1 in
          (more.0, rw one.1 more.1, more.2)
