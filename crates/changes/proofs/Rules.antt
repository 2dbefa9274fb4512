-- What a change, and a list of them, makes of the structs is what the rules say of the lists. Assumes nothing.
use Prim.Native.Nat.{ℕ, suc, ◌+◌, ◌-◌, ◌≤◌, ◌<◌}
use mathlib.Core.Path.{◌≡◌, refl, ap, ◌∙◌, sym}
use mathlib.Core.Bool.{Bool, true, false, ◌&&◌, not, cond}
use mathlib.Core.List.{List, [], ◌∷◌, ◌++◌}
use native.Mathlib.Omega.{arith}
use borrow.Author.Tests.{lt-ltb, not-true}
use lib.Dec.{eqb, leb}
use lib.ListN.{length}
use Rattle.progress.specs.declared.Progress.{Progress}
use Rattle.rules.specs.Ids.{ascending, memb}
use Rattle.rules.specs.State as state
use Rattle.rules.specs.State.{Change, Conf, Entry, Peer, add, ids, remove}
use Rattle.rules.specs.Check.{joint}
use Rattle.rules.specs.Table as rules
use Rattle.rules.specs.Table.{Places, adds, place, places_of, removes, stays, table}
use Rattle.rules.specs.Changes.{Done, Work, and_then, change, changes, done, full, logged, pending, pending_tracked, standing_now}
use Rattle.rules.specs.Calls.{list_of, start, with_auto}
use Rattle.rules.specs.Idle.{count_of, idles, is_idle, logs_nothing, one_more_if, when_done}
use Rattle.rules.proofs.Sets.{length_remove}
use Rattle.rules.proofs.Formed.{Sets, sets_of}
use Rattle.rules.proofs.Boxes.{Sound, spot}
use Rattle.rules.proofs.Changes.{After, Fine, change-done, ids-enrol, now, pending_append, stands_here}
use Rattle.rules.proofs.Idle.{any_told, idle_told}
use Rattle.rules.proofs.Steps.{auto_sound}
use Rattle.rules.proofs.Order.{conf-formed}
use Rattle.rules.proofs.Accept.{passes_sound}
use Rattle.idset.proofs.Bridge.{held-set}
use Rattle.idset.proofs.Places.{length_insert}
use Rattle.tracker.specs.Bridge.{configuration_of, change_log_of, log_of, map_change_of}
use Rattle.tracker.specs.declared.MapChangeType.TheVariants.{Add}
use Rattle.tracker.proofs.Bridge.{log_back}
use Rattle.changes.specs.declared.table.Standing.{Standing}
use Rattle.changes.specs.declared.table.Kind.{Kind}
use Rattle.changes.specs.declared.table.Effect.{Effect}
use Rattle.changes.specs.declared.table.Effect.TheVariants.{Stays, Adds, Removes}
use Rattle.changes.specs.Pending.{tracked_in}
use Rattle.changes.specs.Table.{standing_named, kind_named, effect_named, row_of, move_of, kind_in}
use Rattle.changes.specs.Change.{Carried, stands_in, place_in, any_changed_in, one_more, idle_after, push_in, work_in, full_in, skipped_in, by_effect, moved_in, change_in, changes_in}
use Rattle.changes.proofs.Standings.{kind_agrees, standing_agrees, table_agrees}
use Rattle.changes.proofs.RulesParts.{place_in_lem, place-told, push_in_lem}

-- the rules' work as a struct, over the tracked list ps, when i entries did nothing
abbrev pub work_of : List Peer → ℕ → Work → Carried
work_of ps i v = work_in (configuration_of v.conf) (change_log_of v.log) (length (pending v.log (ids ps))) i

-- what the rules answer to a change of v, as a struct; i entries did nothing before it, and then j
abbrev pub done_of : List Peer → Work → ℕ → ℕ → Done → Carried
done_of ps v i j (done u) = work_of ps j u
done_of ps v i j (full y) = full_in y (work_of ps i v)

pub start_in : (ps : List Peer) (c : Conf) → work_of ps 0 (start c) ≡ work_in (configuration_of c) (change_log_of []) (length (ids ps)) 0
unfolding pending
start_in ps c = refl

-- ** The table logs an Add only of an untracked id, a Remove only of a tracked one

abbrev fits : rules.Effect → Bool → Bool
fits stays t = true
fits adds t = not t
fits removes t = t

fits-row : (t : Bool) (a l r : rules.Standing × rules.Effect) → fits a.1 t ≡ true → fits l.1 t ≡ true → fits r.1 t ≡ true
    → (k : state.Kind) → fits (rules.row a l r k).1 t ≡ true
fits-row t a l r p q s state.add_node = p
fits-row t a l r p q s state.add_learner = q
fits-row t a l r p q s state.remove_node = s

fits-table : (st : rules.Standing) (k : state.Kind) → fits (table st k).1 (places_of st).tracked ≡ true
unfolding table
fits-table rules.none k = fits-row false _ _ _ refl refl refl k
fits-table rules.idle k = fits-row true _ _ _ refl refl refl k
fits-table rules.I k = fits-row true _ _ _ refl refl refl k
fits-table rules.L k = fits-row true _ _ _ refl refl refl k
fits-table rules.O k = fits-row true _ _ _ refl refl refl k
fits-table rules.IO k = fits-row true _ _ _ refl refl refl k
fits-table rules.OS k = fits-row true _ _ _ refl refl refl k

-- ** One change

-- each set holds tracked ids only, which are at most 64; r is the fresh record of the rules' laws
pub fine_sets : {r : Progress} {ps : List Peer} {up : ascending (ids ps) ≡ true} {v : Work} → Fine r ps up v → Sets v.conf
fine_sets {r} {ps} {up} {v} f =
    let c : Conf = with_auto false v.conf in
    let q : List Peer = now r ps up v in
    let s : Sound c q = auto_sound false v.conf q f.sound in
    let g : Sets c = sets_of c (conf-formed c q s (passes_sound c q s (quiet (not (joint c)))) (rw (ids-enrol r v.log ps) f.few)) in
    record { incoming = g.incoming; outgoing = g.outgoing; learners = g.learners; staged = g.staged }
  where
    quiet : (b : Bool) → b && false ≡ false
    quiet true = refl
    quiet false = refl

-- ** The count

one_more_lem : (i : ℕ) → i < 256 → one_more i ≡ suc i
one_more_lem i h = rw (lt-ltb i 256 h) (omega arith)

-- an entry that logs nothing
idle_after_lem : (b : Bool) (i : ℕ) → i < 256 → idle_after b i ≡ one_more_if (not b && true) i
idle_after_lem true i h = refl
idle_after_lem false i h = one_more_lem i h

-- one that logs is not idle
never : (b : Bool) → b && false ≡ false
never true = refl
never false = refl

more_add : (b : Bool) (i n : ℕ) → one_more_if b i + n ≡ i + one_more_if b n
more_add true i n = omega arith
more_add false i n = refl

more-fits : (b : Bool) (i n : ℕ) → i + suc n ≤ 256 → one_more_if b i + n ≤ 256
more-fits true i n h = omega arith
more-fits false i n h = omega arith

module _ {r : Progress} {ps : List Peer} {up : ascending (ids ps) ≡ true} {v : Work} (f : Fine r ps up v) (short : length v.log < 256) (i : ℕ) (room : i < 256) (x : ℕ) where
  -- the tracked ids at its turn
  abbrev tracked : List ℕ
  tracked = pending v.log (ids ps)

  -- where it is at its turn
  abbrev there : Places
  there = spot v.conf (now r ps up v) x

  -- how many entries did nothing after one that comes to n and logs e
  abbrev idle_then : Standing → Effect → ℕ
  idle_then n e = one_more_if (not (any_told (standing_named n) there) && logs_nothing (effect_named e)) i

  entry_in : (e : Entry) (n : Standing) (t j : ℕ) → Sets (place x (standing_named n) v.conf) → t ≡ length (pending (e ∷ []) tracked)
      → work_in (place_in x n (configuration_of v.conf)) (push_in (map_change_of e).id (map_change_of e).kind (change_log_of v.log)) t j
      ≡ work_of ps j (record { conf = place x (standing_named n) v.conf; log = v.log ++ (e ∷ []) })
  entry_in e n t j s q = rw (place_in_lem x n v.conf (fine_sets f) s, push_in_lem e v.log short, pending_append v.log (e ∷ []) (ids ps), q)

  effect_in : (e : Effect) (n : Standing) → fits (effect_named e) (memb x tracked) ≡ true
      → ((u : Work) → logged (effect_named e) (ids ps) x (place x (standing_named n) v.conf) v.log ≡ done u → Sets u.conf)
      → by_effect e x (place_in x n (configuration_of v.conf)) (any_changed_in x n (configuration_of v.conf)) (work_of ps i v)
      ≡ done_of ps v i (idle_then n e) (logged (effect_named e) (ids ps) x (place x (standing_named n) v.conf) v.log)
  unfolding pending
  effect_in Stays n h g =
      rw (place-told (memb x (ids (now r ps up v))) x n v.conf (fine_sets f) (g _ refl), idle_after_lem (any_told (standing_named n) there) i room, place_in_lem x n v.conf (fine_sets f) (g _ refl))
  effect_in Adds n h g = rw (never (not (any_told (standing_named n) there))) (go (leb 64 (length tracked)) g)
    where
      u : Work
      u = record { conf = place x (standing_named n) v.conf; log = v.log ++ (add x ∷ []) }

      go : (b : Bool) → ((w : Work) → cond b (full x) (done u) ≡ done w → Sets w.conf)
          → cond b (full_in x (work_of ps i v)) (work_in (place_in x n (configuration_of v.conf)) (push_in x Add (change_log_of v.log)) (length tracked + 1) i) ≡ done_of ps v i i (cond b (full x) (done u))
      go true g = refl
      go false g = entry_in (add x) n (length tracked + 1) i (g u refl) (sym (length_insert x tracked (not-true (memb x tracked) h)))
  effect_in Removes n h g = rw (never (not (any_told (standing_named n) there))) (entry_in (remove x) n (length tracked - 1) i (g _ refl) (omega (arith, length_remove x tracked h)))

  -- where x stands
  abbrev at : Standing
  at = row_of (pending_tracked (ids ps) v.log x) (memb x v.conf.incoming) (memb x v.conf.outgoing) (memb x v.conf.learners) (memb x v.conf.staged)

  at_in : stands_in (configuration_of v.conf) (tracked_in (ids ps) (change_log_of v.log).count (change_log_of v.log) x) x ≡ at
  at_in =
      let s : Sets v.conf = fine_sets f in
      let l : log_of (change_log_of v.log) ≡ v.log = log_back v.log (omega arith) in
      rw (l, held-set v.conf.incoming s.incoming.few, held-set v.conf.outgoing s.outgoing.few, held-set v.conf.learners s.learners.few, held-set v.conf.staged s.staged.few)

  module _ (k : Kind) where
    abbrev c : Change
    c = record { kind = kind_named k; id = x }

    move_agrees : table (standing_now (ids ps) v x) (kind_named k) ≡ (standing_named (move_of at k).next, effect_named (move_of at k).effect)
    move_agrees = ap (λ (st : rules.Standing). table st (kind_named k)) (standing_agrees _ _ _ _ _) ∙ table_agrees at k

    move-fits : fits (effect_named (move_of at k).effect) (memb x tracked) ≡ true
    move-fits =
        rw (← ids-enrol r v.log ps, ap (λ (p : Places). p.tracked) (stands_here r ps up c v f), ← ap (λ (p : rules.Standing × rules.Effect). p.1) move_agrees)
        (fits-table (standing_now (ids ps) v x) (kind_named k))

    change-moves : eqb x 0 ≡ false → change (ids ps) c v ≡ logged (effect_named (move_of at k).effect) (ids ps) x (place x (standing_named (move_of at k).next) v.conf) v.log
    unfolding change
    change-moves e = rw (e, move_agrees)

    -- idle by the table: no set changes and nothing is logged
    idle_agrees : eqb x 0 ≡ false → one_more_if (is_idle (ids ps) c v) i ≡ idle_then (move_of at k).next (move_of at k).effect
    idle_agrees e = rw (e, idle_told r ps up c v f, move_agrees)

    pub change_in_lem : change_in (ids ps) x k (work_of ps i v) ≡ done_of ps v i (one_more_if (is_idle (ids ps) c v) i) (change (ids ps) c v)
    unfolding change_in change
    change_in_lem = rw at_in (go (eqb x 0) refl)
      where
        go : (b : Bool) → eqb x 0 ≡ b
            → cond b (skipped_in (work_of ps i v)) (moved_in x (move_of at k) (work_of ps i v)) ≡ done_of ps v i (one_more_if (is_idle (ids ps) c v) i) (change (ids ps) c v)
        go true e = rw (e, one_more_lem i room)
        go false e =
            rw (idle_agrees e, change-moves e)
            (effect_in (move_of at k).effect (move_of at k).next move-fits (λ u h. fine_sets (change-done r ps up c v u (change-moves e ∙ h) f).fine))

-- ** A list of changes

-- the list was carried out, and j entries did nothing; or it stopped at y
abbrev pub Told : List Peer → Done → ℕ → Carried → Type 0
Told ps (done u) j w = w ≡ work_of ps j u
Told ps (full y) j w = (w.full ≡ true) × (w.id ≡ y)

none_more : (ps : List Peer) (v : Work) (i : ℕ) → work_of ps i v ≡ work_of ps (i + 0) v
none_more ps v i = ap (λ (n : ℕ). work_of ps n v) (omega arith)

module _ {r : Progress} {ps : List Peer} {up : ascending (ids ps) ≡ true} where
  told : {v : Work} → Fine r ps up v → (xs ks : List ℕ) (i : ℕ) → length v.log + length xs ≤ 256 → i + length xs ≤ 256
      → Told ps (changes (ids ps) (list_of xs ks) v) (i + idles (ids ps) (list_of xs ks) v) (changes_in (ids ps) xs ks (work_of ps i v))
  unfolding changes changes_in list_of count_of
  told {v} f [] ks i h l = none_more ps v i
  told {v} f (x ∷ xs) [] i h l = none_more ps v i
  told {v} f (x ∷ xs) (k ∷ ks) i h l =
      rw (change_in_lem f (omega arith) i (omega arith) x (kind_in k), ← kind_agrees k) (go (change (ids ps) c v) refl (λ u g. told g xs ks j))
    where
      c : Change
      c = record { kind = kind_named (kind_in k); id = x }

      j : ℕ
      j = one_more_if (is_idle (ids ps) c v) i

      go : (d : Done) → change (ids ps) c v ≡ d
          → ((u : Work) → Fine r ps up u → length u.log + length xs ≤ 256 → j + length xs ≤ 256 → Told ps (changes (ids ps) (list_of xs ks) u) (j + idles (ids ps) (list_of xs ks) u) (changes_in (ids ps) xs ks (work_of ps j u)))
          → Told ps (and_then d (λ u. changes (ids ps) (list_of xs ks) u)) (i + when_done d (λ u. one_more_if (is_idle (ids ps) c v) (idles (ids ps) (list_of xs ks) u)))
          (cond (done_of ps v i j d).full (done_of ps v i j d) (changes_in (ids ps) xs ks (done_of ps v i j d)))
      go (done u) e ih =
          let a : After r ps up (c ∷ []) v u = change-done r ps up c v u e f in
          rw (← more_add (is_idle (ids ps) c v) i (idles (ids ps) (list_of xs ks) u)) (ih u a.fine (omega (arith, a.short)) (more-fits (is_idle (ids ps) c v) i (length xs) l))
      go (full y) e ih = (refl, refl)

  pub changes_in_lem : {v : Work} → Fine r ps up v → (xs ks : List ℕ) → length v.log + length xs ≤ 256
      → (d : Done) → changes (ids ps) (list_of xs ks) v ≡ d → Told ps d (idles (ids ps) (list_of xs ks) v) (changes_in (ids ps) xs ks (work_of ps 0 v))
  changes_in_lem {v} f xs ks h d e =
      let z : 0 + idles (ids ps) (list_of xs ks) v ≡ idles (ids ps) (list_of xs ks) v = omega arith in
      rw (← e) (rw z at (told f xs ks 0 h (omega arith)))
