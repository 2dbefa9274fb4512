-- A list of changes carried out: what is left of it answers for all. Assumes nothing.
use Prim.Native.Nat.{ℕ, ◌+◌, ◌≤◌, ◌<◌, min}
use mathlib.Core.Path.{◌≡◌, refl, sym, ◌∙◌}
use mathlib.Core.Bool.{Bool, true, false, cond, true≢false, false≢true}
use mathlib.Core.List.{List, [], ◌∷◌}
use native.Mathlib.Numerals.{add-one}
use native.Mathlib.Omega.{arith}
use borrow.Author.Tests.{leb-true, leb-false}
use lib.Dec.{eqb, leb}
use lib.ListN.{length, drop, get_or, drop_of_length-le}
use lib.Seq.{drop-cons}
use Rattle.changes.specs.Table.{kind_in}
use Rattle.std.specs.Prelude.{Result, Ok, Err}
use Rattle.tracker.specs.declared.Configuration.{Configuration}
use Rattle.tracker.specs.declared.MapChangeType.TheVariants.{Add}
use Rattle.changes.specs.declared.Work.{Work}
use Rattle.tracker.specs.declared.refusal.Refusal.{Refusal}
use Rattle.changes.specs.declared.table.Effect.{Effect}
use Rattle.changes.specs.declared.table.Effect.TheVariants.{Stays, Adds, Removes}
use Rattle.changes.specs.declared.table.Move.{Move}
use Rattle.changes.specs.Pending.{tracked_in}
use Rattle.changes.specs.Table.{move_of}
use Rattle.changes.specs.Change.{Carried, answer, answer_of, any_changed_in, by_effect, change_in, changes_in, full_in, left_of, moved_in, place_in, push_in, skipped_in, stands_in, started, work_in}
use Rattle.changes.specs.declared.table.Kind.{Kind}

-- no kind is left
none_left : (base xs : List ℕ) (w : Carried) → changes_in base xs [] w ≡ w
unfolding changes_in
none_left base [] w = refl
none_left base (x ∷ xs) w = refl

first : (b : Bool) (v w u : Carried) → b ≡ true → cond b v w ≡ u → v ≡ u
first true v w u f e = e
first false v w u f e = absurd (false≢true f)

second : (b : Bool) (v w u : Carried) → b ≡ false → cond b v w ≡ u → w ≡ u
second true v w u f e = absurd (true≢false f)
second false v w u f e = e

-- a run of the list xs with the kinds ks, started with w₀, that has passed i of them and has got to w
pub record Running (base xs ks : List ℕ) (w₀ w : Carried) (i : ℕ) : Type 0 where
  pub same : changes_in base (drop i xs) (drop i ks) w ≡ changes_in base xs ks w₀

module _ {base xs ks : List ℕ} {w₀ w : Carried} {i : ℕ} (r : Running base xs ks w₀ w i) where
  ids_end : length xs ≤ i → w ≡ changes_in base xs ks w₀
  unfolding changes_in
  ids_end h = rw (drop_of_length-le xs h) at r.same

  kinds_end : length ks ≤ i → w ≡ changes_in base xs ks w₀
  kinds_end h = sym (none_left base (drop i xs) w) ∙ rw (drop_of_length-le ks h) at r.same

  -- one of the lists is passed
  pub run_end : i ≡ min (length xs) (length ks) → w ≡ changes_in base xs ks w₀
  run_end e = go (leb (length xs) i) refl
    where
      go : (b : Bool) → leb (length xs) i ≡ b → w ≡ changes_in base xs ks w₀
      go true h = ids_end (leb-true (length xs) i h)
      go false h = kinds_end (omega (arith, e, leb-false (length xs) i h))

  -- x and z are the id and the kind at i
  module _ {x z : ℕ} (t : (i < length xs) × (i < length ks) × ((d : ℕ) → x ≡ get_or xs i d) × ((d : ℕ) → z ≡ get_or ks i d)) {k : Kind} (e : k ≡ kind_in z) {v : Carried} (d : v ≡ change_in base x k w) where
    turn : cond v.full v (changes_in base (drop (i + 1) xs) (drop (i + 1) ks) v) ≡ changes_in base xs ks w₀
    unfolding changes_in
    turn = rw (d, e, t.2 0, t.3 0, add-one) (rw (drop-cons xs i 0 t.0, drop-cons ks i 0 t.1) at r.same)

    pub run-full : v.full ≡ true → v ≡ changes_in base xs ks w₀
    run-full f = first v.full v _ _ f turn

    pub run-next : v.full ≡ false → (n : ℕ) → n ≡ i + 1 → Running base xs ks w₀ v n
    run-next f n h = rw h (record { same = second v.full v _ _ f turn })

-- ** One change's answer

stopped : (v : Carried) (e : Refusal) → Err e ≡ answer_of v → v.full ≡ true
stopped v e = go v.full
  where
    go : (b : Bool) → Err e ≡ answer b v.id → b ≡ true
    go true h = refl
    go false h = cc

came_on : (v : Carried) → ◌≡◌ {A = Result (Unit {0}) Refusal} (Ok tt) (answer_of v) → v.full ≡ false
came_on v = go v.full
  where
    go : (b : Bool) → ◌≡◌ {A = Result (Unit {0}) Refusal} (Ok tt) (answer b v.id) → b ≡ false
    go true h = cc
    go false h = refl

-- what is carried on is what is left in the work
started_again : (base : List ℕ) (x : ℕ) (k : Kind) (w : Work) → (change_in base x k (started w)).full ≡ false → started (left_of (change_in base x k (started w))) ≡ change_in base x k (started w)
unfolding change_in
started_again base x k w = go (eqb x 0) (move_of (stands_in w.conf (tracked_in base w.log.count w.log x) x) k)
  where
    effect : (e : Effect) (c : Configuration) (b : Bool) → (by_effect e x c b (started w)).full ≡ false → started (left_of (by_effect e x c b (started w))) ≡ by_effect e x c b (started w)
    effect Stays c b h = refl
    effect Removes c b h = refl
    effect Adds c b h = room (leb 64 w.tracked) h
      where
        on : Carried
        on = work_in c (push_in x Add w.log) (w.tracked + 1) w.idle

        room : (d : Bool) → (cond d (full_in x (started w)) on).full ≡ false → started (left_of (cond d (full_in x (started w)) on)) ≡ cond d (full_in x (started w)) on
        room true h = absurd (true≢false h)
        room false h = refl

    go : (b : Bool) (m : Move) → (cond b (skipped_in (started w)) (moved_in x m (started w))).full ≡ false
        → started (left_of (cond b (skipped_in (started w)) (moved_in x m (started w)))) ≡ cond b (skipped_in (started w)) (moved_in x m (started w))
    go true m h = refl
    go false m h = effect m.effect (place_in x m.next w.conf) (any_changed_in x m.next w.conf) h

module _ {base xs ks : List ℕ} {w₀ w : Work} {i : ℕ} (r : Running base xs ks (started w₀) (started w) i)
    {x z : ℕ} (t : (i < length xs) × (i < length ks) × ((d : ℕ) → x ≡ get_or xs i d) × ((d : ℕ) → z ≡ get_or ks i d)) {k : Kind} (e : k ≡ kind_in z) where
  pub work_halts : {d : Refusal} → Err d ≡ answer_of (change_in base x k (started w)) → change_in base x k (started w) ≡ changes_in base xs ks (started w₀)
  work_halts {d} h = run-full r t e refl (stopped (change_in base x k (started w)) d h)

  pub work_goes : ◌≡◌ {A = Result (Unit {0}) Refusal} (Ok tt) (answer_of (change_in base x k (started w))) → (new : Work) → new ≡ left_of (change_in base x k (started w)) → (n : ℕ) → n ≡ i + 1 → Running base xs ks (started w₀) (started new) n
  work_goes h new q n m =
      let f : (change_in base x k (started w)).full ≡ false = came_on (change_in base x k (started w)) h in
      rw (q, started_again base x k w f) (run-next r t e refl f n m)
