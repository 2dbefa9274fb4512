-- The sets and the log of a work, as structs and as lists: what a change puts into them is the same. Assumes nothing.
use Prim.Native.Nat.{ℕ, suc, ◌+◌, ◌-◌, ◌≤◌, ◌<◌}
use mathlib.Core.Path.{◌≡◌, refl, ap, ◌∙◌}
use mathlib.Core.Bool.{Bool, true, false, not}
use mathlib.Core.List.{List, [], ◌∷◌, ◌++◌}
use native.Mathlib.Omega.{arith}
use borrow.Author.Tests.{lt-leb}
use lib.ListN.{length, set, replicate, length-append}
use Rattle.rules.specs.Ids.{insert_id, memb, remove_id}
use Rattle.rules.specs.State.{Conf, Entry}
use Rattle.rules.specs.Table as rules
use Rattle.rules.specs.Table.{place, put}
use Rattle.rules.proofs.Formed.{Set, Sets}
use Rattle.rules.proofs.Idle.{any_told, told}
use Rattle.idset.specs.Set.{held, set_of, Inserted, Removed}
use Rattle.idset.proofs.Bridge.{held-set, set-formed, insert_fits, remove_formed}
use Rattle.tracker.specs.Bridge.{configuration_of, blank, map_change_of, map_changes_of, change_log_of}
use Rattle.tracker.specs.declared.MapChange.{MapChange}
use Rattle.changes.specs.declared.table.Standing.{Standing}
use Rattle.changes.specs.Table.{standing_named}
use Rattle.changes.specs.Change.{any_changed_in, changed_in, put_in, place_in, push_in}

-- ** Sets

pub put_in_lem : (b : Bool) (x : ℕ) (xs : List ℕ) → Set xs → length (put b x xs) ≤ 64 → put_in b x (set_of xs) ≡ set_of (put b x xs)
put_in_lem true x xs s few =
    let e : held (set_of xs) ≡ xs = held-set xs s.few in
    ap (λ (r : Inserted). r.set) (insert_fits x (set_of xs) (set-formed xs s.rises s.few) (rw e few)) ∙ ap (λ (l : List ℕ). set_of (insert_id x l)) e
put_in_lem false x xs s few =
    ap (λ (r : Removed). r.set) (remove_formed x (set_of xs) (set-formed xs s.rises s.few))
    ∙ ap (λ (l : List ℕ). set_of (remove_id x l)) (held-set xs s.few)

pub place_in_lem : (x : ℕ) (s : Standing) (c : Conf) → Sets c → Sets (place x (standing_named s) c)
    → place_in x s (configuration_of c) ≡ configuration_of (place x (standing_named s) c)
place_in_lem x s c a b =
    rw (
      put_in_lem (rules.places_of (standing_named s)).incoming x c.incoming a.incoming b.incoming.few,
      put_in_lem (rules.places_of (standing_named s)).learner x c.learners a.learners b.learners.few,
      put_in_lem (rules.places_of (standing_named s)).staged x c.staged a.staged b.staged.few,
    )

-- what the set says of it
pub put-told : (b : Bool) (x : ℕ) (xs : List ℕ) → Set xs → length (put b x xs) ≤ 64 → changed_in b x (set_of xs) ≡ told b (memb x xs)
put-told true x xs s few =
    let e : held (set_of xs) ≡ xs = held-set xs s.few in
    ap (λ (r : Inserted). r.changed) (insert_fits x (set_of xs) (set-formed xs s.rises s.few) (rw e few)) ∙ ap (λ (l : List ℕ). not (memb x l)) e
put-told false x xs s few =
    ap (λ (r : Removed). r.changed) (remove_formed x (set_of xs) (set-formed xs s.rises s.few))
    ∙ ap (memb x) (held-set xs s.few)

pub place-told : (t : Bool) (x : ℕ) (s : Standing) (c : Conf) → Sets c → Sets (place x (standing_named s) c)
    → any_changed_in x s (configuration_of c) ≡ any_told (standing_named s) (rules.places_in t c x)
place-told t x s c a b =
    rw (
      put-told (rules.places_of (standing_named s)).incoming x c.incoming a.incoming b.incoming.few,
      put-told (rules.places_of (standing_named s)).learner x c.learners a.learners b.learners.few,
      put-told (rules.places_of (standing_named s)).staged x c.staged a.staged b.staged.few,
    )

-- ** The log

push_places : (es : List Entry) (e : Entry) (n : ℕ)
    → set (map_changes_of es ++ replicate (suc n) blank) (length es) (map_change_of e) ≡ map_changes_of (es ++ (e ∷ [])) ++ replicate n blank
unfolding map_changes_of
push_places [] e n = refl
push_places (d ∷ es) e n = ap (λ (l : List MapChange). map_change_of d ∷ l) (push_places es e n)

pub push_in_lem : (e : Entry) (es : List Entry) → length es < 256 → push_in (map_change_of e).id (map_change_of e).kind (change_log_of es) ≡ change_log_of (es ++ (e ∷ []))
unfolding push_in change_log_of
push_in_lem e es h =
    let n : length (es ++ (e ∷ [])) ≡ length es + 1 = length-append es (e ∷ []) in
    let m : 256 - length es ≡ suc (256 - (length es + 1)) = omega arith in
    rw (lt-leb 256 (length es) h, n, m, push_places es e (256 - (length es + 1)))
