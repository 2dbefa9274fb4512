-- A log over the tracked ids, as structs and as the rules have it. Assumes nothing.
use Prim.Native.Nat.{ℕ, ◌≤◌}
use mathlib.Core.Path.{◌≡◌, refl, ap, ◌∙◌, fun_ext}
use mathlib.Core.Bool.{Bool, true, false, ◌&&◌, not}
use mathlib.Core.List.{List, [], ◌∷◌}
use native.Mathlib.Omega.{arith}
use borrow.Author.Tests.{leb-false}
use lib.Dec.{leb}
use lib.ListN.{length}
use Rattle.rules.specs.Ids.{insert_id, memb, remove_id}
use Rattle.rules.specs.State.{Conf, Entry, add, conf_formed, remove}
use Rattle.rules.specs.Answers.{Verdict, accepted, ok, refuse, ◌⇒◌}
use Rattle.rules.specs.Apply.{room}
use Rattle.rules.specs.Changes.{pending, pending_tracked}
use Rattle.rules.specs.Check.{check}
use Rattle.rules.specs.Calls.{removals}
use Rattle.rules.proofs.Changes.{last_says_lem}
use Rattle.rules.proofs.Check.{refuse-ok, then_left, then_right}
use Rattle.rules.proofs.Formed.{Set}
use Rattle.rules.proofs.Sets.{ascending_insert, ascending_remove, insert_same, length_insert_le, length_remove_le}
use Rattle.idset.specs.Set.{held, set_of}
use Rattle.idset.specs.declared.IdSet.{IdSet}
use Rattle.idset.proofs.Bridge.{held-set}
use Rattle.tracker.specs.Bridge.{configuration_of, change_log_of, conf_of, log_of}
use Rattle.tracker.specs.declared.Configuration.{Configuration}
use Rattle.tracker.proofs.Bridge.{conf-back, log_back}
use Rattle.invariants.specs.Check.{check_walk}
use Rattle.invariants.proofs.Checks.{walk_checks}
use Rattle.invariants.proofs.Parts.{check-numbered}
use Rattle.changes.proofs.RulesParts.{put_in_lem}
use Rattle.changer.specs.Calls.{answer_of}
use Rattle.changer.specs.Stages.{accepted_in, again_in, pending_in}
use Rattle.changer.proofs.Verdicts.{given-same}

-- ** Where there is room, the ids stay a set

insert_set : (x : ℕ) (es : List Entry) (base : List ℕ) → Set base → room (add x ∷ es) base ≡ ok → Set (insert_id x base)
unfolding room
insert_set x es base s h = record { rises = ascending_insert x base s.rises; few = go (memb x base) refl free }
  where
    free : not (memb x base) && leb 64 (length base) ≡ false
    free = refuse-ok (not (memb x base) && leb 64 (length base)) 16 x (then_left (refuse (not (memb x base) && leb 64 (length base)) 16 x) (room es (insert_id x base)) h)

    go : (b : Bool) → memb x base ≡ b → not b && leb 64 (length base) ≡ false → length (insert_id x base) ≤ 64
    go true m f = rw (insert_same x base s.rises m) s.few
    go false m f = omega (arith, leb-false 64 (length base) f, length_insert_le x base)

remove_set : (x : ℕ) (base : List ℕ) → Set base → Set (remove_id x base)
remove_set x base s = record { rises = ascending_remove x base s.rises; few = omega (arith, length_remove_le x base, s.few) }

room-rest : (x : ℕ) (es : List Entry) (base : List ℕ) → room (add x ∷ es) base ≡ ok → room es (insert_id x base) ≡ ok
unfolding room
room-rest x es base h = then_right (refuse (not (memb x base) && leb 64 (length base)) 16 x) (room es (insert_id x base)) h

pub pending-set : (log : List Entry) (base : List ℕ) → Set base → room log base ≡ ok → Set (pending log base)
unfolding pending room
pending-set [] base s h = s
pending-set (add x ∷ es) base s h = pending-set es (insert_id x base) (insert_set x es base s h) (room-rest x es base h)
pending-set (remove x ∷ es) base s h = pending-set es (remove_id x base) (remove_set x base s) h

pub pending_in_lem : (log : List Entry) (base : List ℕ) → Set base → room log base ≡ ok → pending_in log (set_of base) ≡ set_of (pending log base)
unfolding pending pending_in room
pending_in_lem [] base s h = refl
pending_in_lem (add x ∷ es) base s h =
    let u : Set (insert_id x base) = insert_set x es base s h in
    ap (pending_in es) (put_in_lem true x base s u.few) ∙ pending_in_lem es (insert_id x base) u (room-rest x es base h)
pending_in_lem (remove x ∷ es) base s h =
    let u : Set (remove_id x base) = remove_set x base s in
    ap (pending_in es) (put_in_lem false x base s u.few) ∙ pending_in_lem es (remove_id x base) u h

-- there is always room for removals
pub room-removals : (xs base : List ℕ) → room (removals xs) base ≡ ok
unfolding removals room
room-removals [] base = refl
room-removals (x ∷ xs) base = room-removals xs (remove_id x base)

-- ** The check again

module _ (tracked : IdSet) (base : List ℕ) (e : tracked ≡ set_of base) (s : Set base) (k : Conf) (f : conf_formed k ≡ true)
    (log : List Entry) (short : length log ≤ 256) (fits : room log base ≡ ok) where
  again_walk : check_walk (held (pending_in (log_of (change_log_of log)) tracked)) (conf_of (configuration_of k)) ≡ check (pending_tracked base log) k
  again_walk =
      let u : Set (pending log base) = pending-set log base s fits in
      let says : pending_tracked base log ≡ (λ x. memb x (pending log base)) = fun_ext (λ x. last_says_lem x log base s.rises) in
      rw (log_back log short, e, pending_in_lem log base s fits, held-set (pending log base) u.few, conf-back k f, says)
      (walk_checks (pending log base) k u.rises f)

  pub again_same : (given : Configuration) (i : ℕ) → again_in tracked given (accepted_in (configuration_of k) (change_log_of log) i) ≡ answer_of given i (check (pending_tracked base log) k ⇒ accepted k log)
  again_same given i =
      given-same given i (check_walk (held (pending_in (log_of (change_log_of log)) tracked)) (conf_of (configuration_of k))) (accepted_in (configuration_of k) (change_log_of log) i) (accepted k log)
      (check-numbered (held (pending_in (log_of (change_log_of log)) tracked)) (conf_of (configuration_of k))) (λ p. refl)
      ∙ ap (λ (v : Verdict). answer_of given i (v ⇒ accepted k log)) again_walk
