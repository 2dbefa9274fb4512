-- Whether a box can be unplugged is told without the call: document 02, d). Assumes nothing.
use Prim.Native.Nat.{ℕ}
use mathlib.Core.Path.{◌≡◌, refl, ap, ◌∙◌, sym}
use mathlib.Core.Bool.{Bool, true, false, ◌||◌, ◌&&◌, not, cond}
use mathlib.Core.List.{List, [], ◌∷◌}
use native.Mathlib.Omega.{arith}
use borrow.Author.Tests.{eqb-true, ltb-true, ne_eqb}
use lib.Dec.{eqb, ltb, leb}
use Rattle.progress.specs.Record.{fresh_record}
use Rattle.progress.specs.declared.Progress.{Progress}
use Rattle.rules.specs.Ids.{above, ascending, is_empty, memb, remove_id}
use Rattle.rules.specs.State.{Change, Conf, State, formed, ids, remove, remove_node}
use Rattle.rules.specs.Answers.{Verdict, ◌▸◌, ◌⇒◌, each, fault, ok, refuse}
use Rattle.rules.specs.Check.{check, in_order, is_tracked, joint}
use Rattle.rules.specs.Table.{I, IO, L, O, OS, Standing, idle, none, place, places_in, places_of, standing_in, table}
use Rattle.rules.specs.Changes.{Work, and_then, change, changes, done, logged, pending_tracked}
use Rattle.rules.specs.Calls.{difference, list_of, readable, simple, simple_of, start}
use Rattle.rules.specs.Unplug.{another, quick, straight, unplug, verdict_in, voter_left}
use Rattle.rules.proofs.Sets.{and_left, ascending_ext, ascending_remove, memb_remove, or_left}
use Rattle.rules.proofs.Boxes.{box_at}
use Rattle.rules.proofs.Changes.{After, changes-done, now}
use Rattle.rules.proofs.Steps.{Checked, Ordered}
use Rattle.rules.proofs.Order.{formed-of, ordered_of}
use Rattle.rules.proofs.Applied.{single-checked}
use Rattle.rules.proofs.Accept.{fine_start, simple-accepted}
use Rattle.rules.proofs.Near.{near}
use Rattle.rules.proofs.Singles.{few_differ, incoming-after, incoming-of}

-- ** Whether another voter exists

-- an ascending set without x is empty where it has no other
pub alone : (x : ℕ) (xs : List ℕ) → ascending xs ≡ true → is_empty (remove_id x xs) ≡ not (another x xs)
unfolding remove_id another ascending above
alone x [] a = refl
alone x (y ∷ []) a = go (eqb y x)
  where
    go : (b : Bool) → is_empty (cond b [] (y ∷ [])) ≡ not (not b || false)
    go true = refl
    go false = refl
alone x (y ∷ z ∷ zs) a = go (eqb y x) refl
  where
    go : (b : Bool) → eqb y x ≡ b → is_empty (cond b (z ∷ zs) (y ∷ remove_id x (z ∷ zs))) ≡ not (not b || (not (eqb z x) || another x zs))
    go true e = rw (ne_eqb z x above_head)
      where
        above_head : z ≡ x → ⊥
        above_head q = omega (arith, eqb-true y x e, ltb-true y z (and_left (ltb y z) (above z zs) a))
    go false e = refl

-- where 0 is not in a set, any id of it is another than 0
another_than_0 : (xs : List ℕ) → memb 0 xs ≡ false → another 0 xs ≡ not (is_empty xs)
unfolding another memb
another_than_0 [] m = refl
another_than_0 (y ∷ ys) m = rw (or_left (eqb y 0) (memb 0 ys) m)

-- ** The removal of one id from a state that passes the check and is not joint

removed-row : (st : Standing) → (places_of (table st remove_node).0).incoming ≡ false
unfolding table
removed-row none = refl
removed-row idle = refl
removed-row I = refl
removed-row L = refl
removed-row O = refl
removed-row IO = refl
removed-row OS = refl

module _ (s : State) (o : Checked s) (x : ℕ) (j : joint s.conf ≡ false) where
  abbrev c : Change
  c = record { kind = remove_node; id = x }

  abbrev r : Progress
  r = fresh_record 0 0

  abbrev up : ascending (ids s.peers) ≡ true
  up = o.sound.ids↑

  abbrev before : List ℕ
  before = s.conf.incoming

  -- by what the list comes to
  module _ (w : Work) (does : changes (ids s.peers) (c ∷ []) (start s.conf) ≡ done w) (few : leb 2 (difference w.conf.incoming before) ≡ false) where
    told : verdict_in (simple_of s (c ∷ [])) ≡ refuse (is_empty w.conf.incoming) 17 0
    unfolding simple_of
    told = go (is_empty w.conf.incoming) refl
      where
        go : (b : Bool) → is_empty w.conf.incoming ≡ b → verdict_in (simple_of s (c ∷ [])) ≡ refuse b 17 0
        go true e = rw (j, o.checked, does, e)
        go false e = rw (simple-accepted s o r j (c ∷ []) w e does few)

  -- id 0 is skipped
  skipped : eqb x 0 ≡ true → verdict_in (simple_of s (c ∷ [])) ≡ refuse (is_empty before) 17 0
  unfolding changes change
  skipped z = told (start s.conf) (rw z) (near x before before o.sound.incoming↑ o.sound.incoming↑ (λ y e. refl))

  -- no removal is refused with 16
  does : (w : Work) × (changes (ids s.peers) (c ∷ []) (start s.conf) ≡ done w)
  unfolding changes change table
  does = go (eqb x 0) (standing_in (places_in (pending_tracked (ids s.peers) [] x) s.conf x))
    where
      out : Standing → Conf
      out st = place x st s.conf

      go : (b : Bool) (st : Standing)
          → (w : Work) × (and_then (cond b (done (start s.conf)) (logged (table st remove_node).1 (ids s.peers) x (place x (table st remove_node).0 s.conf) [])) (λ v. done v) ≡ done w)
      go true st = (start s.conf, refl)
      go false none = (record { conf = out none; log = [] }, refl)
      go false idle = (record { conf = out none; log = remove x ∷ [] }, refl)
      go false I = (record { conf = out none; log = remove x ∷ [] }, refl)
      go false L = (record { conf = out none; log = remove x ∷ [] }, refl)
      go false O = (record { conf = out O; log = [] }, refl)
      go false IO = (record { conf = out O; log = [] }, refl)
      go false OS = (record { conf = out O; log = [] }, refl)

  abbrev w : Work
  w = does.0

  a : After r s.peers up (c ∷ []) (start s.conf) w
  a = changes-done r s.peers up (c ∷ []) (start s.conf) does.0 does.1 (fine_start s o r j)

  taken_out : eqb x 0 ≡ false → w.conf.incoming ≡ remove_id x before
  taken_out z = ascending_ext w.conf.incoming (remove_id x before) a.fine.sound.incoming↑ (ascending_remove x before o.sound.incoming↑) same
    where
      same : (y : ℕ) → memb y w.conf.incoming ≡ memb y (remove_id x before)
      same y = incoming-after r s.peers up c (start s.conf) w (fine_start s o r j) a z y ∙ go (eqb x y) ∙ sym (memb_remove x y before o.sound.incoming↑)
        where
          go : (e : Bool) → cond e (places_of (table (box_at s.conf (now r s.peers up (start s.conf)) y).standing remove_node).0).incoming (memb y before) ≡ not e && memb y before
          go true = removed-row (box_at s.conf (now r s.peers up (start s.conf)) y).standing
          go false = refl

  removed : eqb x 0 ≡ false → verdict_in (simple_of s (c ∷ [])) ≡ refuse (not (another x before)) 17 0
  removed z =
      told w does.1 (few_differ r s.peers up c (start s.conf) w (fine_start s o r j) a z)
      ∙ ap (λ (b : Bool). refuse b 17 0) (ap is_empty (taken_out z) ∙ alone x before o.sound.incoming↑)

  pub one_removal : verdict_in (simple_of s (c ∷ [])) ≡ refuse (not (voter_left x before)) 17 0
  one_removal = go (eqb x 0) refl
    where
      flip : (b : Bool) → b ≡ not (not b)
      flip true = refl
      flip false = refl

      go : (z : Bool) → eqb x 0 ≡ z → verdict_in (simple_of s (c ∷ [])) ≡ refuse (not (cond z (not (is_empty before)) (another x before))) 17 0
      go true z = skipped z ∙ ap (λ (b : Bool). refuse b 17 0) (flip (is_empty before))
      go false z = removed z

-- ** Every state

-- for every state and every id the answer is that of the full call
pub unplug-straight : (s : State) (x : ℕ) → unplug s x ≡ straight s x
unfolding unplug straight simple simple_of readable list_of each
unplug-straight s x = go (formed s) refl
  where
    c : Change
    c = record { kind = remove_node; id = x }

    rest : Verdict
    rest = refuse (not (voter_left x s.conf.incoming)) 17 0

    checks : formed s ≡ true → joint s.conf ≡ false → (v : Verdict) → check (is_tracked s) s.conf ≡ v → verdict_in (simple_of s (c ∷ [])) ≡ v ▸ rest
    checks f j ok e = one_removal s (single-checked s f e j) x j
    checks f j (fault n y) e = rw (j, e)

    single : formed s ≡ true → (b : Bool) → joint s.conf ≡ b → verdict_in (simple_of s (c ∷ [])) ≡ refuse b 6 0 ▸ check (is_tracked s) s.conf ▸ rest
    single f true j = rw j
    single f false j = checks f j (check (is_tracked s) s.conf) refl

    go : (b : Bool) → formed s ≡ b → verdict_in (refuse (not b) 1 0 ▸ ok ⇒ simple_of s (c ∷ [])) ≡ refuse (not b) 1 0 ▸ refuse (joint s.conf) 6 0 ▸ check (is_tracked s) s.conf ▸ rest
    go true f = single f (joint s.conf) refl
    go false f = refl

-- ** States in order

pub unplug-quick : (s : State) → in_order s ≡ true → (x : ℕ) → unplug s x ≡ quick s x
unfolding straight
unplug-quick s h x = unplug-straight s x ∙ rw (formed-of s o, o.checked) (ap (λ (b : Bool). refuse (joint s.conf) 6 0 ▸ refuse (not b) 17 0) (left (eqb x 0) refl))
  where
    o : Ordered s
    o = ordered_of s h

    no_zero : memb 0 s.conf.incoming ≡ false
    no_zero = incoming-of s.conf s.peers o.sound 0 ∙ ap (λ (t : Standing). (places_of t).incoming) o.zero

    left : (b : Bool) → eqb x 0 ≡ b → cond b (not (is_empty s.conf.incoming)) (another x s.conf.incoming) ≡ another x s.conf.incoming
    left true e = sym (another_than_0 s.conf.incoming no_zero) ∙ ap (λ (y : ℕ). another y s.conf.incoming) (sym (eqb-true x 0 e))
    left false e = refl
