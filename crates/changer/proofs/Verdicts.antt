-- Tests and answers, as structs and as the rules have them: a test's number is 0 only where it passes, and what comes after it is then given.
-- Assumes nothing.
use Prim.Native.Nat.{ℕ, ◌≤◌}
use mathlib.Core.Path.{◌≡◌, refl, ◌∙◌, sym}
use mathlib.Core.Bool.{Bool, true, false, ◌||◌, not, cond}
use mathlib.Core.List.{List, [], ◌∷◌}
use borrow.Author.Tests.{ltb-false}
use lib.Dec.{eqb, ltb}
use lib.ListN.{length}
use Rattle.rules.specs.Answers as rules
use Rattle.rules.specs.Answers.{ok, fault, each, refuse, ◌▸◌, ◌⇒◌}
use Rattle.rules.specs.Calls.{readable}
use Rattle.rules.specs.Idle.{if_accepted}
use Rattle.rules.specs.State.{formed}
use Rattle.rules.proofs.Check.{then_left, refuse-ok}
use Rattle.rules.proofs.Sets.{or_right}
use Rattle.tracker.specs.Apply.{verdict_of}
use Rattle.tracker.specs.Bridge.{state_of}
use Rattle.tracker.specs.Form.{tracker_well_formed}
use Rattle.tracker.specs.declared.Configuration.{Configuration}
use Rattle.tracker.specs.declared.Tracker.{Tracker}
use Rattle.tracker.proofs.Bridge.{tracker_formed}
use Rattle.invariants.proofs.Faults.{Numbered, numbered-refuse, numbered_then}
use Rattle.changer.specs.Calls.{Answer, answer_of, if_formed}
use Rattle.changer.specs.Before.{formed_then}
use Rattle.changer.specs.Stages.{given}

-- ** One test after the other

pub then_given : (u v : rules.Verdict) (b : rules.Answer) → (u ▸ v) ⇒ b ≡ u ⇒ (v ⇒ b)
then_given ok v b = refl
then_given (fault n x) v b = refl

-- the tests in front, with those of what comes after them
pub tests_first : (u v w : rules.Verdict) (b : rules.Answer) → (u ▸ (v ▸ w)) ⇒ b ≡ (u ▸ v) ⇒ (w ⇒ b)
tests_first ok v w b = then_given v w b
tests_first (fault n x) v w b = refl

-- ** 2 and 3

pub readable-numbered : (xs ks : List ℕ) → Numbered (readable xs ks)
unfolding readable each Numbered
readable-numbered xs ks =
    numbered_then (refuse (not (eqb (length xs) (length ks)) || ltb 256 (length xs)) 2 0) (each (λ k. refuse (ltb 2 k) 3 0) ks)
    (numbered-refuse (not (eqb (length xs) (length ks)) || ltb 256 (length xs)) 2 0 refl) (all ks)
  where
    all : (ks : List ℕ) → Numbered (each (λ k. refuse (ltb 2 k) 3 0) ks)
    all [] = refl
    all (k ∷ ks) = numbered_then (refuse (ltb 2 k) 3 0) (each (λ k. refuse (ltb 2 k) 3 0) ks) (numbered-refuse (ltb 2 k) 3 0 refl) (all ks)

-- a list that can be read is not too long
pub read-few : (xs ks : List ℕ) → readable xs ks ≡ ok → length xs ≤ 256
unfolding readable
read-few xs ks h =
    let a : Bool = not (eqb (length xs) (length ks)) in
    let b : Bool = ltb 256 (length xs) in
    ltb-false 256 (length xs) (or_right a b (refuse-ok (a || b) 2 0 (then_left (refuse (a || b) 2 0) (each (λ k. refuse (ltb 2 k) 3 0) ks) h)))

-- ** Answers

pub given-same : (c : Configuration) (i : ℕ) (v : rules.Verdict) (a : Answer) (b : rules.Answer) → Numbered v → (v ≡ ok → a ≡ answer_of c i b) → given (verdict_of v) c a ≡ answer_of c i (v ⇒ b)
unfolding Numbered
given-same c i ok a b n h = h refl
given-same c i (fault k x) a b n h = rw n

-- 1, the tests u, and an answer: what the rules say, where these tests and this answer are theirs on well-formed states, and i entries did nothing
pub tested_same : (t : Tracker) (i : ℕ) (u v : rules.Verdict) (a : Answer) (b : rules.Answer) → Numbered u
    → (tracker_well_formed t ≡ true → u ≡ v)
    → (tracker_well_formed t ≡ true → v ≡ ok → a ≡ answer_of t.conf i b)
    → given (formed_then t u) t.conf a ≡ if_formed t i ((refuse (not (formed (state_of t))) 1 0 ▸ v) ⇒ b)
tested_same t i u v a b n e h = go (tracker_well_formed t) refl
  where
    go : (w : Bool) → tracker_well_formed t ≡ w
        → given (cond w (verdict_of u) (verdict_of (fault 1 0))) t.conf a
        ≡ cond w (answer_of t.conf i ((refuse (not (formed (state_of t))) 1 0 ▸ v) ⇒ b)) (answer_of t.conf 0 (rules.refused 1 0))
    go true w = rw (tracker_formed t w, ← e w) (given-same t.conf i u a b n (λ p. h w (sym (e w) ∙ p)))
    go false w = refl

-- the count of a refused call is 0
pub count_same : (t : Tracker) (i : ℕ) (a : rules.Answer) → if_formed t i a ≡ if_formed t (if_accepted a i) a
count_same t i (rules.accepted c log) = refl
count_same t i (rules.refused n x) = refl
