-- Which numbers a refusal can have: a claim P of numbers that holds of those written in a rule holds of what the rule answers. Assumes nothing.
use Prim.Native.Nat.{ℕ}
use mathlib.Core.Path.{◌≡◌, refl}
use mathlib.Core.Bool.{Bool, true, false, ◌&&◌, ◌||◌, not}
use mathlib.Core.List.{List, [], ◌∷◌}
use lib.Dec.{eqb, ltb, leb}
use lib.ListN.{length}
use Rattle.rules.specs.Ids.{insert_all, is_empty, memb}
use Rattle.rules.specs.State.{Conf, State, ids}
use Rattle.rules.specs.Answers.{Answer, Verdict, ◌⇒◌, ◌▸◌, accepted, each, fault, ok, refuse, refused}
use Rattle.rules.specs.Check.{check, is_tracked, joint}
use Rattle.rules.specs.Changes.{Done, Work, changes, done, full, pending_tracked}
use Rattle.rules.specs.Calls.{afterwards, difference, enter_of, entering, gone, leave_of, leaving, readable, removals, simple_of, start, with_auto}
use Rattle.rules.specs.Restore.{Step, ask, enter_step, leave_step, simple_step}

unfoldable pub Numbered : (ℕ → Type 0) → Verdict → Type 0
Numbered P ok = Unit {0}
Numbered P (fault n x) = P n

unfoldable pub NumberedAnswer : (ℕ → Type 0) → Answer → Type 0
NumberedAnswer P (accepted c log) = Unit {0}
NumberedAnswer P (refused n x) = P n

module _ (P : ℕ → Type 0) where
  -- ** Tests

  pub refuse-numbered : (b : Bool) (n x : ℕ) → P n → Numbered P (refuse b n x)
  unfolding Numbered
  refuse-numbered true n x h = h
  refuse-numbered false n x h = tt

  pub then_numbered : (u v : Verdict) → Numbered P u → Numbered P v → Numbered P (u ▸ v)
  then_numbered ok v h k = k
  then_numbered (fault n x) v h k = h

  pub each-numbered : (f : ℕ → Verdict) → ((x : ℕ) → Numbered P (f x)) → (xs : List ℕ) → Numbered P (each f xs)
  unfolding Numbered each
  each-numbered f h [] = tt
  each-numbered f h (x ∷ xs) = then_numbered (f x) (each f xs) (h x) (each-numbered f h xs)

  -- 2, 3
  pub readable-numbered : P 2 → P 3 → (xs ks : List ℕ) → Numbered P (readable xs ks)
  unfolding readable
  readable-numbered two three xs ks =
      then_numbered _ _ (refuse-numbered (not (eqb (length xs) (length ks)) || ltb 256 (length xs)) 2 0 two) (each-numbered _ (λ k. refuse-numbered (ltb 2 k) 3 0 three) ks)

  -- 7 to 14
  pub check-numbered : ((n : ℕ) → ltb 6 n ≡ true → P n) → (t : ℕ → Bool) (c : Conf) → Numbered P (check t c)
  unfolding check
  check-numbered h t c =
      let out : ℕ → Bool = λ x. memb x c.outgoing in
      let into : ℕ → Bool = λ x. memb x c.incoming in
      then_numbered _ _ (each-numbered _ (λ x. refuse-numbered (not (t x)) 7 x (h 7 refl)) (insert_all c.incoming c.outgoing))
      (then_numbered _ _
      (each-numbered _ (λ x. then_numbered _ _ (refuse-numbered (not (t x)) 8 x (h 8 refl))
      (then_numbered _ _ (refuse-numbered (out x) 9 x (h 9 refl)) (refuse-numbered (into x) 10 x (h 10 refl)))) c.learners)
      (then_numbered _ _
      (each-numbered _ (λ x. then_numbered _ _ (refuse-numbered (not (t x)) 11 x (h 11 refl)) (refuse-numbered (not (out x)) 12 x (h 12 refl))) c.staged)
      (then_numbered _ _ (refuse-numbered (not (joint c) && not (is_empty c.staged)) 13 0 (h 13 refl)) (refuse-numbered (not (joint c) && c.auto_leave) 14 0 (h 14 refl)))))

  -- ** Steps

  pub given-numbered : (v : Verdict) (a : Answer) → Numbered P v → NumberedAnswer P a → NumberedAnswer P (v ⇒ a)
  unfolding Numbered NumberedAnswer
  given-numbered ok a h k = k
  given-numbered (fault n x) a h k = h

  module _ (checks : (t : ℕ → Bool) (c : Conf) → Numbered P (check t c)) (h : (n : ℕ) → ltb 3 n ≡ true → eqb n 13 ≡ false → P n) where
    done-numbered : (d : Done) (k : Work → Answer) → ((w : Work) → NumberedAnswer P (k w)) → NumberedAnswer P (afterwards d k)
    unfolding NumberedAnswer
    done-numbered (done w) k f = f w
    done-numbered (full x) k f = h 16 refl refl

    -- 4 to 6, 15 to 18, and what the check gives
    pub asked-numbered : (s : State) (p : Step) → NumberedAnswer P (ask s p)
    unfolding ask simple_of enter_of leave_of NumberedAnswer
    asked-numbered s (simple_step cs) =
        given-numbered _ _ (then_numbered _ _ (refuse-numbered (joint s.conf) 6 0 (h 6 refl refl)) (checks (is_tracked s) s.conf))
        (done-numbered (changes (ids s.peers) cs (start s.conf)) _ (λ w.
        given-numbered _ _
        (then_numbered _ _ (refuse-numbered (is_empty w.conf.incoming) 17 0 (h 17 refl refl))
        (then_numbered _ _ (refuse-numbered (leb 2 (difference w.conf.incoming s.conf.incoming)) 18 0 (h 18 refl refl))
        (checks (pending_tracked (ids s.peers) w.log) w.conf)))
        tt))
    asked-numbered s (enter_step auto cs) =
        given-numbered _ _
        (then_numbered _ _ (refuse-numbered (joint s.conf) 4 0 (h 4 refl refl))
        (then_numbered _ _ (checks (is_tracked s) s.conf) (refuse-numbered (is_empty s.conf.incoming) 15 0 (h 15 refl refl))))
        (done-numbered (changes (ids s.peers) cs (start (entering s.conf))) _ (λ w.
        given-numbered _ _
        (then_numbered _ _ (refuse-numbered (is_empty w.conf.incoming) 17 0 (h 17 refl refl)) (checks (pending_tracked (ids s.peers) w.log) (with_auto auto w.conf)))
        tt))
    asked-numbered s leave_step =
        given-numbered _ _
        (then_numbered _ _ (refuse-numbered (not (joint s.conf)) 5 0 (h 5 refl refl))
        (then_numbered _ _ (checks (is_tracked s) s.conf) (checks (pending_tracked (ids s.peers) (removals (gone s.conf))) (leaving s.conf))))
        tt
