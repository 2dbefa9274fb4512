-- Number 13 is never given. Assumes nothing.
use Prim.Native.Nat.{ℕ}
use mathlib.Core.Path.{◌≡◌, refl}
use mathlib.Core.Bool.{Bool, true, false, ◌&&◌, ◌||◌, not, true≢false}
use mathlib.Core.List.{List, [], ◌∷◌}
use lib.Dec.{eqb, leb}
use lib.ListN.{length}
use Rattle.rules.specs.Ids.{insert_all, is_empty, memb}
use Rattle.rules.specs.State.{log_formed, Conf, ConfState, Entry, State, add, conf_formed, formed, ids, remove}
use Rattle.rules.specs.Answers.{Answer, Outcome, Verdict, ◌▸◌, accepted, each, fault, ok, refuse, refused, settle}
use Rattle.rules.specs.Check.{check, joint}
use Rattle.rules.specs.Calls.{enter_joint, enter_of, leave_joint, leave_of, list_of, readable, simple, simple_of}
use Rattle.rules.specs.Apply.{applied, apply_conf, room}
use Rattle.rules.specs.Restore.{Step, apply_answer, ask, attempt, enter_step, go_on, guarded, leave_step, restorable, restore, restore_step_by_step, restore_steps, run, short, simple_step}
use Rattle.rules.specs.Sequences.{Call, enter_call, leave_call, perform, restore_call, simple_call, step_by_step_call}
use Rattle.rules.proofs.Numbers.{Numbered, NumberedAnswer, asked-numbered, each-numbered, given-numbered, readable-numbered, refuse-numbered, then_numbered}

-- any number but 13
abbrev pub Other : ℕ → Type 0
Other n = eqb n 13 ≡ false

each-staged : (t m : ℕ → Bool) (xs : List ℕ) → Numbered Other (each (λ x. refuse (not (t x)) 11 x ▸ refuse (not (m x)) 12 x) xs)
each-staged t m = each-numbered Other _ (λ x. then_numbered Other _ _ (refuse-numbered Other (not (t x)) 11 x refl) (refuse-numbered Other (not (m x)) 12 x refl))

module _ (t : ℕ → Bool) (outgoing : List ℕ) (quiet : Verdict) (q : Numbered Other quiet) where
  -- where 13 would come, 11 or 12 came first
  staged_other : (staged : List ℕ) (o : List ℕ) → o ≡ outgoing
      → Numbered Other (each (λ x. refuse (not (t x)) 11 x ▸ refuse (not (memb x o)) 12 x) staged ▸ refuse (not (not (is_empty o)) && not (is_empty staged)) 13 0 ▸ quiet)
  unfolding each memb Numbered
  staged_other [] [] e = q
  staged_other [] (o ∷ os) e = q
  staged_other (x ∷ xs) [] e = go (t x)
    where
      go : (b : Bool) → Numbered Other (((refuse (not b) 11 x ▸ fault 12 x) ▸ each (λ y. refuse (not (t y)) 11 y ▸ fault 12 y) xs) ▸ fault 13 0 ▸ quiet)
      go true = refl
      go false = refl
  staged_other (x ∷ xs) (o ∷ os) e =
      then_numbered Other (each (λ y. refuse (not (t y)) 11 y ▸ refuse (not (memb y (o ∷ os))) 12 y) (x ∷ xs)) quiet (each-staged t (λ y. memb y (o ∷ os)) (x ∷ xs)) q

pub check_other : (t : ℕ → Bool) (c : Conf) → Numbered Other (check t c)
unfolding check
check_other t c =
    then_numbered Other _ _ (each-numbered Other _ (λ x. refuse-numbered Other (not (t x)) 7 x refl) (insert_all c.incoming c.outgoing))
    (then_numbered Other _ _
    (each-numbered Other _ (λ x. then_numbered Other _ _ (refuse-numbered Other (not (t x)) 8 x refl)
    (then_numbered Other _ _ (refuse-numbered Other (memb x c.outgoing) 9 x refl) (refuse-numbered Other (memb x c.incoming) 10 x refl))) c.learners)
    (staged_other t c.outgoing (refuse (not (joint c) && c.auto_leave) 14 0) (refuse-numbered Other (not (joint c) && c.auto_leave) 14 0 refl) c.staged c.outgoing refl))

never_13 : (v : Verdict) (x : ℕ) → Numbered Other v → v ≡ fault 13 x → ⊥
unfolding Numbered
never_13 v x k h = true≢false (rw h at k)

pub check_never_13 : (t : ℕ → Bool) (c : Conf) (x : ℕ) → check t c ≡ fault 13 x → ⊥
check_never_13 t c x = never_13 (check t c) x (check_other t c)

ask_other : (s : State) (p : Step) → NumberedAnswer Other (ask s p)
ask_other = asked-numbered Other check_other (λ n h e. e)

room_other : (log : List Entry) (base : List ℕ) → Numbered Other (room log base)
unfolding room Numbered
room_other [] base = tt
room_other (add x ∷ es) base = then_numbered Other (refuse (not (memb x base) && leb 64 (length base)) 16 x) _ (refuse-numbered Other (not (memb x base) && leb 64 (length base)) 16 x refl) (room_other es _)
room_other (remove x ∷ es) base = room_other es _

settle_other : (v : Verdict) (s t : State) → Numbered Other v → Numbered Other (settle v s t).verdict
settle_other ok s t h = h
settle_other (fault n x) s t h = h

pub apply_other : (s : State) (c : Conf) (log : List Entry) (n : ℕ) → Numbered Other (apply_conf s c log n).verdict
unfolding apply_conf
apply_other s c log n =
    let ill : Bool = not (formed s) || not (conf_formed c) || not (log_formed log) in
    settle_other (refuse ill 1 0 ▸ room log (ids s.peers)) s (applied s c log n)
    (then_numbered Other (refuse ill 1 0) (room log (ids s.peers)) (refuse-numbered Other ill 1 0 refl) (room_other log (ids s.peers)))

answer_other : (n : ℕ) (s : State) (a : Answer) → NumberedAnswer Other a → Numbered Other (apply_answer s n a).verdict
unfolding Numbered NumberedAnswer
answer_other n s (accepted c log) h = apply_other s c log n
answer_other n s (refused m x) h = h

run_other : (n : ℕ) (ps : List Step) (s : State) → Numbered Other (run n s ps).verdict
unfolding run Numbered
run_other n [] s = tt
run_other n (p ∷ ps) s = go (attempt n s p) (answer_other n s (ask s p) (ask_other s p)) (run_other n ps)
  where
    go : (o : Outcome) → Numbered Other o.verdict → ((t : State) → Numbered Other (run n t ps).verdict) → Numbered Other (go_on o (λ t. run n t ps)).verdict
    go o h ih = here o.verdict h
      where
        here : (v : Verdict) → Numbered Other v → Numbered Other (elim v as (λ w. Outcome) [ ok ↦ run n o.state ps | fault m x ↦ o ]).verdict
        here ok e = ih o.state
        here (fault m x) e = h

ill_other : (s : State) → Numbered Other (refuse (not (formed s)) 1 0)
ill_other s = refuse-numbered Other (not (formed s)) 1 0 refl

before_other : (s : State) (xs ks : List ℕ) → Numbered Other (refuse (not (formed s)) 1 0 ▸ readable xs ks)
before_other s xs ks = then_numbered Other (refuse (not (formed s)) 1 0) (readable xs ks) (ill_other s) (readable-numbered Other refl refl xs ks)

-- ** Each call

pub simple_other : (s : State) (xs ks : List ℕ) → NumberedAnswer Other (simple s xs ks)
unfolding simple ask
simple_other s xs ks = given-numbered Other (refuse (not (formed s)) 1 0 ▸ readable xs ks) (simple_of s (list_of xs ks)) (before_other s xs ks) (ask_other s (simple_step (list_of xs ks)))

pub enter_other : (s : State) (auto : Bool) (xs ks : List ℕ) → NumberedAnswer Other (enter_joint s auto xs ks)
unfolding enter_joint ask
enter_other s auto xs ks = given-numbered Other (refuse (not (formed s)) 1 0 ▸ readable xs ks) (enter_of s auto (list_of xs ks)) (before_other s xs ks) (ask_other s (enter_step auto (list_of xs ks)))

pub leave_other : (s : State) → NumberedAnswer Other (leave_joint s)
unfolding leave_joint ask
leave_other s = given-numbered Other (refuse (not (formed s)) 1 0) (leave_of s) (ill_other s) (ask_other s leave_step)

pub steps_other : (s : State) (cs : ConfState) (n : ℕ) → Numbered Other (restore_step_by_step s cs n).verdict
unfolding restore_step_by_step restorable
steps_other s cs n = go (restorable s cs) (then_numbered Other _ _ (ill_other s) (refuse-numbered Other long 2 0 refl))
  where
    long : Bool
    long = not (short cs.voters && short cs.learners && short cs.voters_outgoing && short cs.learners_next)

    go : (v : Verdict) → Numbered Other v → Numbered Other (guarded v s (run n s (restore_steps cs))).verdict
    go ok e = run_other n (restore_steps cs) s
    go (fault m y) e = e

pub restore_other : (s : State) (cs : ConfState) (n : ℕ) → Numbered Other (restore s cs n).verdict
unfolding restore
restore_other s cs n = settle_other (restore_step_by_step s cs n).verdict s (restore_step_by_step s cs n).state (steps_other s cs n)

call_other : (s : State) (c : Call) → Numbered Other (perform s c).verdict
unfolding perform
call_other s (simple_call xs ks n) = answer_other n s (simple s xs ks) (simple_other s xs ks)
call_other s (enter_call auto xs ks n) = answer_other n s (enter_joint s auto xs ks) (enter_other s auto xs ks)
call_other s (leave_call n) = answer_other n s (leave_joint s) (leave_other s)
call_other s (restore_call cs n) = restore_other s cs n
call_other s (step_by_step_call cs n) = steps_other s cs n

-- no call gives 13
pub call_never_13 : (s : State) (c : Call) (x : ℕ) → (perform s c).verdict ≡ fault 13 x → ⊥
call_never_13 s c x = never_13 (perform s c).verdict x (call_other s c)
