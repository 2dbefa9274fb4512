-- Number and id are those of the first test that refuses, in the paper's order. Assumes nothing.
use Prim.Native.Nat.{ℕ}
use mathlib.Core.Path.{◌≡◌, refl, ap, ◌∙◌, sym}
use mathlib.Core.Bool.{Bool, true, false, ◌&&◌, ◌||◌, not, cond}
use mathlib.Core.List.{List, [], ◌∷◌}
use native.Mathlib.Omega.{arith}
use borrow.Author.Tests.{eq-eqb}
use lib.Dec.{eqb, leb, ltb}
use lib.ListN.{length, take}
use Rattle.rules.specs.Ids.{is_empty}
use Rattle.rules.specs.State.{State, formed, ids}
use Rattle.rules.specs.Answers as R
use Rattle.rules.specs.Answers.{Verdict, ◌⇒◌, ◌▸◌, accepted, each, fault, ok, refuse, refused, settle}
use Rattle.rules.specs.Apply.{applied, apply_conf, room, to_conf_state}
use Rattle.rules.specs.Calls.{afterwards, difference, enter_joint, enter_of, entering, gone, leave_joint, leave_of, leaving, list_of, readable, removals, simple, simple_of, start, with_auto}
use Rattle.rules.specs.Changes.{Done, Work, changes, done, full, pending_tracked}
use Rattle.rules.specs.Check.{check, check_state, is_tracked, joint}
use Rattle.rules.specs.Idle.{enter_idles, simple_idles}
use Rattle.rules.specs.Restore.{restore_steps, run}
use Rattle.rules.specs.Unplug.{straight, verdict_in, voter_left}
use Rattle.tracker.specs.Apply as tracker
use Rattle.tracker.specs.Apply.{apply_of, id_of, number_of, outcome_of, refused_of, verdict_of}
use Rattle.tracker.specs.Bridge.{conf_of, lists_of, log_of, state_of}
use Rattle.tracker.specs.ConfStates.{written_of}
use Rattle.tracker.specs.Form.{conf_well_formed, log_well_formed, tracker_well_formed}
use Rattle.tracker.specs.declared.ChangeLog.{ChangeLog}
use Rattle.tracker.specs.declared.ConfState.{ConfState}
use Rattle.tracker.specs.declared.Configuration.{Configuration}
use Rattle.tracker.specs.declared.Tracker.{Tracker}
use Rattle.tracker.proofs.Bridge.{conf-formed, log-formed, tracker_formed}
use Rattle.invariants.specs.Check.{check_of}
use Rattle.changer.specs.Calls.{answer_of, enter_answer, if_formed, leave_answer, simple_answer, unplug_of}
use Rattle.restore.specs.Restore.{restore_of, step_by_step_of, too_long}
use Rattle.restore.proofs.Restored.{stepped_runs}
use Rattle.unplug.specs.Unplugs.{state_holds_in, state_in, told_of}
use Rattle.unplug.specs.Words.{flag}
use Rattle.unplug.specs.Unplugs.{Told}
use Rattle.listing.specs.Sessions.{answer_in}
use Rattle.listing.specs.declared.Session.{Session}
use Rattle.calls.specs.Layout.{conf_at, conf_state_at, log_at, state_at, word}
use Rattle.calls.specs.Call.{ids_in, kinds_in, reply_to}
use Rattle.calls.specs.Unplugs.{unplug_answer, unplug_leaves}
use Rattle.demands.specs.Numbers.{FirstTold, FirstToldByEntries, apply_tests, check_tests, end_of, enter_tests, first_of, leave_tests, no_room, request_tests, restore_tests, simple_tests, told, told_reply, told_words, told_written, turn_tests, unplug_tests, write_tests}
use Rattle.demands.proofs.Unplugs.{unplugged}
use Rattle.demands.proofs.Whole.{whole}

-- ** Tests in front of an answer

then_ok : (v : Verdict) → v ▸ ok ≡ v
then_ok ok = refl
then_ok (fault n x) = refl

one : (a : Verdict) (x : R.Answer) → verdict_in (a ⇒ x) ≡ a ▸ verdict_in x
one ok x = refl
one (fault n y) x = refl

two : (a b : Verdict) (x : R.Answer) → verdict_in ((a ▸ b) ⇒ x) ≡ a ▸ (b ▸ verdict_in x)
two ok b x = one b x
two (fault n y) b x = refl

three : (a b c : Verdict) (x : R.Answer) → verdict_in ((a ▸ b ▸ c) ⇒ x) ≡ a ▸ (b ▸ (c ▸ verdict_in x))
three ok b c x = two b c x
three (fault n y) b c x = refl

-- the list in between
listed : (d : Done) (b : Work) (k : Work → R.Answer) → verdict_in (afterwards d k) ≡ no_room d ▸ verdict_in (k (end_of d b))
listed (done w) b k = refl
listed (full x) b k = refl

-- ** The rules' calls of a state that is well formed

module _ (s : State) (f : formed s ≡ true) (xs ks : List ℕ) where
  abbrev uneven : Verdict
  uneven = refuse (not (eqb (length xs) (length ks)) || ltb 256 (length xs)) 2 0

  abbrev unknown : Verdict
  unknown = each (λ k. refuse (ltb 2 k) 3 0) ks

  abbrev own : Verdict
  own = check (is_tracked s) s.conf

  simple_tests_lem : verdict_in (simple s xs ks)
      ≡ (let d : Done = changes (ids s.peers) (list_of xs ks) (start s.conf) in
      let w : Work = end_of d (start s.conf) in
      uneven ▸ (unknown ▸ (refuse (joint s.conf) 6 0 ▸ (own ▸ (no_room d ▸ (refuse (is_empty w.conf.incoming) 17 0
      ▸ (refuse (leb 2 (difference w.conf.incoming s.conf.incoming)) 18 0 ▸ (check (pending_tracked (ids s.peers) w.log) w.conf ▸ ok))))))))
  unfolding simple simple_of readable
  simple_tests_lem =
      let d : Done = changes (ids s.peers) (list_of xs ks) (start s.conf) in
      let w : Work = end_of d (start s.conf) in
      rw f
      (two uneven unknown _
      ∙ ap (λ (v : Verdict). uneven ▸ (unknown ▸ v)) (two (refuse (joint s.conf) 6 0) own _
      ∙ ap (λ (v : Verdict). refuse (joint s.conf) 6 0 ▸ (own ▸ v)) (listed d (start s.conf) _
      ∙ ap (λ (v : Verdict). no_room d ▸ v)
      (three (refuse (is_empty w.conf.incoming) 17 0) (refuse (leb 2 (difference w.conf.incoming s.conf.incoming)) 18 0) (check (pending_tracked (ids s.peers) w.log) w.conf) (accepted w.conf w.log)))))

  enter_tests_lem : (auto : Bool) → verdict_in (enter_joint s auto xs ks)
      ≡ (let d : Done = changes (ids s.peers) (list_of xs ks) (start (entering s.conf)) in
      let w : Work = end_of d (start (entering s.conf)) in
      uneven ▸ (unknown ▸ (refuse (joint s.conf) 4 0 ▸ (own ▸ (refuse (is_empty s.conf.incoming) 15 0 ▸ (no_room d ▸ (refuse (is_empty w.conf.incoming) 17 0
      ▸ (check (pending_tracked (ids s.peers) w.log) (with_auto auto w.conf) ▸ ok))))))))
  unfolding enter_joint enter_of readable
  enter_tests_lem auto =
      let d : Done = changes (ids s.peers) (list_of xs ks) (start (entering s.conf)) in
      let w : Work = end_of d (start (entering s.conf)) in
      rw f
      (two uneven unknown _
      ∙ ap (λ (v : Verdict). uneven ▸ (unknown ▸ v)) (three (refuse (joint s.conf) 4 0) own (refuse (is_empty s.conf.incoming) 15 0) _
      ∙ ap (λ (v : Verdict). refuse (joint s.conf) 4 0 ▸ (own ▸ (refuse (is_empty s.conf.incoming) 15 0 ▸ v))) (listed d (start (entering s.conf)) _
      ∙ ap (λ (v : Verdict). no_room d ▸ v)
      (two (refuse (is_empty w.conf.incoming) 17 0) (check (pending_tracked (ids s.peers) w.log) (with_auto auto w.conf)) (accepted (with_auto auto w.conf) w.log)))))

leave_tests_lem : (s : State) → formed s ≡ true → verdict_in (leave_joint s)
    ≡ refuse (not (joint s.conf)) 5 0 ▸ (check (is_tracked s) s.conf ▸ (check (pending_tracked (ids s.peers) (removals (gone s.conf))) (leaving s.conf) ▸ ok))
unfolding leave_joint leave_of
leave_tests_lem s f =
    rw f (three (refuse (not (joint s.conf)) 5 0) (check (is_tracked s) s.conf) (check (pending_tracked (ids s.peers) (removals (gone s.conf))) (leaving s.conf)) _)

-- ** Of a tracker

module _ (t : Tracker) where
  abbrev s : State
  s = state_of t

  abbrev malformed : Verdict
  malformed = refuse (not (tracker_well_formed t)) 1 0

  -- 1, and then the rules' tests
  answer-told : (i : ℕ) (a : R.Answer) (v : Verdict) → (formed s ≡ true → verdict_in a ≡ v) → told (if_formed t i a) ≡ verdict_of (malformed ▸ v)
  answer-told i a v h = go (tracker_well_formed t) refl
    where
      of : (a : R.Answer) → told (answer_of t.conf i a) ≡ verdict_of (verdict_in a)
      of (accepted c log) = refl
      of (refused n x) = refl

      go : (b : Bool) → tracker_well_formed t ≡ b → told (cond b (answer_of t.conf i a) (answer_of t.conf 0 (refused 1 0))) ≡ verdict_of (refuse (not b) 1 0 ▸ v)
      go true w = of a ∙ ap verdict_of (h (tracker_formed t w))
      go false w = refl

  simple-told : (xs ks : List ℕ) → told (simple_answer t xs ks) ≡ verdict_of (first_of (simple_tests t xs ks))
  unfolding simple_answer simple_tests first_of
  simple-told xs ks = answer-told (simple_idles s xs ks) (simple s xs ks) _ (λ f. simple_tests_lem s f xs ks)

  enter-told : (auto : Bool) (xs ks : List ℕ) → told (enter_answer t auto xs ks) ≡ verdict_of (first_of (enter_tests t auto xs ks))
  unfolding enter_answer enter_tests first_of
  enter-told auto xs ks = answer-told (enter_idles s auto xs ks) (enter_joint s auto xs ks) _ (λ f. enter_tests_lem s f xs ks auto)

  leave-told : told (leave_answer t) ≡ verdict_of (first_of (leave_tests t))
  unfolding leave_answer leave_tests first_of
  leave-told = answer-told 0 (leave_joint s) _ (leave_tests_lem s)

  check-told : check_of t ≡ verdict_of (first_of (check_tests t))
  unfolding check_of check_state check_tests first_of
  check-told = go (tracker_well_formed t) refl
    where
      go : (b : Bool) → tracker_well_formed t ≡ b
          → cond b (verdict_of (refuse (not (formed s)) 1 0 ▸ check (is_tracked s) s.conf)) (verdict_of (fault 1 0)) ≡ verdict_of (refuse (not b) 1 0 ▸ (check (is_tracked s) s.conf ▸ ok))
      go true w = rw (tracker_formed t w, then_ok (check (is_tracked s) s.conf))
      go false w = refl

  write_told : told_written (written_of t) ≡ verdict_of (first_of (write_tests t))
  unfolding written_of to_conf_state first_of
  write_told = go (tracker_well_formed t) refl
    where
      go : (b : Bool) → tracker_well_formed t ≡ b → told_written (written_of t) ≡ verdict_of (refuse (not b) 1 0 ▸ ok)
      go true w = rw (w, tracker_formed t w)
      go false w = rw w

  apply-told : (c : Configuration) (log : ChangeLog) (n : ℕ) → tracker.verdict_in (apply_of t c log n) ≡ verdict_of (first_of (apply_tests t c log))
  unfolding apply_of apply_conf apply_tests first_of
  apply-told c log n = go (tracker_well_formed t) (conf_well_formed c) (log_well_formed log) refl refl refl
    where
      fits : Verdict
      fits = room (log_of log) (ids s.peers)

      of : (v : Verdict) (u : State) → tracker.verdict_in (outcome_of (settle v s u)) ≡ verdict_of (v ▸ ok)
      of ok u = refl
      of (fault m x) u = refl

      go : (a b d : Bool) → tracker_well_formed t ≡ a → conf_well_formed c ≡ b → log_well_formed log ≡ d
          → tracker.verdict_in (cond (a && b && d) (outcome_of (apply_conf s (conf_of c) (log_of log) n)) (refused_of t 1 0)) ≡ verdict_of (refuse (not a || not b || not d) 1 0 ▸ (fits ▸ ok))
      go true true true p q r = rw (tracker_formed t p, conf-formed c q, log-formed log r) (of fits (applied s (conf_of c) (log_of log) n))
      go false b d p q r = refl
      go true false d p q r = refl
      go true true false p q r = refl

  steps-told : (cs : ConfState) (n : ℕ) → tracker.verdict_in (step_by_step_of t cs n) ≡ verdict_of (first_of (restore_tests t cs n))
  unfolding step_by_step_of restore_tests first_of
  steps-told cs n = go (tracker_well_formed t) (too_long cs) refl refl
    where
      ran : Verdict
      ran = (run n s (restore_steps (lists_of cs))).verdict

      go : (a b : Bool) → tracker_well_formed t ≡ a → too_long cs ≡ b → tracker.verdict_in (step_by_step_of t cs n) ≡ verdict_of (refuse (not a) 1 0 ▸ (refuse b 2 0 ▸ (ran ▸ ok)))
      go true true p q = rw (p, q)
      go true false p q = ap tracker.verdict_in (stepped_runs t p cs q n) ∙ rw (then_ok ran)
      go false b p q = rw p

  restore-told : (cs : ConfState) (n : ℕ) → tracker.verdict_in (restore_of t cs n) ≡ verdict_of (first_of (restore_tests t cs n))
  restore-told cs n = rw ((whole t cs n).number, (whole t cs n).id) (steps-told cs n)

  unplug-told : (x : ℕ) → unplug_of t x ≡ verdict_of (first_of (unplug_tests t x))
  unfolding straight unplug_tests first_of
  unplug-told x = go (tracker_well_formed t) refl
    where
      more : (a b c : Verdict) → a ▸ b ▸ c ≡ a ▸ (b ▸ (c ▸ ok))
      more a b c = ap (λ (v : Verdict). a ▸ (b ▸ v)) (sym (then_ok c))

      go : (b : Bool) → tracker_well_formed t ≡ b
          → unplug_of t x ≡ verdict_of (refuse (not b) 1 0 ▸ (refuse (joint s.conf) 6 0 ▸ (check (is_tracked s) s.conf ▸ (refuse (not (voter_left x s.conf.incoming)) 17 0 ▸ ok))))
      go true w = (unplugged t x).well_formed w ∙ rw (tracker_formed t w) (ap verdict_of (more (refuse (joint s.conf) 6 0) (check (is_tracked s) s.conf) (refuse (not (voter_left x s.conf.incoming)) 17 0)))
      go false w = (unplugged t x).malformed w

  pub first-told : FirstTold t
  first-told =
      record {
        check = check-told;
        simple = simple-told;
        enter = enter-told;
        leave = leave-told;
        apply = apply-told;
        to-conf-state = write_told;
        restore = restore-told;
        restore-step-by-step = steps-told;
        unplug = unplug-told;
      }

-- ** Through the entries

-- either of two
either : {A : Type 0} (of : A → tracker.Verdict) (b : Bool) (x y : A) (xs ys : List Verdict) → of x ≡ verdict_of (first_of xs) → of y ≡ verdict_of (first_of ys) → of (cond b x y) ≡ verdict_of (first_of (cond b xs ys))
either of true x y xs ys h k = h
either of false x y xs ys h k = k

-- either of two with the same tests
both : {A : Type 0} (of : A → tracker.Verdict) (b : Bool) (x y : A) (xs : List Verdict) → of x ≡ verdict_of (first_of xs) → of y ≡ verdict_of (first_of xs) → of (cond b x y) ≡ verdict_of (first_of xs)
both of true x y xs h k = h
both of false x y xs h k = k

reply-told : (s : List ℕ) → told_reply (reply_to s) ≡ verdict_of (first_of (request_tests s))
unfolding reply_to request_tests first_of
reply-told s =
    let t : Tracker = state_at s 1 in
    either told_reply (eqb (word s 0) 0) _ _ (check_tests t) _ (check-told t)
    (either told_reply (eqb (word s 0) 1) _ _ [] _ refl
    (either told_reply (eqb (word s 0) 2) _ _ (simple_tests t (ids_in s) (kinds_in s)) _ (simple-told t (ids_in s) (kinds_in s))
    (either told_reply (eqb (word s 0) 3) _ _ (enter_tests t (flag (word s 968)) (ids_in s) (kinds_in s)) _ (enter-told t (flag (word s 968)) (ids_in s) (kinds_in s))
    (either told_reply (eqb (word s 0) 4) _ _ (leave_tests t) _ (leave-told t)
    (either told_reply (eqb (word s 0) 5) _ _ (apply_tests t (conf_at s 1492) (log_at s 1753)) _ (apply-told t (conf_at s 1492) (log_at s 1753) (word s 969))
    (either told_reply (eqb (word s 0) 6) _ _ (write_tests t) _ (write_told t)
    (both told_reply (eqb (word s 0) 7) _ _ (restore_tests t (conf_state_at s 2266) (word s 969)) (restore-told t (conf_state_at s 2266) (word s 969)) (steps-told t (conf_state_at s 2266) (word s 969)))))))))

unplug-words : (state : List ℕ) (x : ℕ) → (told_of state x).returned ≡ 0 → told_words (told_of state x) ≡ verdict_of (first_of (unplug_tests (state_in state) x))
unfolding told_of
unplug-words state x = go (not (eqb (length state) 967)) (not (state_holds_in state))
  where
    u : Tracker
    u = state_in state

    of : Bool → Bool → Told
    of a b = cond a (record { returned = 1; number = 0; id = 0 }) (cond b (record { returned = 4; number = 0; id = 0 }) (record { returned = 0; number = (unplug_of u x).number; id = (unplug_of u x).id }))

    go : (a b : Bool) → (of a b).returned ≡ 0 → told_words (of a b) ≡ verdict_of (first_of (unplug_tests u x))
    go true b h = absurd (omega arith)
    go false true h = absurd (omega arith)
    go false false h = unplug-told u x

words-told : (state verdict : List ℕ) (x : ℕ) → unplug_answer state (length verdict) ≡ 0
    → take 2 (unplug_leaves state x verdict) ≡ number_of (first_of (unplug_tests (state_in state) x)) ∷ id_of (first_of (unplug_tests (state_in state) x)) ∷ []
unfolding unplug_leaves
words-told state verdict x h =
    rw (eq-eqb (unplug_answer state (length verdict)) 0 h) (ap (λ (v : tracker.Verdict). v.number ∷ v.id ∷ []) (unplug-told (state_in state) x))

turn_told : (z : Session) (kind : ℕ) → told (answer_in z kind) ≡ verdict_of (first_of (turn_tests z kind))
unfolding answer_in turn_tests
turn_told z kind =
    either told (eqb kind 6) _ _ (leave_tests z.tracker) _ (leave-told z.tracker)
    (either told (eqb kind 3) _ _ (simple_tests z.tracker (take z.len z.ids) (take z.len z.kinds)) _ (simple-told z.tracker (take z.len z.ids) (take z.len z.kinds))
    (enter-told z.tracker (eqb kind 5) (take z.len z.ids) (take z.len z.kinds)))

pub entries_told : FirstToldByEntries
entries_told = record { dimecandle_call = reply-told; unplug = unplug-words; dimecandle_unplug = words-told; replay_turn = turn_told }
