-- Number 13 is never given by a call or through an entry. Assumes nothing.
use Prim.Native.Nat.{ℕ}
use mathlib.Core.Path.{◌≡◌, refl}
use mathlib.Core.Bool.{Bool, true, false, ◌&&◌, not, cond}
use mathlib.Core.List.{List, [], ◌∷◌}
use borrow.Author.Tests.{eq-eqb}
use lib.Dec.{eqb, ltb}
use lib.ListN.{length, take}
use Rattle.rules.specs.State.{formed}
use Rattle.rules.specs.Answers as R
use Rattle.rules.specs.Answers.{Verdict, ◌▸◌, accepted, fault, ok, refuse, refused}
use Rattle.rules.specs.Apply as lists
use Rattle.rules.specs.Apply.{apply_conf, no_conf_state, to_conf_state}
use Rattle.rules.specs.Calls.{enter_joint, leave_joint, simple}
use Rattle.rules.specs.Check.{check, check_state, is_tracked}
use Rattle.rules.specs.Idle.{enter_idles, simple_idles}
use Rattle.rules.specs.Restore as rules
use Rattle.rules.specs.Unplug.{verdict_in}
use Rattle.rules.proofs.Numbers.{Numbered, NumberedAnswer, refuse-numbered, then_numbered}
use Rattle.rules.proofs.Thirteen.{Other, apply_other, check_other, enter_other, leave_other, restore_other, simple_other, steps_other}
use Rattle.idset.specs.Places.{first_is, rank}
use Rattle.idset.specs.Set.{held}
use Rattle.tracker.specs.Apply.{apply_of, number_of, outcome_of, refused_of, verdict_of}
use Rattle.tracker.specs.Bridge.{conf_of, lists_of, log_of, state_of}
use Rattle.tracker.specs.ConfStates.{written_in, written_of}
use Rattle.tracker.specs.Form.{conf_well_formed, log_well_formed, tracker_well_formed}
use Rattle.tracker.specs.declared.ChangeLog.{ChangeLog}
use Rattle.tracker.specs.declared.ConfState.{ConfState}
use Rattle.tracker.specs.declared.Configuration.{Configuration}
use Rattle.tracker.specs.Apply.{Outcome}
use Rattle.tracker.specs.declared.Tracker.{Tracker}
use Rattle.invariants.specs.Check.{check_of, check_walk, learners_walk, rest_walk, staged_walk, voters_walk}
use Rattle.std.specs.Prelude.{Option, Some, None}
use Rattle.invariants.specs.Walk.{fault_at, first_in, first_out, sooner}
use Rattle.changer.specs.Calls.{answer_of, enter_answer, if_formed, leave_answer, simple_answer, unplug_of}
use Rattle.changer.specs.Calls.{Answer}
use Rattle.restore.specs.Restore.{applied_to, restore_of, restoring, step_by_step_of, too_long, whole_of}
use Rattle.unplug.specs.Unplugs.{state_holds_in, state_in, told_of}
use Rattle.unplug.specs.Words.{at, flag}
use Rattle.unplug.specs.Unplugs.{Told}
use Rattle.listing.specs.Script as script
use Rattle.listing.specs.Sessions.{answer_in}
use Rattle.listing.specs.declared.Session.{Session}
use Rattle.calls.specs.Layout.{conf_at, conf_state_at, log_at, state_at, word}
use Rattle.calls.specs.Call.{ids_in, kinds_in, reply_to}
use Rattle.calls.specs.Unplugs.{unplug_answer, unplug_leaves}
use Rattle.calls.specs.declared.Reply.{Reply}
use Rattle.demands.specs.Numbers.{Never13, Not13}

-- ** Verdicts

said : (v : Verdict) → Numbered Other v → Not13 (number_of v)
unfolding Numbered
said ok h = refl
said (fault n x) h = h

-- either of two
either : {A : Type 0} (number : A → ℕ) (b : Bool) (x y : A) → Not13 (number x) → Not13 (number y) → Not13 (number (cond b x y))
either number true x y h k = h
either number false x y h k = k

-- ** The check as walks, of any lists

at_other : (f : Option ℕ) (n : ℕ) → Not13 n → Numbered Other (fault_at f n)
unfolding Numbered
at_other None n h = tt
at_other (Some x) n h = h

sooner_other : (u v : Verdict) → Numbered Other u → Numbered Other v → Numbered Other (sooner u v)
unfolding Numbered
sooner_other ok v h k = k
sooner_other (fault n x) ok h k = h
sooner_other (fault n x) (fault m y) h k = go (ltb y x)
  where
    go : (b : Bool) → Numbered Other (cond b (fault m y) (fault n x))
    go true = k
    go false = h

voters_other : (tracked incoming outgoing : List ℕ) → Numbered Other (voters_walk tracked incoming outgoing)
voters_other tracked incoming outgoing =
    sooner_other (fault_at (first_out incoming tracked) 7) (fault_at (first_out outgoing tracked) 7) (at_other (first_out incoming tracked) 7 refl) (at_other (first_out outgoing tracked) 7 refl)

learners_other : (tracked incoming outgoing learners : List ℕ) → Numbered Other (learners_walk tracked incoming outgoing learners)
learners_other tracked incoming outgoing learners =
    sooner_other (fault_at (first_out learners tracked) 8) (sooner (fault_at (first_in learners outgoing) 9) (fault_at (first_in learners incoming) 10)) (at_other (first_out learners tracked) 8 refl)
    (sooner_other (fault_at (first_in learners outgoing) 9) (fault_at (first_in learners incoming) 10) (at_other (first_in learners outgoing) 9 refl) (at_other (first_in learners incoming) 10 refl))

staged_other : (tracked outgoing staged : List ℕ) → Numbered Other (staged_walk tracked outgoing staged)
staged_other tracked outgoing staged =
    sooner_other (fault_at (first_out staged tracked) 11) (fault_at (first_out staged outgoing) 12) (at_other (first_out staged tracked) 11 refl) (at_other (first_out staged outgoing) 12 refl)

-- where nothing is outgoing, a walk along the staged ids finds its first one
module _ (x : ℕ) (f : Option ℕ) where
  -- so that what comes after does not matter
  found_other : (after : Verdict) → Numbered Other (sooner (fault_at f 11) (fault 12 x) ▸ after)
  unfolding Numbered
  found_other after = go f
    where
      go : (f : Option ℕ) → Numbered Other (sooner (fault_at f 11) (fault 12 x) ▸ after)
      go None = refl
      go (Some y) = less (ltb x y)
        where
          less : (b : Bool) → Numbered Other (cond b (fault 12 x) (fault 11 y) ▸ after)
          less true = refl
          less false = refl

-- 11, 12, 13, 14: where 13 would be given, 11 or 12 came first
rest_other : (tracked outgoing staged : List ℕ) (auto : Bool) → Numbered Other (rest_walk tracked outgoing staged auto)
unfolding first_out first_is rank Numbered
rest_other tracked [] [] auto = refuse-numbered Other auto 14 0 refl
rest_other tracked [] (x ∷ xs) auto = found_other x (first_out (x ∷ xs) tracked) _
rest_other tracked (o ∷ os) [] auto = tt
rest_other tracked (o ∷ os) (x ∷ xs) auto = then_numbered Other (staged_walk tracked (o ∷ os) (x ∷ xs)) _ (staged_other tracked (o ∷ os) (x ∷ xs)) tt

walk_other : (tracked incoming outgoing learners staged : List ℕ) (auto : Bool)
    → Numbered Other (check_walk tracked (record { incoming = incoming; outgoing = outgoing; learners = learners; staged = staged; auto_leave = auto }))
unfolding check_walk
walk_other tracked incoming outgoing learners staged auto =
    then_numbered Other (voters_walk tracked incoming outgoing) (learners_walk tracked incoming outgoing learners ▸ rest_walk tracked outgoing staged auto) (voters_other tracked incoming outgoing)
    (then_numbered Other (learners_walk tracked incoming outgoing learners) (rest_walk tracked outgoing staged auto) (learners_other tracked incoming outgoing learners) (rest_other tracked outgoing staged auto))

-- ** Answers and outcomes

given : (a : R.Answer) → NumberedAnswer Other a → Not13 (number_of (verdict_in a))
unfolding NumberedAnswer
given (accepted c log) h = refl
given (refused n x) h = h

module _ (t : Tracker) where
  checked : Not13 (check_of t).number
  unfolding check_of check_state
  checked =
      either (λ v. v.number) (tracker_well_formed t) (verdict_of (check_state (state_of t))) (verdict_of (fault 1 0))
      (said (check_state (state_of t)) (then_numbered Other (refuse (not (formed (state_of t))) 1 0) (check (is_tracked (state_of t)) (conf_of t.conf))
      (refuse-numbered Other (not (formed (state_of t))) 1 0 refl) (check_other (is_tracked (state_of t)) (conf_of t.conf)))) refl

  answered : (i : ℕ) (a : R.Answer) → NumberedAnswer Other a → Not13 (if_formed t i a).number
  answered i a h = either (λ a. a.number) (tracker_well_formed t) (answer_of t.conf i a) (answer_of t.conf 0 (refused 1 0)) (of a (given a h)) refl
    where
      of : (a : R.Answer) → Not13 (number_of (verdict_in a)) → Not13 (answer_of t.conf i a).number
      of (accepted c log) h = h
      of (refused n x) h = h

  simply : (xs ks : List ℕ) → Not13 (simple_answer t xs ks).number
  unfolding simple_answer
  simply xs ks = answered (simple_idles (state_of t) xs ks) (simple (state_of t) xs ks) (simple_other (state_of t) xs ks)

  entered : (auto : Bool) (xs ks : List ℕ) → Not13 (enter_answer t auto xs ks).number
  unfolding enter_answer
  entered auto xs ks = answered (enter_idles (state_of t) auto xs ks) (enter_joint (state_of t) auto xs ks) (enter_other (state_of t) auto xs ks)

  left : Not13 (leave_answer t).number
  unfolding leave_answer
  left = answered 0 (leave_joint (state_of t)) (leave_other (state_of t))

  applied : (c : Configuration) (log : ChangeLog) (n : ℕ) → Not13 (apply_of t c log n).number
  unfolding apply_of
  applied c log n =
      either (λ o. o.number) (tracker_well_formed t && conf_well_formed c && log_well_formed log) (outcome_of (apply_conf (state_of t) (conf_of c) (log_of log) n)) (refused_of t 1 0)
      (said (apply_conf (state_of t) (conf_of c) (log_of log) n).verdict (apply_other (state_of t) (conf_of c) (log_of log) n)) refl

  written : Not13 (written_of t).number
  unfolding written_of to_conf_state
  written =
      either (λ w. w.number) (tracker_well_formed t) (written_in (to_conf_state (state_of t))) (written_in (record { verdict = fault 1 0; conf_state = no_conf_state }))
      (either (λ (w : lists.Written). number_of w.verdict) (formed (state_of t)) (record { verdict = ok; conf_state = lists.written (conf_of t.conf) }) (record { verdict = fault 1 0; conf_state = no_conf_state }) refl refl) refl

  -- 1, 2, then the rules'
  module _ (cs : ConfState) (n : ℕ) where
    restores : (o : R.Outcome) → Numbered Other o.verdict → Not13 (restoring t cs o).number
    restores o h =
        either (λ r. r.number) (tracker_well_formed t) (cond (too_long cs) (refused_of t 2 0) (outcome_of o)) (refused_of t 1 0)
        (either (λ r. r.number) (too_long cs) (refused_of t 2 0) (outcome_of o) refl (said o.verdict h)) refl

    whole : Not13 (restore_of t cs n).number
    unfolding restore_of
    whole = restores (rules.restore (state_of t) (lists_of cs) n) (restore_other (state_of t) (lists_of cs) n)

    stepped : Not13 (step_by_step_of t cs n).number
    unfolding step_by_step_of
    stepped = restores (rules.restore_step_by_step (state_of t) (lists_of cs) n) (steps_other (state_of t) (lists_of cs) n)

  unplugged : (x : ℕ) → Not13 (unplug_of t x).number
  unfolding unplug_of
  unplugged x = simply (x ∷ []) (1 ∷ [])

  -- ** Those that hand on a number

  answer-applied : (a : Answer) (n : ℕ) → Not13 a.number → Not13 (applied_to t a n).number
  unfolding applied_to
  answer-applied a n h = either (λ o. o.number) (eqb a.number 0) (apply_of t a.conf a.log n) (refused_of t a.number a.id) (applied a.conf a.log n) h

  made-whole : (o : Outcome) → Not13 o.number → Not13 (whole_of t o).number
  unfolding whole_of
  made-whole o h = either (λ o. o.number) (eqb o.number 0) o (refused_of t o.number o.id) h h

-- ** The entries

told : (ws : List ℕ) (x : ℕ) → Not13 (told_of ws x).number
unfolding told_of
told ws x = either (λ (r : Told). r.number) (not (eqb (length ws) 967)) _ _ refl (either (λ (r : Told). r.number) (not (state_holds_in ws)) _ _ refl (unplugged (state_in ws) x))

replied : (s : List ℕ) → Not13 (reply_to s).number
unfolding reply_to
replied s =
    either (λ (r : Reply). r.number) (eqb (word s 0) 0) _ _ (checked t)
    (either (λ (r : Reply). r.number) (eqb (word s 0) 1) _ _ refl
    (either (λ (r : Reply). r.number) (eqb (word s 0) 2) _ _ (simply t (ids_in s) (kinds_in s))
    (either (λ (r : Reply). r.number) (eqb (word s 0) 3) _ _ (entered t (flag (word s 968)) (ids_in s) (kinds_in s))
    (either (λ (r : Reply). r.number) (eqb (word s 0) 4) _ _ (left t)
    (either (λ (r : Reply). r.number) (eqb (word s 0) 5) _ _ (applied t (conf_at s 1492) (log_at s 1753) (word s 969))
    (either (λ (r : Reply). r.number) (eqb (word s 0) 6) _ _ (written t)
    (either (λ (r : Reply). r.number) (eqb (word s 0) 7) _ _ (whole t (conf_state_at s 2266) (word s 969)) (stepped t (conf_state_at s 2266) (word s 969)))))))))
  where
    t : Tracker
    t = state_at s 1

left-words : (state verdict : List ℕ) (x : ℕ) → unplug_answer state (length verdict) ≡ 0 → Not13 (at (unplug_leaves state x verdict) 0)
unfolding unplug_leaves
left-words state verdict x h = rw (eq-eqb (unplug_answer state (length verdict)) 0 h) (unplugged (state_in state) x)

turned : (z : Session) (kind : ℕ) → Not13 (answer_in z kind).number
unfolding answer_in
turned z kind =
    either (λ (a : Answer). a.number) (eqb kind 6) _ _ (left z.tracker)
    (either (λ (a : Answer). a.number) (eqb kind 3) _ _ (simply z.tracker (take z.len z.ids) (take z.len z.kinds))
    (entered z.tracker (eqb kind 5) (take z.len z.ids) (take z.len z.kinds)))

lined : (z : script.Session) (kind : ℕ) → Not13 (number_of (verdict_in (script.answer_to z kind)))
unfolding script.answer_to
lined z kind =
    either (λ (a : R.Answer). number_of (verdict_in a)) (eqb kind 3) _ _ (given (simple z.state z.ids z.kinds) (simple_other z.state z.ids z.kinds))
    (either (λ (a : R.Answer). number_of (verdict_in a)) (eqb kind 6) _ _ (given (leave_joint z.state) (leave_other z.state))
    (given (enter_joint z.state (eqb kind 5) z.ids z.kinds) (enter_other z.state (eqb kind 5) z.ids z.kinds)))

pub all_other : Never13
all_other =
    record {
      check = checked;
      check_invariants = λ ids c. said (check_walk (held ids) (conf_of c)) (walk_other (held ids) (held c.incoming) (held c.outgoing) (held c.learners) (held c.learners_next) c.auto_leave);
      check-voters = λ a b c. said (voters_walk a b c) (voters_other a b c);
      check-learners = λ a b c d. said (learners_walk a b c d) (learners_other a b c d);
      check-staged = λ a b c d. said (rest_walk a b c d) (rest_other a b c d);
      simple = simply;
      enter = entered;
      leave = left;
      apply = applied;
      to-conf-state = written;
      restore = whole;
      restore-step-by-step = stepped;
      unplug-of = unplugged;
      unplug = told;
      refused = λ t m x h. h;
      apply-answer = answer-applied;
      whole = made-whole;
      dimecandle_call = replied;
      dimecandle_unplug = left-words;
      replay_turn = turned;
      replay-line = lined;
    }
