-- The reply to a request of bytes has its type (Typed.antt), so it is read back as it was written. Assumes nothing.
use Prim.Native.Nat.{ℕ, zero, suc, ◌+◌, ◌*◌, ◌^◌, ◌≤◌, ◌<◌}
use mathlib.Core.Path.{◌≡◌, refl, ap}
use mathlib.Core.Bool.{Bool, true, false, ◌&&◌, ◌||◌, not, cond}
use mathlib.Core.List.{List}
use native.Mathlib.Nat.{pow-suc}
use native.Mathlib.Omega.{arith}
use borrow.Author.Tests.{not-false}
use lib.Dec.{eqb}
use lib.ListN.{length, take, get_or, length-take}
use Rattle.rules.specs.State.{Conf, Entry, State, conf_formed, formed, ids, log_formed}
use Rattle.rules.specs.Answers as answers
use Rattle.rules.specs.Answers.{Verdict, ◌▸◌, fault, ok, refuse, refused, settle}
use Rattle.rules.specs.Check.{check_state}
use Rattle.rules.specs.Apply.{applied, apply_conf, no_conf_state, room, to_conf_state}
use Rattle.rules.specs.Restore.{restore, restore_step_by_step}
use Rattle.rules.specs.Idle.{enter_idles, simple_idles}
use Rattle.rules.proofs.Changes.{ids-enrol}
use Rattle.rules.proofs.Check.{refuse-ok, then_left, then_right}
use Rattle.rules.proofs.Formed.{of-whole, sets_of, whole_of}
use Rattle.rules.proofs.Idle.{enter-few, simple-few}
use Rattle.rules.proofs.Sets.{and_left, or_left, or_right}
use Rattle.tracker.specs.Apply.{Outcome, apply_of, id_of, number_of, outcome_of, refused_of, verdict_of}
use Rattle.tracker.specs.Bridge.{conf_of, lists_of, log_of, state_of}
use Rattle.tracker.specs.ConfStates.{written_in, written_of}
use Rattle.tracker.specs.Form.{conf_well_formed, log_well_formed, tracker_well_formed}
use Rattle.tracker.specs.declared.Configuration.{Configuration}
use Rattle.tracker.specs.declared.ChangeLog.{ChangeLog}
use Rattle.tracker.specs.declared.Tracker.{Tracker}
use Rattle.tracker.specs.declared.ConfState.{ConfState}
use Rattle.tracker.proofs.Bridge.{tracker_formed}
use Rattle.invariants.specs.Check.{check_of, in_order_of}
use Rattle.changer.specs.Calls.{Answer, answer_of, enter_answer, if_formed, leave_answer, simple_answer}
use Rattle.changer.proofs.Pending.{pending-set}
use Rattle.restore.specs.Restore.{restore_of, restoring, step_by_step_of, too_long}
use Rattle.restore.proofs.Applied.{Fits, enter-fits, leave_fits, simple-fits}
use Rattle.restore.proofs.Restored.{steps-left, whole-left}
use Rattle.unplug.specs.Words.{flag, records_by, words_by}
use Rattle.calls.specs.Layout.{conf_at, conf_state_at, entries_at, list_at, log_at, number, record_at, records_at, set_at, state_at, word, words}
use Rattle.calls.specs.Call.{call_answer, call_leaves, from_answer, from_outcome, from_verdict, from_written, kinds_in, no_lists, no_log, reply, reply_to}
use Rattle.calls.proofs.Typed.{U64, Each, none, more, ArrayOf, TypedSet, TypedList, TypedConf, TypedRecord, TypedState, TypedEntry, TypedLog, TypedConfState, TypedReply}
use Rattle.calls.proofs.TypedRules.{Answered, U64Outcome, Said, answered, applied_u64, checked-said, declined, either, enter_u64, faulted, leave_u64, passed, restore_u64, steps_restored_u64, simple_u64}
use Rattle.calls.proofs.TypedBridge.{each_take, conf_u64, state_u64, log_u64, lists_u64, conf-made, lists-made, no_lists_lem, state-made, log-made}
use Rattle.calls.proofs.Round.{call_round, reply_at}

-- ** Answers

record TypedAnswer (a : Answer) : Type 0 where
  number : U64 a.number
  id : U64 a.id
  conf : TypedConf a.conf
  log : TypedLog a.log
  idle : U64 a.idle

refused_typed : {c : Configuration} (i n x : ℕ) → U64 n → U64 x → TypedConf c → TypedAnswer (answer_of c i (refused n x))
refused_typed i n x h k g = record { number = h; id = k; conf = g; log = log-made none (omega arith); idle = omega arith }

answer_typed : {c : Configuration} (s : State) {a : answers.Answer} (i : ℕ) → U64 i → TypedConf c → Answered a → Fits s 0 a → TypedAnswer (answer_of c i a)
unfolding Fits
answer_typed s i j g (answered {c} z l) f = record { number = omega arith; id = omega arith; conf = conf-made z (sets_of c f.fits); log = log-made l f.short; idle = j }
answer_typed s i j g (declined {n} {x} h k) f = refused_typed i n x h k g

module _ {t : Tracker} (z : TypedState t) where
  formed_typed : {a : answers.Answer} (i : ℕ) → U64 i → Answered a → (tracker_well_formed t ≡ true → Fits (state_of t) 0 a) → TypedAnswer (if_formed t i a)
  formed_typed {a} i j p f = go (tracker_well_formed t) refl
    where
      go : (b : Bool) → tracker_well_formed t ≡ b → TypedAnswer (cond b (answer_of t.conf i a) (answer_of t.conf 0 (refused 1 0)))
      go true e = answer_typed (state_of t) i j z.conf p (f e)
      go false e = refused_typed 0 1 0 (omega arith) (omega arith) z.conf

  simple_typed : {xs : List ℕ} (ks : List ℕ) → length xs ≤ 260 → Each U64 xs → TypedAnswer (simple_answer t xs ks)
  unfolding simple_answer
  simple_typed {xs} ks h p = formed_typed (simple_idles (state_of t) xs ks) (omega (arith, simple-few (state_of t) xs ks)) (simple_u64 (state_of t) (conf_u64 z.conf) ks p) (λ w. simple-fits (state_of t) 0 (tracker_formed t w) xs ks)

  enter_typed : (auto : Bool) {xs : List ℕ} (ks : List ℕ) → length xs ≤ 260 → Each U64 xs → TypedAnswer (enter_answer t auto xs ks)
  unfolding enter_answer
  enter_typed auto {xs} ks h p = formed_typed (enter_idles (state_of t) auto xs ks) (omega (arith, enter-few (state_of t) auto xs ks)) (enter_u64 (state_of t) (conf_u64 z.conf) auto ks p) (λ w. enter-fits (state_of t) 0 (tracker_formed t w) auto xs ks)

  leave_typed : TypedAnswer (leave_answer t)
  unfolding leave_answer
  leave_typed = formed_typed 0 (omega arith) (leave_u64 (state_of t) (conf_u64 z.conf)) (λ w. leave_fits (state_of t) 0 (tracker_formed t w))

-- ** Outcomes

apply-formed : (s : State) → formed s ≡ true → (c : Conf) (log : List Entry) (next : ℕ) → formed (apply_conf s c log next).state ≡ true
unfolding apply_conf
apply-formed s f c log next = go (ill ▸ room log (ids s.peers)) refl
  where
    ill : Verdict
    ill = refuse (not (formed s) || not (conf_formed c) || not (log_formed log)) 1 0

    go : (v : Verdict) → ill ▸ room log (ids s.peers) ≡ v → formed (settle v s (applied s c log next)).state ≡ true
    go (fault n x) e = f
    go ok e =
        let bad = refuse-ok (not (formed s) || not (conf_formed c) || not (log_formed log)) 1 0 (then_left ill (room log (ids s.peers)) e) in
        let fits = not-false (conf_formed c) (or_right (not (formed s)) (not (conf_formed c)) (or_left (not (formed s) || not (conf_formed c)) (not (log_formed log)) bad)) in
        of-whole (applied s c log next)
        (record { sets = sets_of c fits; tracked = rw ids-enrol (pending-set log (ids s.peers) (whole_of s f).tracked (then_right ill (room log (ids s.peers)) e)) })

number-said : {v : Verdict} → Said v → U64 (number_of v)
number-said passed = omega arith
number-said (faulted h k) = h

id-said : {v : Verdict} → Said v → U64 (id_of v)
id-said passed = omega arith
id-said (faulted h k) = k

record TypedOutcome (o : Outcome) : Type 0 where
  number : U64 o.number
  id : U64 o.id
  tracker : TypedState o.tracker

outcome_typed : {o : answers.Outcome} → U64Outcome o → formed o.state ≡ true → TypedOutcome (outcome_of o)
outcome_typed w f = record { number = number-said w.verdict; id = id-said w.verdict; tracker = state-made w.state f }

module _ {t : Tracker} (z : TypedState t) {next : ℕ} (n : U64 next) where
  apply_typed : {c : Configuration} {log : ChangeLog} → TypedConf c → TypedLog log → TypedOutcome (apply_of t c log next)
  unfolding apply_of
  apply_typed {c} {log} y l = go (a && b && log_well_formed log) refl
    where
      a : Bool
      a = tracker_well_formed t

      b : Bool
      b = conf_well_formed c

      go : (w : Bool) → a && b && log_well_formed log ≡ w → TypedOutcome (cond w (outcome_of (apply_conf (state_of t) (conf_of c) (log_of log) next)) (refused_of t 1 0))
      go true e =
          let f = tracker_formed t (and_left a b (and_left (a && b) (log_well_formed log) e)) in
          outcome_typed (applied_u64 n (state_u64 z) (conf_u64 y) (log_u64 l)) (apply-formed (state_of t) f (conf_of c) (log_of log) next)
      go false e = record { number = omega arith; id = omega arith; tracker = z }

  restoring_typed : (k : ConfState) (o : answers.Outcome) → U64Outcome o → (tracker_well_formed t ≡ true → too_long k ≡ false → formed o.state ≡ true) → TypedOutcome (restoring t k o)
  restoring_typed k o u f = go (tracker_well_formed t) (too_long k) refl refl
    where
      go : (b c : Bool) → tracker_well_formed t ≡ b → too_long k ≡ c → TypedOutcome (cond b (cond c (refused_of t 2 0) (outcome_of o)) (refused_of t 1 0))
      go true true e h = record { number = omega arith; id = omega arith; tracker = z }
      go true false e h = outcome_typed u (f e h)
      go false c e h = record { number = omega arith; id = omega arith; tracker = z }

  restore_typed : {k : ConfState} → TypedConfState k → TypedOutcome (restore_of t k next)
  unfolding restore_of
  restore_typed {k} y = restoring_typed k (restore (state_of t) (lists_of k) next) (restore_u64 n (state_u64 z) (lists_u64 y)) (λ e h. (whole-left t e k h next).good)

  steps_typed : {k : ConfState} → TypedConfState k → TypedOutcome (step_by_step_of t k next)
  unfolding step_by_step_of
  steps_typed {k} y = restoring_typed k (restore_step_by_step (state_of t) (lists_of k) next) (steps_restored_u64 n (state_u64 z) (lists_u64 y)) (λ e h. (steps-left t e k h next).good)

-- ** A request

length-take-le : (n m : ℕ) (xs : List ℕ) → length xs ≡ m → length (take n xs) ≤ m
length-take-le n m xs h = omega (arith, length-take n xs)

abbrev pub Byte : ℕ → Type 0
Byte n = n < 256

byte_at : {s : List ℕ} → Each Byte s → (i : ℕ) → get_or s i 0 < 256
byte_at none i = omega arith
byte_at (more h p) zero = h
byte_at (more h p) (suc i) = byte_at p i

number_small : (j : ℕ) {s : List ℕ} → Each Byte s → (at : ℕ) → number j s at < 256 ^ j
unfolding number
number_small zero p at = omega arith
number_small (suc j) p at = rw pow-suc (omega (arith, byte_at p at, number_small j p (at + 1)))

module _ {s : List ℕ} (p : Each Byte s) where
  word_typed : (k : ℕ) → U64 (word s k)
  word_typed k = number_small 8 p (8 * k)

  words_typed : (n k : ℕ) → ArrayOf n U64 (words n s k)
  unfolding words_by
  words_typed zero k = record { places = refl; each = none }
  words_typed (suc n) k =
      let r = words_typed n (k + 1) in
      record { places = ap suc r.places; each = more (word_typed k) r.each }

  set_typed : (k : ℕ) → TypedSet (set_at s k)
  set_typed k = record { ids = words_typed 64 k; len = word_typed (k + 64) }

  list_typed : (k : ℕ) → TypedList (list_at s k)
  list_typed k = record { ids = words_typed 64 k; len = word_typed (k + 64) }

  conf_typed : (k : ℕ) → TypedConf (conf_at s k)
  conf_typed k = record { incoming = set_typed k; outgoing = set_typed (k + 65); learners = set_typed (k + 130); learners_next = set_typed (k + 195) }

  record_typed : (k : ℕ) → TypedRecord (record_at s k)
  record_typed k =
      record {
        matched = word_typed k;
        next_idx = word_typed (k + 1);
        pending_snapshot = word_typed (k + 4);
        pending_request_snapshot = word_typed (k + 5);
        max_inflight = word_typed (k + 7);
        commit_group_id = word_typed (k + 8);
        committed_index = word_typed (k + 9);
      }

  records_typed : (n k : ℕ) → ArrayOf n TypedRecord (records_at n s k)
  unfolding records_by
  records_typed zero k = record { places = refl; each = none }
  records_typed (suc n) k =
      let r = records_typed n (k + 10) in
      record { places = ap suc r.places; each = more (record_typed k) r.each }

  state_typed : (k : ℕ) → TypedState (state_at s k)
  state_typed k = record { conf = conf_typed k; ids = set_typed (k + 261); records = records_typed 64 (k + 326); max_inflight = word_typed (k + 966) }

  entries_typed : (n k : ℕ) → ArrayOf n TypedEntry (entries_at n s k)
  unfolding entries_at
  entries_typed zero k = record { places = refl; each = none }
  entries_typed (suc n) k =
      let r = entries_typed n (k + 2) in
      record { places = ap suc r.places; each = more (record { id = word_typed k }) r.each }

  log_typed : (k : ℕ) → TypedLog (log_at s k)
  log_typed k = record { entries = entries_typed 256 k; count = word_typed (k + 512) }

  conf_state_typed : (k : ℕ) → TypedConfState (conf_state_at s k)
  conf_state_typed k = record { voters = list_typed k; learners = list_typed (k + 65); voters_outgoing = list_typed (k + 130); learners_next = list_typed (k + 195) }

-- ** Replies

module _ {t : Tracker} (z : TypedState t) where
  plain_typed : (b : Bool) {n x : ℕ} → U64 n → U64 x → TypedReply (reply n x b t no_log no_lists 0)
  plain_typed b h k = record { number = h; id = k; tracker = z; log = log-made none (omega arith); conf_state = no_lists_lem; idle = omega arith }

  check_typed : TypedReply (from_verdict t (check_of t))
  unfolding check_of
  check_typed = go (tracker_well_formed t)
    where
      go : (b : Bool) → TypedReply (from_verdict t (cond b (verdict_of (check_state (state_of t))) (verdict_of (fault 1 0))))
      go true =
          let v = checked-said (state_of t) (conf_u64 z.conf) in
          plain_typed false (number-said v) (id-said v)
      go false = plain_typed false (omega arith) (omega arith)

  from_answer_typed : {a : Answer} → TypedAnswer a → TypedReply (from_answer t a)
  from_answer_typed y =
      record {
        number = y.number;
        id = y.id;
        tracker = record { conf = y.conf; ids = z.ids; records = z.records; max_inflight = z.max_inflight };
        log = y.log;
        conf_state = no_lists_lem;
        idle = y.idle;
      }

  written_typed : TypedReply (from_written t (written_of t))
  unfolding written_of to_conf_state
  written_typed = go (tracker_well_formed t) refl
    where
      go : (b : Bool) → tracker_well_formed t ≡ b → TypedReply (from_written t (cond b (written_in (to_conf_state (state_of t))) (written_in (record { verdict = fault 1 0; conf_state = no_conf_state }))))
      go true e =
          let f = tracker_formed t e in
          rw f (record {
            number = omega arith;
            id = omega arith;
            tracker = z;
            log = log-made none (omega arith);
            conf_state = lists-made (conf_u64 z.conf) (whole_of (state_of t) f).sets;
            idle = omega arith;
          })
      go false e = plain_typed false (omega arith) (omega arith)

from_outcome_typed : {o : Outcome} → TypedOutcome o → TypedReply (from_outcome o)
from_outcome_typed y = plain_typed y.tracker false y.number y.id

module _ {s : List ℕ} (p : Each Byte s) where
  pub reply-of-bytes : TypedReply (reply_to s)
  unfolding reply_to
  reply-of-bytes =
      let z = state_typed p 1 in
      let n = word_typed p 969 in
      let xs = each_take (word s 1230) (words_typed p 260 970).each in
      let few = length-take-le (word s 1230) 260 (words 260 s 970) (words_typed p 260 970).places in
      either TypedReply (eqb (word s 0) 0) (check_typed z)
      (either TypedReply (eqb (word s 0) 1) (plain_typed z (in_order_of (state_at s 1)) (omega arith) (omega arith))
      (either TypedReply (eqb (word s 0) 2) (from_answer_typed z (simple_typed z (kinds_in s) few xs))
      (either TypedReply (eqb (word s 0) 3) (from_answer_typed z (enter_typed z (flag (word s 968)) (kinds_in s) few xs))
      (either TypedReply (eqb (word s 0) 4) (from_answer_typed z (leave_typed z))
      (either TypedReply (eqb (word s 0) 5) (from_outcome_typed (apply_typed z n (conf_typed p 1492) (log_typed p 1753)))
      (either TypedReply (eqb (word s 0) 6) (written_typed z)
      (either TypedReply (eqb (word s 0) 7) (from_outcome_typed (restore_typed z n (conf_state_typed p 2266)))
      (from_outcome_typed (steps_typed z n (conf_state_typed p 2266))))))))))

  -- what the entry leaves where it accepts a request of bytes is read as the reply to that request
  pub bytes_round : (out : List ℕ) → call_answer s (length out) ≡ 0 → reply_at (call_leaves s out) ≡ reply_to s
  bytes_round out e = call_round s out e reply-of-bytes
