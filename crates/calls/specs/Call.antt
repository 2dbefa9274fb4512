-- One call on any state, in bytes: docs/EMBEDDING.md. Assumes nothing.
use Rattle.std.specs.Prelude.{◌≡◌, ◌≤◌, Result, MatchResult, ℕ, Bool, false, not, cond, List, [], ◌∷◌, ◌++◌, eqb, ltb, length, take, drop}
use Rattle.rules.specs.Apply.{no_conf_state}
use Rattle.tracker.specs.Bridge.{change_log_of, conf_state_of}
use Rattle.tracker.specs.Apply.{Outcome, Verdict, apply_of}
use Rattle.tracker.specs.ConfStates.{Written, written_of}
use Rattle.tracker.specs.declared.Configuration.{Configuration}
use Rattle.tracker.specs.declared.ChangeLog.{ChangeLog}
use Rattle.tracker.specs.declared.Tracker.{Tracker}
use Rattle.tracker.specs.declared.ConfState.{ConfState}
use Rattle.invariants.specs.Check.{check_of, in_order_of}
use Rattle.changer.specs.Calls.{Answer, simple_answer, enter_answer, leave_answer}
use Rattle.restore.specs.Restore.{restore_of, step_by_step_of}
use Rattle.unplug.specs.Words.{flag}
use Rattle.calls.specs.Layout.{word, conf_at, state_at, log_at, conf_state_at, change_list_at, holds}
use Rattle.calls.specs.Reply.{all_bytes, flag_word, state_words, log_words, conf_state_words}
use Rattle.calls.specs.Asked.{call_number, refusal_number}
use Rattle.calls.specs.declared.asked.Call.{Call}
use Rattle.calls.specs.declared.asked.Call.TheVariants.{Check, InOrder, Simple, EnterJoint, LeaveJoint, ApplyConf, ToConfState, Restore, RestoreStepByStep}
use Rattle.calls.specs.declared.asked.Unanswered.{Unanswered}
use Rattle.calls.specs.declared.Reply.{Reply}

-- ** What a call answers

-- the last number is `idle`: "a refused call gives 0", and so do the calls that carry out no list
abbrev pub reply : ℕ → ℕ → Bool → Tracker → ChangeLog → ConfState → ℕ → Reply
reply n x b t log cs i = record { number = n; id = x; yes = b; tracker = t; log = log; conf_state = cs; idle = i }

abbrev pub no_log : ChangeLog
no_log = change_log_of []

abbrev pub no_lists : ConfState
no_lists = conf_state_of no_conf_state

-- the state with another configuration
abbrev pub with_conf : Tracker → Configuration → Tracker
with_conf t c = record { conf = c; ids = t.ids; records = t.records; max_inflight = t.max_inflight }

abbrev pub from_verdict : Tracker → Verdict → Reply
from_verdict t v = reply v.number v.id false t no_log no_lists 0

abbrev pub from_answer : Tracker → Answer → Reply
from_answer t a = reply a.number a.id false (with_conf t a.conf) a.log no_lists a.idle

abbrev pub from_outcome : Outcome → Reply
from_outcome o = reply o.number o.id false o.tracker no_log no_lists 0

abbrev pub from_written : Tracker → Written → Reply
from_written t w = reply w.number w.id false t no_log w.conf_state 0

-- the ids and the kinds of the LIST
abbrev pub ids_in : List ℕ → List ℕ
ids_in s = take (word s 1230) (change_list_at s 970).ids

abbrev pub kinds_in : List ℕ → List ℕ
kinds_in s = take (word s 1491) (change_list_at s 970).kinds

-- what a call answers to the request s
abbrev pub reply_for : List ℕ → Call → Reply
reply_for s Check = from_verdict (state_at s 1) (check_of (state_at s 1))
reply_for s InOrder = reply 0 0 (in_order_of (state_at s 1)) (state_at s 1) no_log no_lists 0
reply_for s Simple = from_answer (state_at s 1) (simple_answer (state_at s 1) (ids_in s) (kinds_in s))
reply_for s EnterJoint = from_answer (state_at s 1) (enter_answer (state_at s 1) (flag (word s 968)) (ids_in s) (kinds_in s))
reply_for s LeaveJoint = from_answer (state_at s 1) (leave_answer (state_at s 1))
reply_for s ApplyConf = from_outcome (apply_of (state_at s 1) (conf_at s 1492) (log_at s 1753) (word s 969))
reply_for s ToConfState = from_written (state_at s 1) (written_of (state_at s 1))
reply_for s Restore = from_outcome (restore_of (state_at s 1) (conf_state_at s 2266) (word s 969))
reply_for s RestoreStepByStep = from_outcome (step_by_step_of (state_at s 1) (conf_state_at s 2266) (word s 969))

-- the same by the word that asks for it
unfoldable pub reply_to : List ℕ → Reply
reply_to s =
    cond (eqb (word s 0) 0) (from_verdict (state_at s 1) (check_of (state_at s 1)))
    (cond (eqb (word s 0) 1) (reply 0 0 (in_order_of (state_at s 1)) (state_at s 1) no_log no_lists 0)
    (cond (eqb (word s 0) 2) (from_answer (state_at s 1) (simple_answer (state_at s 1) (ids_in s) (kinds_in s)))
    (cond (eqb (word s 0) 3) (from_answer (state_at s 1) (enter_answer (state_at s 1) (flag (word s 968)) (ids_in s) (kinds_in s)))
    (cond (eqb (word s 0) 4) (from_answer (state_at s 1) (leave_answer (state_at s 1)))
    (cond (eqb (word s 0) 5) (from_outcome (apply_of (state_at s 1) (conf_at s 1492) (log_at s 1753) (word s 969)))
    (cond (eqb (word s 0) 6) (from_written (state_at s 1) (written_of (state_at s 1)))
    (cond (eqb (word s 0) 7) (from_outcome (restore_of (state_at s 1) (conf_state_at s 2266) (word s 969)))
    (from_outcome (step_by_step_of (state_at s 1) (conf_state_at s 2266) (word s 969))))))))))

-- ** What the entry returns and leaves

unfoldable pub reply_words : Reply → List ℕ
reply_words r = r.number ∷ r.id ∷ flag_word r.yes ∷ (state_words r.tracker ++ (log_words r.log ++ (conf_state_words r.conf_state ++ (r.idle ∷ []))))

-- 1: the request's length; 2: the reply too short; 3: unknown call; 4: a word that no field can hold
unfoldable pub call_answer : List ℕ → ℕ → ℕ
call_answer s room =
    cond (not (eqb (length s) 20216)) 1
    (cond (ltb room 13960) 2
    (cond (ltb 8 (word s 0)) 3
    (cond (not (holds s)) 4 0)))

-- the reply at the front, every byte after it kept; as it was where the answer is not 0
unfoldable pub call_leaves : List ℕ → List ℕ → List ℕ
call_leaves s out = cond (eqb (call_answer s (length out)) 0) (all_bytes (reply_words (reply_to s)) ++ drop 13960 out) out

-- the call that is asked for, where it is answered; else why not
abbrev pub Asks : List ℕ → ℕ → Result Call Unanswered → Type 0
Asks s room r = MatchResult r (λ c. (call_answer s room ≡ 0) × (call_number c ≡ word s 0) × (13960 ≤ room)) (λ e. call_answer s room ≡ refusal_number e)
