-- A replay in a struct, and what each record makes of any such struct. On those that a replay comes to it is what specs/Script.antt says
-- (proofs/Sessions.antt). Assumes nothing.
use Rattle.std.specs.Prelude.{ℕ, ◌+◌, min, Result, Ok, Err, cond, List, [], eqb, leb, take, set, replicate}
use Rattle.rules.specs.State.{fresh}
use Rattle.tracker.specs.Bridge.{conf_of, log_of, state_of, tracker_of}
use Rattle.tracker.specs.declared.MapChangeType.{MapChangeType}
use Rattle.tracker.specs.declared.MapChangeType.TheVariants.{Add, Remove}
use Rattle.tracker.specs.declared.refusal.Refusal.{Refusal}
use Rattle.tracker.specs.Refusals.{number_at, id_at}
use Rattle.changer.specs.declared.Changed.{Changed}
use Rattle.changer.specs.Calls.{Answer, simple_answer, enter_answer, leave_answer}
use Rattle.restore.specs.Restore.{applied_to}
use Rattle.text.specs.Put.{last}
use Rattle.listing.specs.Script as script
use Rattle.listing.specs.Script.{is_change}
use Rattle.listing.specs.Lines.{ok_line, refused_line}
use Rattle.listing.specs.declared.Session.{Session}

abbrev pub session_of : Session → script.Session
session_of z = record { state = state_of z.tracker; ids = take z.len z.ids; kinds = take z.len z.kinds; printed = z.printed }

abbrev pub begin_in : Session
begin_in = record { tracker = tracker_of (fresh 256); ids = replicate 256 0; kinds = replicate 256 0; len = 0; printed = 0 }

-- a change more; as it is where 256 are pending
unfoldable pub pend_in : Session → ℕ → ℕ → Session
pend_in z kind x =
    cond (leb 256 z.len) z
    (record { tracker = z.tracker; ids = set z.ids z.len x; kinds = set z.kinds z.len kind; len = z.len + 1; printed = z.printed })

-- 3 simple, 6 leave, else enter, 5 with auto leave
unfoldable pub answer_in : Session → ℕ → Answer
answer_in z kind =
    cond (eqb kind 6) (leave_answer z.tracker)
    (cond (eqb kind 3) (simple_answer z.tracker (take z.len z.ids) (take z.len z.kinds))
    (enter_answer z.tracker (eqb kind 5) (take z.len z.ids) (take z.len z.kinds)))

unfoldable pub applied_in : Session → Answer → ℕ → Session
applied_in z a next =
    record { tracker = (applied_to z.tracker a next).tracker; ids = replicate 256 0; kinds = replicate 256 0; len = 0; printed = min (z.printed + 1) last }

unfoldable pub after_in : Session → ℕ → ℕ → Session
after_in z kind n = cond (is_change kind) (pend_in z kind n) (applied_in z (answer_in z kind) n)

-- an answer's line
unfoldable pub answer_text : ℕ → Answer → List ℕ
answer_text k a = cond (eqb a.number 0) (ok_line k (conf_of a.conf) (log_of a.log)) (refused_line k a.number a.id)

-- the same line, of a call's result; the configuration that a refusal gives back is not in it (`result_line`, proofs/Answers.antt)
abbrev pub result_text : ℕ → Result Changed Refusal → List ℕ
result_text k (Ok a) = ok_line k (conf_of a.conf) (log_of a.log)
result_text k (Err r) = refused_line k (number_at r) (id_at r)

unfoldable pub shown_in : Session → ℕ → List ℕ
shown_in z kind = cond (is_change kind) [] (answer_text (min (z.printed + 1) last) (answer_in z kind))

abbrev pub sign_of : MapChangeType → ℕ
sign_of Add = 43
sign_of Remove = 45
