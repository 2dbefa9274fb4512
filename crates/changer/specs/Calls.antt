-- What the three calls answer, for every state and every list, and whether a box can be unplugged: the rules through the bridge, and 1 where the state
-- is malformed. Assumes nothing.
use Rattle.std.specs.Prelude.{ℕ, Bool, Result, Ok, Err, cond, List, [], ◌∷◌}
use Rattle.rules.specs.Answers as rules
use Rattle.rules.specs.Answers.{accepted, refused}
use Rattle.rules.specs.Calls.{simple, enter_joint, leave_joint}
use Rattle.rules.specs.Idle.{simple_idles, enter_idles}
use Rattle.tracker.specs.Bridge.{configuration_of, change_log_of, state_of}
use Rattle.tracker.specs.Form.{tracker_well_formed}
use Rattle.tracker.specs.Apply.{Verdict}
use Rattle.tracker.specs.Refusals.{number_at, id_at}
use Rattle.tracker.specs.declared.ChangeLog.{ChangeLog}
use Rattle.tracker.specs.declared.Configuration.{Configuration}
use Rattle.tracker.specs.declared.Tracker.{Tracker}
use Rattle.tracker.specs.declared.refusal.Refusal.{Refusal}
use Rattle.changer.specs.declared.Changed.{Changed}

-- number and id, the configuration, the log and how many entries of the list did nothing
pub record Answer : Type 0 where
  pub number : ℕ
  pub id : ℕ
  pub conf : Configuration
  pub log : ChangeLog
  pub idle : ℕ

-- what a call of this configuration answers. "A refusal gives the number and the id named here, else id 0, the state given and an empty log"; "a
-- refused call gives 0".
abbrev pub answered : Configuration → Result Changed Refusal → Answer
answered given (Ok a) = record { number = 0; id = 0; conf = a.conf; log = a.log; idle = a.idle }
answered given (Err r) = record { number = number_at r; id = id_at r; conf = given; log = change_log_of []; idle = 0 }

-- "A refusal gives the number and the id named here, else id 0, the state given and an empty log"; "a refused call gives 0". The number i is of
-- the entries that did nothing.
abbrev pub answer_of : Configuration → ℕ → rules.Answer → Answer
answer_of given i (accepted c log) = record { number = 0; id = 0; conf = configuration_of c; log = change_log_of log; idle = i }
answer_of given i (refused n x) = record { number = n; id = x; conf = given; log = change_log_of []; idle = 0 }

-- 1: "malformed state"
abbrev pub if_formed : Tracker → ℕ → rules.Answer → Answer
if_formed t i a = cond (tracker_well_formed t) (answer_of t.conf i a) (answer_of t.conf 0 (refused 1 0))

unfoldable pub simple_answer : Tracker → List ℕ → List ℕ → Answer
simple_answer t ids kinds = if_formed t (simple_idles (state_of t) ids kinds) (simple (state_of t) ids kinds)

unfoldable pub enter_answer : Tracker → Bool → List ℕ → List ℕ → Answer
enter_answer t auto ids kinds = if_formed t (enter_idles (state_of t) auto ids kinds) (enter_joint (state_of t) auto ids kinds)

-- there is no list
unfoldable pub leave_answer : Tracker → Answer
leave_answer t = if_formed t 0 (leave_joint (state_of t))

-- "the number and id returned equal those of `simple` with that single removal. Any other state gets the full call's answer" (document 02, d). 1 is
-- RemoveNode.
unfoldable pub unplug_of : Tracker → ℕ → Verdict
unplug_of t x = record { number = (simple_answer t (x ∷ []) (1 ∷ [])).number; id = (simple_answer t (x ∷ []) (1 ∷ [])).id }
