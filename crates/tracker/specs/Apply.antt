-- What `apply_conf` answers and leaves, for every state, configuration and log: the rules' `apply_conf` through the bridge, and 1 where
-- one of the three is malformed. Assumes nothing.
use Rattle.std.specs.Prelude.{ℕ, Result, ◌&&◌, cond}
use Rattle.rules.specs.Answers as rules
use Rattle.rules.specs.Answers.{ok, fault}
use Rattle.rules.specs.Apply.{apply_conf}
use Rattle.tracker.specs.Bridge.{conf_of, state_of, tracker_of, log_of}
use Rattle.tracker.specs.Form.{conf_well_formed, tracker_well_formed, log_well_formed}
use Rattle.tracker.specs.declared.Configuration.{Configuration}
use Rattle.tracker.specs.declared.ChangeLog.{ChangeLog}
use Rattle.tracker.specs.declared.Tracker.{Tracker}
use Rattle.tracker.specs.declared.refusal.Refusal.{Refusal}
use Rattle.tracker.specs.Refusals.{said}

-- number and id
pub record Verdict : Type 0 where
  pub number : ℕ
  pub id : ℕ

-- number and id, and the tracker that is left
pub record Outcome : Type 0 where
  pub number : ℕ
  pub id : ℕ
  pub tracker : Tracker

-- "0 is accepted. A refusal gives the number and the id named here, else id 0"
abbrev pub number_of : rules.Verdict → ℕ
number_of ok = 0
number_of (fault n x) = n

abbrev pub id_of : rules.Verdict → ℕ
id_of ok = 0
id_of (fault n x) = x

-- number and id as a struct
abbrev pub verdict_of : rules.Verdict → Verdict
verdict_of v = record { number = number_of v; id = id_of v }

abbrev pub refused_of : Tracker → ℕ → ℕ → Outcome
refused_of t n x = record { number = n; id = x; tracker = t }

-- what a call says that leaves this tracker
abbrev pub outcome_left : {A : Type 0} → Tracker → Result A Refusal → Outcome
outcome_left t r = record { number = number_of (said r); id = id_of (said r); tracker = t }

-- a rules' outcome as a struct
abbrev pub outcome_of : rules.Outcome → Outcome
outcome_of o = record { number = number_of o.verdict; id = id_of o.verdict; tracker = tracker_of o.state }

unfoldable pub apply_of : Tracker → Configuration → ChangeLog → ℕ → Outcome
apply_of t c log next =
    cond (tracker_well_formed t && conf_well_formed c && log_well_formed log)
    (outcome_of (apply_conf (state_of t) (conf_of c) (log_of log) next))
    (refused_of t 1 0)

abbrev pub verdict_in : Outcome → Verdict
verdict_in o = record { number = o.number; id = o.id }
