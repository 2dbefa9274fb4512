-- The tests before the changes, on structs: 1, 2, 3; then 4, 5 or 6; the check; 15. Assumes nothing.
use Rattle.std.specs.Prelude.{ℕ, Bool, not, cond, List, ltb}
use Rattle.std.specs.List.{list_any}
use Rattle.rules.specs.Ids.{is_empty}
use Rattle.rules.specs.Answers as rules
use Rattle.rules.specs.Answers.{fault, refuse, ◌▸◌}
use Rattle.rules.specs.Check.{joint}
use Rattle.rules.specs.Calls.{readable}
use Rattle.rules.specs.Unplug.{voter_left}
use Rattle.idset.specs.Set.{held}
use Rattle.tracker.specs.Bridge.{conf_of}
use Rattle.tracker.specs.Form.{tracker_well_formed}
use Rattle.tracker.specs.Apply.{Verdict, verdict_of}
use Rattle.tracker.specs.declared.Tracker.{Tracker}
use Rattle.invariants.specs.Check.{check_walk}

-- 1, then what else is tested
abbrev pub formed_then : Tracker → rules.Verdict → Verdict
formed_then t v = cond (tracker_well_formed t) (verdict_of v) (verdict_of (fault 1 0))

-- the check of a state's own configuration and ids
abbrev pub own_check : Tracker → rules.Verdict
own_check t = check_walk (held t.ids) (conf_of t.conf)

-- a kind above 2
abbrev pub any_above2 : List ℕ → Bool
any_above2 ks = list_any (λ k. ltb 2 k) ks

-- 1, 2, 3; 4; the check; 15
abbrev pub may_enter : Tracker → List ℕ → List ℕ → Verdict
may_enter t ids kinds =
    formed_then t (readable ids kinds ▸ refuse (joint (conf_of t.conf)) 4 0 ▸ own_check t ▸ refuse (is_empty (held t.conf.incoming)) 15 0)

-- 1; 5; the check
abbrev pub may_leave : Tracker → Verdict
may_leave t = formed_then t (refuse (not (joint (conf_of t.conf))) 5 0 ▸ own_check t)

-- 1, 2, 3; 6; the check
abbrev pub may_simple : Tracker → List ℕ → List ℕ → Verdict
may_simple t ids kinds = formed_then t (readable ids kinds ▸ refuse (joint (conf_of t.conf)) 6 0 ▸ own_check t)

-- ** Whether a box can be unplugged, without the changes

-- 1; 6; the check; 17
abbrev pub may_unplug : Tracker → ℕ → Verdict
may_unplug t x = formed_then t (refuse (joint (conf_of t.conf)) 6 0 ▸ own_check t ▸ refuse (not (voter_left x (held t.conf.incoming))) 17 0)
