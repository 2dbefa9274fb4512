-- The three calls tried on small states: what a whole struct answers. Above each line stands what it rules out: a program that would give
-- another answer there. Assumes nothing.
use Rattle.std.specs.Prelude.{ℕ, ◌≡◌, refl, true, false, List, [], ◌∷◌}
use Rattle.progress.specs.Record.{is_unused}
use Rattle.rules.specs.Ids.{memb, above, ascending, insert_id, insert_all, remove_id, minus}
use Rattle.rules.specs.State.{Conf, State, Entry, ids, add, remove, conf_formed, formed}
use Rattle.rules.specs.Answers.{each}
use Rattle.rules.specs.Check.{check}
use Rattle.rules.specs.Table.{table, standing_in}
use Rattle.rules.specs.Changes.{last_says, pending, change, changes}
use Rattle.rules.specs.Calls.{list_of, readable, simple_of, simple, enter_of, enter_joint, removals, leave_of, leave_joint}
use Rattle.rules.specs.Idle.{count_of, enter_idles, idle_row, simple_idles}
use Rattle.rules.specs.Rows.{old, new, olds, conf, of}
use Rattle.rules.specs.Cases.{s0, s1, sj, sf, m1, s14}
use Rattle.idset.specs.Places.{zeros}
use Rattle.idset.specs.Set.{set_of, well_formed}
use Rattle.tracker.specs.Bridge.{configuration_of, peers_of, records_of, record_places, tracker_of, map_changes_of, change_log_of}
use Rattle.tracker.specs.Form.{conf_well_formed, all_unused, tracker_well_formed}
use Rattle.changer.specs.Calls.{Answer, simple_answer, enter_answer, leave_answer}

-- i entries did nothing
abbrev accepts : Conf → List Entry → ℕ → Answer
accepts c log i = record { number = 0; id = 0; conf = configuration_of c; log = change_log_of log; idle = i }

-- with the configuration given
abbrev refuses : State → ℕ → ℕ → Answer
refuses s n x = record { number = n; id = x; conf = configuration_of s.conf; log = change_log_of []; idle = 0 }

-- voters (1 2 3), and example 8 entered: (1 2 4)&&(1 2 3), staged (3)
abbrev s123 : State
s123 = of (olds (1 ∷ 2 ∷ 3 ∷ [])) (conf (1 ∷ 2 ∷ 3 ∷ []) [] [] [])

abbrev c8 : Conf
c8 = conf (1 ∷ 2 ∷ 4 ∷ []) (1 ∷ 2 ∷ 3 ∷ []) [] (3 ∷ [])

-- voters (1), learners (2)
abbrev s12 : State
s12 = of (olds (1 ∷ 2 ∷ [])) (conf (1 ∷ []) [] (2 ∷ []) [])

-- the same, with 3 tracked only
abbrev s3 : State
s3 = of (olds (1 ∷ 2 ∷ 3 ∷ [])) s12.conf

pub simply :
    -- refuses everything; hands the state back with an empty log (example 1)
    (simple_answer (tracker_of s0) (1 ∷ []) (0 ∷ []) ≡ accepts (conf (1 ∷ []) [] [] []) (add 1 ∷ []) 0)
    -- always answers voters (1)
    × (simple_answer (tracker_of s1) (2 ∷ []) (0 ∷ []) ≡ accepts (conf (1 ∷ 2 ∷ []) [] [] []) (add 2 ∷ []) 0)
    -- counts changes: 18 (example 4)
    × (simple_answer (tracker_of s1) (2 ∷ 2 ∷ []) (0 ∷ 1 ∷ []) ≡ accepts s1.conf (add 2 ∷ remove 2 ∷ []) 0)
    -- cancels −2 +2 in the log (example 10)
    × (simple_answer (tracker_of s12) (2 ∷ 2 ∷ []) (1 ∷ 2 ∷ []) ≡ accepts s12.conf (remove 2 ∷ add 2 ∷ []) 0)
    -- counts no entry; counts all that are not logged (1 and 9 stand as asked, 0 is skipped, 2 becomes a voter)
    × (simple_answer (tracker_of s12) (1 ∷ 9 ∷ 0 ∷ 2 ∷ []) (0 ∷ 1 ∷ 0 ∷ 0 ∷ []) ≡ accepts (conf (1 ∷ 2 ∷ []) [] [] []) [] 3)
    -- counts by "did any set change": 3 is tracked only, and its Remove is logged
    × (simple_answer (tracker_of s3) (3 ∷ []) (1 ∷ []) ≡ accepts s12.conf (remove 3 ∷ []) 0)
    -- decides 18 on one set: accepted (example 3)
    × (simple_answer (tracker_of s0) (1 ∷ 2 ∷ []) (0 ∷ 0 ∷ []) ≡ refuses s0 18 0)
    -- gives 16 for 17; a refusal with the new configuration, which has no voter (example 6)
    × (simple_answer (tracker_of s1) (1 ∷ []) (1 ∷ []) ≡ refuses s1 17 0)
    -- reads a malformed state
    × (simple_answer (tracker_of m1) (3 ∷ []) (0 ∷ []) ≡ refuses m1 1 0)
unfolding simple_answer simple_idles count_of idle_row tracker_well_formed conf_well_formed well_formed zeros all_unused is_unused set_of record_places records_of peers_of change_log_of map_changes_of simple readable list_of simple_of check each changes change table standing_in last_says pending formed conf_formed memb above ascending insert_id insert_all remove_id minus ids
simply = (refl, refl, refl, refl, refl, refl, refl, refl, refl)

pub entered :
    -- keeps outgoing as it was; makes a demoted outgoing voter a learner at once (example 8)
    (enter_answer (tracker_of s123) false (3 ∷ 4 ∷ []) (2 ∷ 0 ∷ []) ≡ accepts c8 (add 4 ∷ []) 0)
    -- takes 3 out of staged and puts it back, and does not count that; counts all that are not logged, which is all four
    × (enter_answer (tracker_of s123) false (3 ∷ 3 ∷ 2 ∷ 2 ∷ []) (2 ∷ 2 ∷ 1 ∷ 1 ∷ []) ≡ accepts (conf (1 ∷ []) (1 ∷ 2 ∷ 3 ∷ []) [] (3 ∷ [])) [] 2)
    -- does not set the flag
    × ((enter_answer (tracker_of s1) true [] []).conf.auto_leave ≡ true)
    -- enters with no incoming voter (example 7)
    × (enter_answer (tracker_of s0) false (1 ∷ []) (0 ∷ []) ≡ refuses s0 15 0)
    -- enters a joint configuration again; gives 6 for 4
    × (enter_answer (tracker_of sj) false [] [] ≡ refuses sj 4 0)
unfolding enter_answer enter_idles count_of idle_row tracker_well_formed conf_well_formed well_formed zeros all_unused is_unused set_of record_places records_of peers_of change_log_of map_changes_of enter_joint readable list_of enter_of check each changes change table standing_in last_says pending formed conf_formed memb above ascending insert_id insert_all remove_id minus ids
entered = (refl, refl, refl, refl, refl)

pub left :
    -- removes staged boxes; always answers voters (1) (example 8)
    (leave_answer (tracker_of (of (old 1 ∷ old 2 ∷ old 3 ∷ new 4 ∷ []) c8)) ≡ accepts (conf (1 ∷ 2 ∷ 4 ∷ []) [] (3 ∷ []) []) [] 0)
    -- logs nothing: the box of an outgoing voter stays
    × (leave_answer (tracker_of sj) ≡ accepts s1.conf (remove 2 ∷ []) 0)
    -- keeps the flag
    × ((leave_answer (tracker_of sf)).conf.auto_leave ≡ false)
    -- makes no check again: an id is voter and learner (example 14)
    × (leave_answer (tracker_of s14) ≡ refuses s14 10 2)
    -- leaves where it is not joint
    × (leave_answer (tracker_of s1) ≡ refuses s1 5 0)
unfolding leave_answer tracker_well_formed conf_well_formed well_formed zeros all_unused is_unused set_of record_places records_of peers_of change_log_of map_changes_of leave_joint leave_of removals check each last_says pending formed conf_formed memb above ascending insert_id insert_all remove_id minus ids
left = (refl, refl, refl, refl, refl)
