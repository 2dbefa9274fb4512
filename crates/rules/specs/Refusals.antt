-- The other examples of document 01 (13 to 15), and one or more for each refusal number and for the order of the tests: rows of the same
-- form, worked out from the paper. Assumes nothing.
use Rattle.std.specs.Prelude.{◌≡◌, refl, true, false, List, [], ◌∷◌, ◌++◌}
use Rattle.rules.specs.Ids.{apart, memb, above, ascending, insert_id, insert_all, remove_id, minus, same_ids}
use Rattle.rules.specs.State.{State, ids, conf_formed, formed, add, remove, log_formed}
use Rattle.rules.specs.Answers.{accepted, ok, fault, each, refused}
use Rattle.rules.specs.Check.{check, check_state, in_order}
use Rattle.rules.specs.Table.{table, standing_in}
use Rattle.rules.specs.Changes.{last_says, pending, change, changes}
use Rattle.rules.specs.Calls.{list_of, readable, simple_of, simple, enter_of, enter_joint, removals, leave_of, leave_joint}
use Rattle.rules.specs.Apply.{track, untrack, room, enrol, apply_conf, to_conf_state}
use Rattle.rules.specs.Restore.{ask, run, all, one_by_one, restore_steps, restorable, restore_step_by_step, restore}
use Rattle.rules.specs.Sequences.{simple_call, enter_call, leave_call, restore_call, step_by_step_call, perform}
use Rattle.rules.specs.Rows.{old, new, olds, conf, of, lists, Row, row, told, asked}
use Rattle.rules.specs.Cases.{s0, s1, s2, sj, sf, sg, flagged, m1, m2, m3, m4, m5, s14, s15, s16, s17, times, up_to}

abbrev rows : List Row
rows =
    -- 13 to 15
    row 13 s0 (restore_call (lists (0 ∷ 1 ∷ []) [] [] []) 77) (fault 17 0) s0 []
    ∷ row 13 s0 (step_by_step_call (lists (0 ∷ 1 ∷ []) [] [] []) 77) (fault 17 0) s0 []
    ∷ row 13 s0 (restore_call (lists (1 ∷ 0 ∷ []) [] [] []) 77) ok (of (new 1 ∷ []) (conf (1 ∷ []) [] [] [])) []
    ∷ row 13 s0 (step_by_step_call (lists (1 ∷ 0 ∷ []) [] [] []) 77) ok (of (new 1 ∷ []) (conf (1 ∷ []) [] [] [])) []
    ∷ row 14 s14 (leave_call 77) (fault 10 2) s14 []
    ∷ row 15 s15 (simple_call (64 ∷ 65 ∷ []) (1 ∷ 2 ∷ []) 77) ok (of (olds (up_to 63 []) ++ (new 65 ∷ [])) (conf (up_to 63 []) [] (65 ∷ []) [])) (remove 64 ∷ add 65 ∷ [])
    ∷ row 15 s15 (simple_call (65 ∷ 64 ∷ []) (2 ∷ 1 ∷ []) 77) (fault 16 65) s15 []
    ∷ row 15 s1 (simple_call (times 256 1) (times 256 0) 77) ok s1 []
    ∷ row 15 s1 (simple_call (times 257 1) (times 257 0) 77) (fault 2 0) s1 []
    -- 1, before 2 and 3
    ∷ row 0 m1 (simple_call (1 ∷ []) [] 77) (fault 1 0) m1 []
    ∷ row 0 m2 (enter_call false (1 ∷ []) (3 ∷ []) 77) (fault 1 0) m2 []
    ∷ row 0 m3 (leave_call 77) (fault 1 0) m3 []
    ∷ row 0 m4 (simple_call (0 ∷ []) (0 ∷ []) 77) (fault 1 0) m4 []
    ∷ row 0 m5 (restore_call (lists [] [] [] []) 77) (fault 1 0) m5 []
    ∷ row 0 m1 (restore_call (lists (up_to 65 []) [] [] []) 77) (fault 1 0) m1 []
    ∷ row 0 m1 (step_by_step_call (lists (up_to 65 []) [] [] []) 77) (fault 1 0) m1 []
    -- 2 before 3, also with a kind too many; 3 also beside id 0; 2 and 3 before 4 and 6
    ∷ row 0 s1 (simple_call (1 ∷ []) (3 ∷ 0 ∷ []) 77) (fault 2 0) s1 []
    ∷ row 0 s1 (enter_call false (1 ∷ 2 ∷ []) (0 ∷ []) 77) (fault 2 0) s1 []
    ∷ row 0 s1 (simple_call (0 ∷ []) (3 ∷ []) 77) (fault 3 0) s1 []
    ∷ row 0 sj (enter_call false (1 ∷ 2 ∷ []) (0 ∷ 3 ∷ []) 77) (fault 3 0) sj []
    ∷ row 0 s0 (restore_call (lists [] (up_to 65 []) [] []) 77) (fault 2 0) s0 []
    ∷ row 0 s0 (restore_call (lists [] [] (times 65 1) []) 77) (fault 2 0) s0 []
    ∷ row 0 s0 (restore_call (lists [] [] [] (times 65 1)) 77) (fault 2 0) s0 []
    ∷ row 0 s0 (restore_call (lists (times 65 1) [] [] []) 77) (fault 2 0) s0 []
    ∷ row 0 s0 (step_by_step_call (lists [] [] (times 65 1) []) 77) (fault 2 0) s0 []
    ∷ row 0 s0 (restore_call (lists (times 64 1) [] [] []) 77) ok (of (new 1 ∷ []) (conf (1 ∷ []) [] [] [])) []
    -- 4, 5, 6, before the check
    ∷ row 0 sj (enter_call false (1 ∷ []) (0 ∷ []) 77) (fault 4 0) sj []
    ∷ row 0 s1 (leave_call 77) (fault 5 0) s1 []
    ∷ row 0 sj (simple_call (1 ∷ []) (0 ∷ []) 77) (fault 6 0) sj []
    ∷ row 0 (of [] sj.conf) (enter_call false [] [] 77) (fault 4 0) (of [] sj.conf) []
    ∷ row 0 (of [] s1.conf) (leave_call 77) (fault 5 0) (of [] s1.conf) []
    ∷ row 0 (of [] sj.conf) (simple_call [] [] 77) (fault 6 0) (of [] sj.conf) []
    -- the check before 15 and 17
    ∷ row 0 (of [] (conf [] [] (5 ∷ []) [])) (enter_call false [] [] 77) (fault 8 5) (of [] (conf [] [] (5 ∷ []) [])) []
    ∷ row 0 s17 (simple_call (1 ∷ []) (1 ∷ []) 77) (fault 14 0) s17 []
    -- 16 before 17; 17 before 18; removing an outgoing voter frees no room; 16 also within enter
    ∷ row 0 s16 (simple_call (1 ∷ 65 ∷ []) (2 ∷ 0 ∷ []) 77) (fault 16 65) s16 []
    ∷ row 0 s2 (simple_call (1 ∷ 2 ∷ []) (1 ∷ 1 ∷ []) 77) (fault 17 0) s2 []
    ∷ row 0 s15 (enter_call false (1 ∷ 65 ∷ []) (1 ∷ 0 ∷ []) 77) (fault 16 65) s15 []
    ∷ row 0 s2 (enter_call true (1 ∷ 2 ∷ []) (1 ∷ 2 ∷ []) 77) (fault 17 0) s2 []
    -- entering with the flag, and leaving: two voters change at once, the flag goes; what goes is logged ascending
    ∷ row 0 s1 (enter_call true (2 ∷ 3 ∷ []) (0 ∷ 0 ∷ []) 77) ok (of (old 1 ∷ new 2 ∷ new 3 ∷ []) (record { incoming = 1 ∷ 2 ∷ 3 ∷ []; outgoing = 1 ∷ []; learners = []; staged = []; auto_leave = true })) (add 2 ∷ add 3 ∷ [])
    ∷ row 0 sf (leave_call 77) ok (of (olds (1 ∷ 2 ∷ [])) (conf (1 ∷ 2 ∷ []) [] [] [])) []
    ∷ row 0 sg (leave_call 77) ok s1 (remove 2 ∷ remove 3 ∷ [])
    -- restore: four empty lists on a joint state; a flag without outgoing voters is ignored, a staged id is then a learner; the flag with
    -- outgoing voters
    ∷ row 0 sj (restore_call (lists [] [] [] []) 77) ok sj []
    ∷ row 0 s0 (restore_call (flagged (1 ∷ []) [] [] (2 ∷ [])) 77) ok (of (new 1 ∷ new 2 ∷ []) (conf (1 ∷ []) [] (2 ∷ []) [])) []
    ∷ row 0 s0 (restore_call (flagged (2 ∷ []) [] (1 ∷ []) []) 77) ok (of (new 1 ∷ new 2 ∷ []) (record { incoming = 2 ∷ []; outgoing = 1 ∷ []; learners = []; staged = []; auto_leave = true })) []
    -- document 02, g): refused at its last step, of a state that is not fresh; by `restore` no step stays, and the number and id are the same
    ∷ row 0 s1 (step_by_step_call (lists (2 ∷ []) (1 ∷ 2 ∷ []) [] []) 77) (fault 17 0) (of (old 1 ∷ new 2 ∷ []) (conf (2 ∷ []) [] (1 ∷ []) [])) []
    ∷ row 0 s1 (restore_call (lists (2 ∷ []) (1 ∷ 2 ∷ []) [] []) 77) (fault 17 0) s1 []
    ∷ row 0 s15 (step_by_step_call (lists (64 ∷ 65 ∷ []) [] [] []) 77) (fault 16 65) (of (olds (up_to 64 [])) (conf (up_to 64 []) [] [] [])) []
    ∷ row 0 s15 (restore_call (lists (64 ∷ 65 ∷ []) [] [] []) 77) (fault 16 65) s15 []
    ∷ []

pub every_other_row : asked rows ≡ told rows
unfolding perform restore restore_step_by_step run restorable restore_steps one_by_one all ask simple enter_joint leave_joint readable list_of simple_of enter_of leave_of check each changes change table standing_in last_says pending removals apply_conf room enrol formed conf_formed log_formed memb above ascending insert_id insert_all remove_id minus ids track untrack
every_other_row = refl

-- Document 02, h): "A bench state had box 2 as both incoming voter and staged learner." Example 14's state passes the check and is not in order:
-- leaving it is refused, and written out and restored it comes back as another. That other, in which 2 is not an incoming voter, is in order.
abbrev s20 : State
s20 = of (olds (1 ∷ 2 ∷ [])) (conf (1 ∷ []) (1 ∷ 2 ∷ []) [] (2 ∷ []))

pub two_roles : (check_state s14 ≡ ok) × (in_order s14 ≡ false) × (leave_joint s14 ≡ refused 10 2)
    × ((restore s0 (to_conf_state s14).conf_state 77).state.conf ≡ s20.conf)
    × (check_state s20 ≡ ok) × (in_order s20 ≡ true) × (leave_joint s20 ≡ accepted (conf (1 ∷ []) [] (2 ∷ []) []) [])
unfolding check_state in_order apart same_ids to_conf_state restore restore_step_by_step run restorable restore_steps one_by_one all ask readable list_of simple_of enter_of leave_joint leave_of check each changes change table standing_in last_says pending removals apply_conf room enrol formed conf_formed log_formed memb above ascending insert_id insert_all remove_id minus ids track untrack
two_roles = (refl, refl, refl, refl, refl, refl, refl)

-- In order is not enough for the round trip: a state with a learner and no incoming voter does not come back.
abbrev s18 : State
s18 = of (old 5 ∷ []) (conf [] [] (5 ∷ []) [])

pub stays_away : (in_order s18 ≡ true) × ((restore s0 (to_conf_state s18).conf_state 77).verdict ≡ fault 17 0)
unfolding in_order apart same_ids to_conf_state perform restore restore_step_by_step run restorable restore_steps one_by_one all ask simple enter_joint leave_joint readable list_of simple_of enter_of leave_of check each changes change table standing_in last_says pending removals apply_conf room enrol formed conf_formed log_formed memb above ascending insert_id insert_all remove_id minus ids track untrack
stays_away = (refl, refl)
