-- The examples of document 01 that are marked P: rows of a single table, under one claim. Assumes nothing.
use Rattle.std.specs.Prelude.{◌≡◌, refl, false, List, [], ◌∷◌}
use Rattle.rules.specs.Ids.{memb, above, ascending, insert_id, insert_all, remove_id, minus}
use Rattle.rules.specs.State.{ConfState, State, ids, conf_formed, formed, fresh, add, remove, log_formed}
use Rattle.rules.specs.Answers.{ok, fault, each}
use Rattle.rules.specs.Check.{check}
use Rattle.rules.specs.Table.{table, standing_in}
use Rattle.rules.specs.Changes.{last_says, pending, change, changes}
use Rattle.rules.specs.Calls.{list_of, readable, simple_of, simple, enter_of, enter_joint, removals, leave_of, leave_joint}
use Rattle.rules.specs.Apply.{track, untrack, room, enrol, apply_conf}
use Rattle.rules.specs.Restore.{Step, ask, run, all, one_by_one, restore_steps, restorable, restore_step_by_step, restore}
use Rattle.rules.specs.Sequences.{simple_call, enter_call, leave_call, restore_call, step_by_step_call, perform}
use Rattle.rules.specs.Rows.{old, new, olds, conf, of, lists, before_last, last_of, call_of, Row, row, told, asked}

abbrev s0 : State
s0 = fresh 256

-- voters (1); voters (1), learners (2); voters (1 2 3)
abbrev s1 : State
s1 = of (old 1 ∷ []) (conf (1 ∷ []) [] [] [])

abbrev s12 : State
s12 = of (old 1 ∷ old 2 ∷ []) (conf (1 ∷ []) [] (2 ∷ []) [])

abbrev s123 : State
s123 = of (olds (1 ∷ 2 ∷ 3 ∷ [])) (conf (1 ∷ 2 ∷ 3 ∷ []) [] [] [])

-- example 8 entered: (1 2 4)&&(1 2 3), staged (3)
abbrev s8 : State
s8 = of (old 1 ∷ old 2 ∷ old 3 ∷ new 4 ∷ []) (conf (1 ∷ 2 ∷ 4 ∷ []) (1 ∷ 2 ∷ 3 ∷ []) [] (3 ∷ []))

-- example 9 entered
abbrev s9 : State
s9 = of (olds (1 ∷ 2 ∷ 3 ∷ [])) (conf (1 ∷ 2 ∷ []) (1 ∷ 2 ∷ 3 ∷ []) [] [])

-- example 11's lists and its steps; what the run of all but the last leaves; and restored: "these sets, tracked 1 to 6"
abbrev cs11 : ConfState
cs11 = lists (1 ∷ 2 ∷ 3 ∷ []) (5 ∷ []) (1 ∷ 2 ∷ 4 ∷ 6 ∷ []) (4 ∷ [])

abbrev steps11 : List Step
steps11 = restore_steps cs11

abbrev s11a : State
s11a = (run 77 s0 (before_last steps11)).state

abbrev s11 : State
s11 = of (new 1 ∷ new 2 ∷ new 3 ∷ new 4 ∷ new 5 ∷ new 6 ∷ []) (conf (1 ∷ 2 ∷ 3 ∷ []) (1 ∷ 2 ∷ 4 ∷ 6 ∷ []) (5 ∷ []) (4 ∷ []))

-- kinds: 0 adds, 1 removes, 2 adds a learner. Of example 11 the third row is "its last step", which is asked of what the steps before it left.
abbrev rows : List Row
rows =
    row 1 s0 (simple_call (1 ∷ []) (0 ∷ []) 77) ok (of (new 1 ∷ []) (conf (1 ∷ []) [] [] [])) (add 1 ∷ [])
    ∷ row 2 s0 (simple_call [] [] 77) (fault 17 0) s0 []
    ∷ row 2 s0 (simple_call (0 ∷ []) (0 ∷ []) 77) (fault 17 0) s0 []
    ∷ row 3 s0 (simple_call (1 ∷ 2 ∷ []) (0 ∷ 0 ∷ []) 77) (fault 18 0) s0 []
    ∷ row 4 s1 (simple_call (2 ∷ 2 ∷ []) (0 ∷ 1 ∷ []) 77) ok s1 (add 2 ∷ remove 2 ∷ [])
    ∷ row 5 s123 (simple_call (3 ∷ 4 ∷ []) (1 ∷ 0 ∷ []) 77) (fault 18 0) s123 []
    ∷ row 6 s1 (simple_call (1 ∷ []) (1 ∷ []) 77) (fault 17 0) s1 []
    ∷ row 7 s0 (enter_call false (1 ∷ []) (0 ∷ []) 77) (fault 15 0) s0 []
    ∷ row 8 s123 (enter_call false (3 ∷ 4 ∷ []) (2 ∷ 0 ∷ []) 77) ok s8 (add 4 ∷ [])
    ∷ row 8 s8 (leave_call 78) ok (of s8.peers (conf (1 ∷ 2 ∷ 4 ∷ []) [] (3 ∷ []) [])) []
    ∷ row 9 s123 (enter_call false (3 ∷ []) (1 ∷ []) 77) ok s9 []
    ∷ row 9 s9 (leave_call 78) ok (of (old 1 ∷ old 2 ∷ []) (conf (1 ∷ 2 ∷ []) [] [] [])) (remove 3 ∷ [])
    ∷ row 10 s12 (simple_call (2 ∷ 2 ∷ []) (1 ∷ 2 ∷ []) 77) ok (of (old 1 ∷ new 2 ∷ []) s12.conf) (remove 2 ∷ add 2 ∷ [])
    ∷ row 11 s0 (restore_call cs11 77) ok s11 []
    ∷ row 11 s0 (step_by_step_call cs11 77) ok s11 []
    ∷ row 11 s11a (call_of (last_of steps11) 77) ok s11 (add 3 ∷ add 5 ∷ [])
    ∷ row 11 s11 (leave_call 78) ok (of (new 1 ∷ new 2 ∷ new 3 ∷ new 4 ∷ new 5 ∷ []) (conf (1 ∷ 2 ∷ 3 ∷ []) [] (4 ∷ 5 ∷ []) [])) (remove 6 ∷ [])
    -- document 02, g): example 12 asks "by name for step-by-step restore"; by `restore` it is refused whole
    ∷ row 12 s0 (step_by_step_call (lists (1 ∷ 2 ∷ []) (1 ∷ 2 ∷ []) [] []) 77) (fault 17 0) (of (new 1 ∷ new 2 ∷ []) (conf (2 ∷ []) [] (1 ∷ []) [])) []
    ∷ row 12 s0 (restore_call (lists (1 ∷ 2 ∷ []) (1 ∷ 2 ∷ []) [] []) 77) (fault 17 0) s0 []
    ∷ []

-- each call of the table, made on the state before it, gives the verdict, the state and the log that stand there
pub every_row : asked rows ≡ told rows
unfolding perform restore restore_step_by_step run restorable restore_steps one_by_one all ask simple enter_joint leave_joint readable list_of simple_of enter_of leave_of check each changes change table standing_in last_says pending removals apply_conf room enrol formed conf_formed log_formed memb above ascending insert_id insert_all remove_id minus ids track untrack
every_row = refl
