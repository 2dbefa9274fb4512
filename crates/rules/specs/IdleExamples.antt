-- The count of document 02, b), tried on lists. Above each line stands what it rules out: a count that would give another number there.
-- Assumes nothing.
use Rattle.std.specs.Prelude.{◌≡◌, refl, true, false, [], ◌∷◌}
use Rattle.rules.specs.Ids.{memb, above, ascending, insert_id, insert_all, remove_id, minus}
use Rattle.rules.specs.State.{State, add_learner, conf_formed, formed, ids, remove_node}
use Rattle.rules.specs.Answers.{each}
use Rattle.rules.specs.Check.{check}
use Rattle.rules.specs.Table.{OS, idle, standing_in, table}
use Rattle.rules.specs.Changes.{change, changes, last_says, pending}
use Rattle.rules.specs.Calls.{enter_joint, enter_of, list_of, readable, simple, simple_of}
use Rattle.rules.specs.Rows.{conf, of, olds}
use Rattle.rules.specs.Cases.{s1, s2, sj, times}
use Rattle.rules.specs.Idle.{count_of, enter_idles, enter_works, idle_row, simple_idles, simple_works}

-- voters (1 2 3); voters (1), learners (2), 3 tracked only
abbrev s123 : State
s123 = of (olds (1 ∷ 2 ∷ 3 ∷ [])) (conf (1 ∷ 2 ∷ 3 ∷ []) [] [] [])

abbrev s3 : State
s3 = of (olds (1 ∷ 2 ∷ 3 ∷ [])) (conf (1 ∷ []) [] (2 ∷ []) [])

pub rows :
    -- takes the id out of staged and puts it back, as the Rust does, and counts that as a change
    (idle_row OS add_learner ≡ true)
    -- asks whether any set changed: of a box that is tracked only none does, but it is logged
    × (idle_row idle remove_node ≡ false)
unfolding idle_row table
rows = (refl, refl)

pub simply :
    -- kinds: 0 adds, 1 removes, 2 adds a learner. All stand as asked, one is 0
    (simple_idles s3 (1 ∷ 2 ∷ 0 ∷ 9 ∷ []) (0 ∷ 2 ∷ 0 ∷ 1 ∷ []) ≡ 4)
    -- asks whether any set changed
    × (simple_idles s3 (3 ∷ []) (1 ∷ []) ≡ 0)
    -- counts what is not logged: 2 becomes a voter, and then stands as asked
    × (simple_idles s3 (2 ∷ 2 ∷ []) (0 ∷ 0 ∷ []) ≡ 1)
    -- asks the standing before the list: 2 is no learner at its second turn
    × (simple_idles s3 (2 ∷ 2 ∷ []) (1 ∷ 2 ∷ []) ≡ 0)
    -- leaves out id 0; counts no further than a byte
    × (simple_idles s1 (times 256 0) (times 256 1) ≡ 256)
    -- counts of a refused list (18, 17, 6, 2)
    × (simple_idles s1 (1 ∷ 2 ∷ 3 ∷ []) (0 ∷ 0 ∷ 0 ∷ []) ≡ 0)
    × (simple_idles s1 (0 ∷ 1 ∷ []) (0 ∷ 1 ∷ []) ≡ 0)
    × (simple_idles sj (0 ∷ []) (0 ∷ []) ≡ 0)
    × (simple_idles s1 (times 257 0) (times 257 1) ≡ 0)
unfolding simple_idles count_of idle_row simple readable list_of simple_of check each changes change table standing_in last_says pending formed conf_formed memb above ascending insert_id insert_all remove_id minus ids
simply = (refl, refl, refl, refl, refl, refl, refl, refl, refl)

pub entered :
    -- 3 is OS at its second turn; 1 and 0 do nothing, and 9 is not there
    (enter_idles s123 false (3 ∷ 3 ∷ 1 ∷ 0 ∷ 9 ∷ []) (2 ∷ 2 ∷ 0 ∷ 0 ∷ 1 ∷ []) ≡ 4)
    -- counts what is not logged: the first removal brings 2 from IO to O, and only the second leaves it
    × (enter_idles s2 true (2 ∷ 2 ∷ []) (1 ∷ 1 ∷ []) ≡ 1)
    -- takes any AddNode for a change: 2 is IO
    × (enter_idles s2 false (2 ∷ []) (0 ∷ []) ≡ 1)
    -- counts of a refused list (17, 4)
    × (enter_idles s1 false (1 ∷ 0 ∷ []) (1 ∷ 0 ∷ []) ≡ 0)
    × (enter_idles sj false (0 ∷ []) (0 ∷ []) ≡ 0)
unfolding enter_idles count_of idle_row enter_joint readable list_of enter_of check each changes change table standing_in last_says pending formed conf_formed memb above ascending insert_id insert_all remove_id minus ids
entered = (refl, refl, refl, refl, refl)

-- The other entries, those that moved their id or logged
pub worked :
    (simple_works s3 (2 ∷ 2 ∷ 0 ∷ 3 ∷ []) (0 ∷ 0 ∷ 0 ∷ 1 ∷ []) ≡ 2)
    -- an entry that is logged, though its id stands in no set before and after it
    × (simple_works s3 (3 ∷ []) (1 ∷ []) ≡ 1)
    × (enter_works s123 false (3 ∷ 3 ∷ 1 ∷ 0 ∷ 9 ∷ []) (2 ∷ 2 ∷ 0 ∷ 0 ∷ 1 ∷ []) ≡ 1)
unfolding simple_works enter_works count_of simple enter_joint readable list_of simple_of enter_of check each changes change table standing_in last_says pending formed conf_formed memb above ascending insert_id insert_all remove_id minus ids
worked = (refl, refl, refl)
