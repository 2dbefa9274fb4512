-- Document 02, d), tried on states. Above each line stands what it rules out: a shortcut that would give another answer there. Assumes nothing.
use Rattle.std.specs.Prelude.{◌≡◌, refl, false, [], ◌∷◌}
use Rattle.rules.specs.Ids.{apart, memb, above, ascending, insert_id, insert_all, remove_id, minus, same_ids}
use Rattle.rules.specs.State.{State, conf_formed, formed, ids}
use Rattle.rules.specs.Answers.{each, fault, ok}
use Rattle.rules.specs.Check.{check, in_order}
use Rattle.rules.specs.Table.{standing_in, table}
use Rattle.rules.specs.Changes.{change, changes, last_says, pending}
use Rattle.rules.specs.Calls.{list_of, readable, simple, simple_of}
use Rattle.rules.specs.Rows.{conf, of, olds}
use Rattle.rules.specs.Cases.{m1, s0, s1, s2, s17, sj}
use Rattle.rules.specs.Unplug.{another, quick, unplug}

-- voters (1), learners (2 3)
abbrev s123 : State
s123 = of (olds (1 ∷ 2 ∷ 3 ∷ [])) (conf (1 ∷ []) [] (2 ∷ 3 ∷ []) [])

-- voter 1 not tracked; id 0 tracked, a voter
abbrev untracked : State
untracked = of [] s1.conf

abbrev zero_in : State
zero_in = of (olds (0 ∷ [])) (conf (0 ∷ []) [] [] [])

pub unplugged :
    -- refuses everything
    (unplug s2 1 ≡ ok)
    -- accepts everything; takes learners for voters
    × (unplug s123 1 ≡ fault 17 0)
    -- gives 17 wherever there is one voter, whatever the box
    × (unplug s123 2 ≡ ok)
    × (unplug s1 9 ≡ ok)
    -- does not ask joint; asks it of the box's own standing
    × (unplug sj 1 ≡ fault 6 0)
    × (unplug sj 9 ≡ fault 6 0)
    -- accepts id 0, which is skipped, without a look at the voters
    × (unplug s0 0 ≡ fault 17 0)
    × (unplug s1 0 ≡ ok)
    -- answers of a state that fails the check, or is malformed, as of one in order
    × (unplug untracked 2 ≡ fault 7 1)
    × (unplug s17 1 ≡ fault 14 0)
    × (unplug m1 1 ≡ fault 1 0)
unfolding unplug simple readable list_of simple_of check each changes change table standing_in last_says pending formed conf_formed memb above ascending insert_id insert_all remove_id minus ids
unplugged = (refl, refl, refl, refl, refl, refl, refl, refl, refl, refl, refl)

-- in order is needed for the short form: where 0 is the only voter, its removal is skipped
pub not_of_any_state : (unplug zero_in 0 ≡ ok) × (quick zero_in 0 ≡ fault 17 0) × (in_order zero_in ≡ false)
unfolding unplug another in_order apart same_ids simple readable list_of simple_of check each changes change table standing_in last_says pending formed conf_formed memb above ascending insert_id insert_all remove_id minus ids
not_of_any_state = (refl, refl, refl)
