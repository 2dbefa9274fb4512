-- `restore`, `restore_step_by_step`, what makes the one of the other, and `apply_answer` tried on small states. Above each line stands what it rules
-- out: a program that would leave another state, or answer another number or id. Assumes nothing.
use Rattle.std.specs.Prelude.{ℕ, ◌≡◌, refl, true, false, List, [], ◌∷◌}
use Rattle.progress.specs.Record.{is_unused}
use Rattle.rules.specs.Ids.{memb, above, ascending, insert_id, insert_all, remove_id, minus}
use Rattle.rules.specs.State.{Conf, State, Entry, ids, add, remove, conf_formed, formed, no_conf, log_formed}
use Rattle.rules.specs.Answers.{each}
use Rattle.rules.specs.Check.{check}
use Rattle.rules.specs.Table.{table, standing_in}
use Rattle.rules.specs.Changes.{last_says, pending, change, changes}
use Rattle.rules.specs.Calls.{simple_of, enter_of}
use Rattle.rules.specs.Apply.{track, untrack, room, enrol, apply_conf}
use Rattle.rules.specs.Restore as rules
use Rattle.rules.specs.Restore.{ask, run, all, one_by_one, restore_steps, restorable}
use Rattle.rules.specs.Rows.{old, new, conf, of, lists}
use Rattle.rules.specs.Cases.{s0, s1, flagged, m1}
use Rattle.idset.specs.Places.{zeros}
use Rattle.idset.specs.Set.{set_of, well_formed}
use Rattle.tracker.specs.Bridge.{configuration_of, peers_of, records_of, record_places, tracker_of, entries_of, map_changes_of, change_log_of, conf_state_of}
use Rattle.tracker.specs.Form.{conf_well_formed, all_unused, tracker_well_formed, is_blank, all_blank, log_well_formed}
use Rattle.tracker.specs.Apply.{Outcome, refused_of, apply_of}
use Rattle.tracker.specs.declared.ConfState.{ConfState}
use Rattle.changer.specs.Calls.{Answer}
use Rattle.restore.specs.Restore.{applied_to, whole_of, too_long, restore_of, step_by_step_of}

abbrev leaves : State → Outcome
leaves s = record { number = 0; id = 0; tracker = tracker_of s }

-- (2)&&(1) with the flag; voters (1), learners (2)
abbrev joined : State
joined = of (new 1 ∷ new 2 ∷ []) (record { incoming = 2 ∷ []; outgoing = 1 ∷ []; learners = []; staged = []; auto_leave = true })

abbrev learned : State
learned = of (new 1 ∷ new 2 ∷ []) (conf (1 ∷ []) [] (2 ∷ []) [])

-- a list of 65 voters
abbrev long : ConfState
long =
    record {
      voters = record { ids = (set_of []).ids; len = 65 };
      learners = (conf_state_of (lists [] [] [] [])).learners;
      voters_outgoing = (conf_state_of (lists [] [] [] [])).voters_outgoing;
      learners_next = (conf_state_of (lists [] [] [] [])).learners_next;
      auto_leave = false;
    }

-- voters (1) with an old record, and what is left of it and of fresh where the last step is refused
abbrev half : State
half = of (old 1 ∷ new 2 ∷ []) (conf (2 ∷ []) [] (1 ∷ []) [])

abbrev half_fresh : State
half_fresh = of (new 1 ∷ []) (conf (1 ∷ []) [] [] [])

pub restored :
    -- does its first step only: voters (1); drops the flag; does not remove outgoing before it enters: (1 2)&&(1)
    (restore_of (tracker_of s0) (conf_state_of (flagged (2 ∷ []) [] (1 ∷ []) [])) 77 ≡ leaves joined)
    -- adds learners as voters; keeps the flag without outgoing voters
    × (restore_of (tracker_of s0) (conf_state_of (flagged (1 ∷ []) (2 ∷ []) [] [])) 77 ≡ leaves learned)
    -- treats lists as sets: 17 for the second too (example 13)
    × (restore_of (tracker_of s0) (conf_state_of (lists (0 ∷ 1 ∷ []) [] [] [])) 77 ≡ refused_of (tracker_of s0) 17 0)
    × (restore_of (tracker_of s0) (conf_state_of (lists (1 ∷ 0 ∷ []) [] [] [])) 77 ≡ leaves (of (new 1 ∷ []) (conf (1 ∷ []) [] [] [])))
    -- keeps the steps before a refused one
    × (restore_of (tracker_of s0) (conf_state_of (lists (1 ∷ []) (1 ∷ []) [] [])) 77 ≡ refused_of (tracker_of s0) 17 0)
    -- gives the fresh state in the place of the one given; keeps the record that a step made
    × (restore_of (tracker_of s1) (conf_state_of (lists (2 ∷ []) (1 ∷ 2 ∷ []) [] [])) 77 ≡ refused_of (tracker_of s1) 17 0)
    -- takes a list of 65
    × (restore_of (tracker_of s0) long 77 ≡ refused_of (tracker_of s0) 2 0)
    -- asks 2 before 1
    × (restore_of (tracker_of m1) long 77 ≡ refused_of (tracker_of m1) 1 0)
unfolding restore_of too_long tracker_well_formed conf_well_formed well_formed zeros all_unused is_unused set_of record_places records_of peers_of rules.restore rules.restore_step_by_step run restorable restore_steps one_by_one all ask simple_of enter_of check each changes change table standing_in last_says pending apply_conf room enrol formed conf_formed log_formed memb above ascending insert_id insert_all remove_id minus ids track untrack
restored = (refl, refl, refl, refl, refl, refl, refl, refl)

pub restored-step-by-step :
    -- does its first step only: voters (1)
    (step_by_step_of (tracker_of s0) (conf_state_of (flagged (2 ∷ []) [] (1 ∷ []) [])) 77 ≡ leaves joined)
    -- undoes the steps before a refused one; makes a fresh record for a box that was tracked
    × (step_by_step_of (tracker_of s0) (conf_state_of (lists (1 ∷ []) (1 ∷ []) [] [])) 77 ≡ refused_of (tracker_of half_fresh) 17 0)
    × (step_by_step_of (tracker_of s1) (conf_state_of (lists (2 ∷ []) (1 ∷ 2 ∷ []) [] [])) 77 ≡ refused_of (tracker_of half) 17 0)
    -- takes a list of 65; asks 2 before 1
    × (step_by_step_of (tracker_of s0) long 77 ≡ refused_of (tracker_of s0) 2 0)
    × (step_by_step_of (tracker_of m1) long 77 ≡ refused_of (tracker_of m1) 1 0)
unfolding step_by_step_of too_long tracker_well_formed conf_well_formed well_formed zeros all_unused is_unused set_of record_places records_of peers_of rules.restore_step_by_step run restorable restore_steps one_by_one all ask simple_of enter_of check each changes change table standing_in last_says pending apply_conf room enrol formed conf_formed log_formed memb above ascending insert_id insert_all remove_id minus ids track untrack
restored-step-by-step = (refl, refl, refl, refl, refl)

pub made-whole :
    -- keeps what a refused restore left; drops the refusal's id
    (whole_of (tracker_of s1) (refused_of (tracker_of half) 16 65) ≡ refused_of (tracker_of s1) 16 65)
    -- gives back the state of an accepted one
    × (whole_of (tracker_of s1) (leaves half) ≡ leaves half)
unfolding whole_of
made-whole = (refl, refl)

abbrev answer : ℕ → ℕ → Conf → List Entry → Answer
answer n x c log = record { number = n; id = x; conf = configuration_of c; log = change_log_of log; idle = 0 }

pub answered :
    -- `apply_answer` that applies a refused answer; that drops the refusal's id
    (applied_to (tracker_of s1) (answer 16 65 no_conf (remove 1 ∷ [])) 77 ≡ refused_of (tracker_of s1) 16 65)
    -- `apply_answer` that hands the state back; that keeps the old record
    × (applied_to (tracker_of s1) (answer 0 0 (conf (1 ∷ 2 ∷ []) [] [] []) (add 2 ∷ [])) 77 ≡ leaves (of (old 1 ∷ new 2 ∷ []) (conf (1 ∷ 2 ∷ []) [] [] [])))
    × (applied_to (tracker_of s1) (answer 0 0 s1.conf (add 1 ∷ [])) 77 ≡ leaves (of (new 1 ∷ []) s1.conf))
unfolding applied_to apply_of tracker_well_formed conf_well_formed well_formed zeros all_unused is_unused set_of record_places records_of peers_of log_well_formed all_blank is_blank change_log_of map_changes_of entries_of apply_conf room enrol formed conf_formed log_formed memb above ascending insert_id remove_id ids track untrack
answered = (refl, refl, refl)
