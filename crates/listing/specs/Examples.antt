-- Document 01's own listing, and the definitions on small scripts and sessions. Above each line stands what it rules out: a program that would
-- give another value there. Assumes nothing.
use Rattle.std.specs.Prelude.{ℕ, ◌≡◌, refl, true, false, List, [], ◌∷◌, ◌++◌, set, replicate}
use Rattle.progress.specs.Record.{is_unused}
use Rattle.rules.specs.Ids.{memb, above, ascending, insert_id, insert_all, remove_id, minus}
use Rattle.rules.specs.State.{State, ids, conf_formed, formed, add, remove, log_formed}
use Rattle.rules.specs.Answers.{each as each_test}
use Rattle.rules.specs.Check.{check}
use Rattle.rules.specs.Table.{table, standing_in}
use Rattle.rules.specs.Changes.{last_says, pending, change, changes}
use Rattle.rules.specs.Calls.{list_of, readable, simple_of, simple, enter_of, enter_joint, removals, leave_of, leave_joint}
use Rattle.rules.specs.Apply.{track, untrack, room, enrol, apply_conf}
use Rattle.rules.specs.Rows.{new, conf, of}
use Rattle.rules.specs.Cases.{s0}
use Rattle.idset.specs.Places.{zeros}
use Rattle.idset.specs.Set.{set_of, well_formed}
use Rattle.tracker.specs.Bridge.{configuration_of, peers_of, records_of, record_places, entries_of, map_changes_of, change_log_of}
use Rattle.tracker.specs.Form.{conf_well_formed, all_unused, tracker_well_formed, is_blank, all_blank, log_well_formed}
use Rattle.tracker.specs.Apply.{apply_of}
use Rattle.changer.specs.Calls.{Answer, simple_answer, enter_answer}
use Rattle.restore.specs.Restore.{applied_to}
use Rattle.text.specs.Text.{digits, decimal, each, words, group, ascii}
use Rattle.listing.specs.Script as script
use Rattle.listing.specs.Script.{number, stops, answer_to, after}
use Rattle.listing.specs.Lines.{labelled, conf_text, entry_text, entries_text, log_text, ok_line, refused_line, stopped_line}
use Rattle.listing.specs.Listing.{shown, ending, lines, listing, replay_answer, replay_leaves}
use Rattle.listing.specs.Sessions.{session_of, begin_in, pend_in, answer_in, applied_in, after_in, answer_text, shown_in}
use Rattle.listing.specs.declared.Session.{Session}

-- a record whose number is below 256
abbrev rec : ℕ → ℕ → List ℕ
rec kind n = kind ∷ n ∷ 0 ∷ 0 ∷ 0 ∷ 0 ∷ 0 ∷ 0 ∷ 0 ∷ []

abbrev all : List (List ℕ) → List ℕ
all [] = []
all (r ∷ rs) = r ++ all rs

-- "Input: add 1, simple 10, add 2, add 3, simple 11, add 2, add 3, enter-auto 12, leave 13."
abbrev input : List ℕ
input = all (rec 0 1 ∷ rec 3 10 ∷ rec 0 2 ∷ rec 0 3 ∷ rec 3 11 ∷ rec 0 2 ∷ rec 0 3 ∷ rec 5 12 ∷ rec 6 13 ∷ [])

-- A replay that is correct only for its first call goes wrong from the second line on; one that applies no accepted answer has 15 at the third.
pub paper : listing input ≡ ascii "1 ok voters=(1) log=(+1)\n2 refused 18 id 0\n3 ok voters=(1 2 3)&&(1) autoleave log=(+2 +3)\n4 ok voters=(1 2 3) log=()\n"
unfolding listing lines stops shown ending answer_to after number labelled conf_text entry_text entries_text log_text ok_line refused_line stopped_line simple enter_joint leave_joint readable list_of simple_of enter_of leave_of check each_test changes change table standing_in last_says pending removals apply_conf room enrol formed conf_formed log_formed memb above ascending insert_id insert_all remove_id minus ids track untrack group words each decimal digits
paper = refl

pub ways_to_stop :
    -- something printed for an empty script
    (listing [] ≡ [])
    -- an unknown kind passed over; K past the record
    × (listing (rec 7 1) ≡ ascii "stopped at byte 0\n")
    -- a short record passed over; K the length
    × (listing (rec 0 1 ++ (3 ∷ 0 ∷ [])) ≡ ascii "stopped at byte 9\n")
    -- a leave asked with changes pending
    × (listing (rec 0 1 ++ rec 6 2) ≡ ascii "stopped at byte 9\n")
    -- nothing printed where changes are pending at the end
    × (listing (rec 0 1) ≡ ascii "stopped at byte 9\n")
unfolding listing lines stops shown ending answer_to after number labelled conf_text entry_text entries_text log_text ok_line refused_line stopped_line simple enter_joint leave_joint readable list_of simple_of enter_of leave_of check each_test changes change table standing_in last_says pending removals apply_conf room enrol formed conf_formed log_formed memb above ascending insert_id insert_all remove_id minus ids track untrack group words each decimal digits
ways_to_stop = (refl, refl, refl, refl, refl)

pub replied :
    -- `dimecandle_replay` with a length that is not what was written; that refuses an exact fit
    (replay_answer (rec 7 1) 18 ≡ 18)
    -- that gives the length where the listing does not fit
    × (replay_answer (rec 7 1) 17 ≡ 4294967316)
    -- that clears the bytes after the listing
    × (replay_leaves (rec 7 1) (replicate 20 1) ≡ ascii "stopped at byte 0\n" ++ (1 ∷ 1 ∷ []))
    -- that writes as much as fits
    × (replay_leaves (rec 7 1) (1 ∷ []) ≡ 1 ∷ [])
unfolding replay_answer replay_leaves listing lines stops number stopped_line decimal digits
replied = (refl, refl, refl, refl)

-- ** Sessions

-- a list of n changes pending, add 1 being the first
abbrev holding : ℕ → Session
holding n = record { tracker = begin_in.tracker; ids = set (replicate 256 0) 0 1; kinds = replicate 256 0; len = n; printed = 0 }

pub sessions :
    -- `begin` with another `max_inflight`; with a list or a line counted
    (begin_in.tracker.max_inflight ≡ 256)
    × (begin_in.len ≡ 0)
    × (begin_in.printed ≡ 0)
    -- `stops` that lets a 257th change in; that refuses the 256th; that does not let 256 be run
    × (stops (session_of (holding 256)) 0 ≡ true)
    × (stops (session_of (holding 255)) 0 ≡ false)
    × (stops (session_of (holding 256)) 3 ≡ false)
    -- `stops` that takes kind 7; that asks for a leave with a change pending; that stops at any leave
    × (stops (session_of begin_in) 7 ≡ true)
    × (stops (session_of (holding 1)) 6 ≡ true)
    × (stops (session_of begin_in) 6 ≡ false)
unfolding stops
sessions = (refl, refl, refl, refl, refl, refl, refl, refl, refl)

-- a session with nothing pending
abbrev settled : State → ℕ → script.Session
settled s k = record { state = s; ids = []; kinds = []; printed = k }

pub turned :
    -- `turn` that prints a line for a change
    (shown_in begin_in 0 ≡ [])
    -- that drops the kind, or runs a change at once
    × (session_of (after_in begin_in 2 7) ≡ record { state = s0; ids = 7 ∷ []; kinds = 2 ∷ []; printed = 0 })
    -- that keeps the pending list; that does not apply an accepted answer; that does not count the line
    × (session_of (after_in (holding 1) 3 77) ≡ settled (of (new 1 ∷ []) (conf (1 ∷ []) [] [] [])) 1)
    × (shown_in (holding 1) 3 ≡ ascii "1 ok voters=(1) log=(+1)\n")
    -- that keeps the pending list, or does not count the line, where the answer is a refusal
    × (session_of (after_in (holding 1) 4 77) ≡ settled s0 1)
    × (shown_in (holding 1) 4 ≡ ascii "1 refused 15 id 0\n")
unfolding after_in shown_in pend_in answer_in applied_in answer_text applied_to apply_of simple_answer enter_answer tracker_well_formed conf_well_formed well_formed zeros all_unused is_unused set_of record_places records_of peers_of log_well_formed all_blank is_blank change_log_of map_changes_of entries_of listing lines stops shown ending answer_to after number labelled conf_text entry_text entries_text log_text ok_line refused_line stopped_line simple enter_joint leave_joint readable list_of simple_of enter_of leave_of check each_test changes change table standing_in last_says pending removals apply_conf room enrol formed conf_formed log_formed memb above ascending insert_id insert_all remove_id minus ids track untrack group words each decimal digits
turned = (refl, refl, refl, refl, refl, refl)

-- ** Texts and numbers

-- (1)&&(1 2), learners (5 6), staged (2), the flag, and a log
abbrev full : Answer
full =
    record {
      number = 0;
      id = 0;
      conf = configuration_of (record { incoming = 1 ∷ []; outgoing = 1 ∷ 2 ∷ []; learners = 5 ∷ 6 ∷ []; staged = 2 ∷ []; auto_leave = true });
      log = change_log_of (remove 5 ∷ add 2 ∷ []);
      idle = 1;
    }

pub texts :
    -- `put_answer` with a Remove as `+`; with learners_next before learners
    (answer_text 3 full ≡ ascii "3 ok voters=(1)&&(1 2) learners=(5 6) learners_next=(2) autoleave log=(-5 +2)\n")
    -- `put_stopped` with K in records; without a newline
    × (stopped_line 9 ≡ ascii "stopped at byte 9\n")
    -- `put_ending` with K the length for a short record
    × (ending 9 11 (session_of begin_in) ≡ ascii "stopped at byte 9\n")
    -- `put_ending` with nothing where changes are pending; with a line where none are
    × (ending 9 9 (session_of (holding 1)) ≡ ascii "stopped at byte 9\n") × (ending 9 9 (session_of begin_in) ≡ [])
unfolding answer_text ok_line conf_text labelled log_text entries_text entry_text stopped_line ending set_of change_log_of map_changes_of entries_of group words each decimal digits
texts = (refl, refl, refl, refl, refl)

pub numbers :
    -- `number_at` with the most significant byte first
    (number 8 (1 ∷ 2 ∷ 0 ∷ 0 ∷ 0 ∷ 0 ∷ 0 ∷ 0 ∷ []) 0 ≡ 513)
    -- of 7 bytes; of 9
    × (number 8 (0 ∷ 0 ∷ 0 ∷ 0 ∷ 0 ∷ 0 ∷ 0 ∷ 1 ∷ 1 ∷ []) 0 ≡ 72057594037927936)
    -- from the slice's beginning on
    × (number 8 (7 ∷ 1 ∷ []) 1 ≡ 1)
unfolding number
numbers = (refl, refl, refl)
