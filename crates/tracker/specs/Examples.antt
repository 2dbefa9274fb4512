-- The definitions tried on small states, malformed ones among them. Above each line stands what it rules out: a program that would give another
-- value there. Assumes nothing.
use Rattle.std.specs.Prelude.{ℕ, ◌≡◌, refl, true, false, [], ◌∷◌, set, replicate}
use Rattle.progress.specs.Record.{fresh_record, unused_record, is_probe, is_unused}
use Rattle.progress.specs.declared.Progress.{Progress}
use Rattle.progress.specs.declared.ProgressState.{ProgressState}
use Rattle.progress.specs.declared.ProgressState.TheVariants.{Probe, Replicate, Snapshot}
use Rattle.rules.specs.Ids.{memb, above, ascending, insert_id, remove_id}
use Rattle.rules.specs.State.{State, ids, conf_formed, formed, no_conf, fresh, add, remove, log_formed}
use Rattle.rules.specs.Apply.{track, untrack, room, enrol, apply_conf, no_conf_state, to_conf_state}
use Rattle.idset.specs.Places.{zeros}
use Rattle.idset.specs.Set.{set_of, well_formed}
use Rattle.tracker.specs.Bridge.{configuration_of, peers_of, records_of, record_places, tracker_of, entries_of, map_changes_of, change_log_of, conf_state_of}
use Rattle.tracker.specs.Form.{conf_well_formed, all_unused, tracker_well_formed, is_blank, all_blank, log_well_formed}
use Rattle.tracker.specs.Apply.{refused_of, apply_of}
use Rattle.tracker.specs.ConfStates.{written_of}
use Rattle.tracker.specs.declared.Tracker.{Tracker}
use Rattle.tracker.specs.declared.ChangeLog.{ChangeLog}
use Rattle.tracker.specs.declared.MapChange.{MapChange}
use Rattle.tracker.specs.declared.MapChangeType.{MapChangeType}
use Rattle.tracker.specs.declared.MapChangeType.TheVariants.{Add, Remove}

-- voters (1) with a record of its own; after an Add of 1 its record is fresh
abbrev old : State
old = record { conf = record { incoming = 1 ∷ []; outgoing = []; learners = []; staged = []; auto_leave = false }; peers = record { id = 1; progress = fresh_record 10 8 } ∷ []; max_inflight = 9 }

abbrev renewed : State
renewed = record { conf = no_conf; peers = record { id = 1; progress = fresh_record 77 9 } ∷ []; max_inflight = 9 }

-- incoming (1), outgoing (2), learners (3), staged (4), and the flag
abbrev four : State
four = record { conf = record { incoming = 1 ∷ []; outgoing = 2 ∷ []; learners = 3 ∷ []; staged = 4 ∷ []; auto_leave = true }; peers = []; max_inflight = 9 }

-- the fresh state with a record in an unused place, and with a set that does not ascend
abbrev used : Tracker
used = record { conf = configuration_of no_conf; ids = set_of []; records = set (record_places []) 63 (fresh_record 0 0); max_inflight = 9 }

abbrev down : Tracker
down = record { conf = configuration_of (record { incoming = []; outgoing = []; learners = 2 ∷ 1 ∷ []; staged = []; auto_leave = false }); ids = set_of []; records = record_places []; max_inflight = 9 }

-- a count over 256; an unused place other than Add of 0
abbrev long : ChangeLog
long = record { entries = (change_log_of []).entries; count = 257 }

abbrev short : ChangeLog
short = record { entries = (change_log_of (remove 0 ∷ [])).entries; count = 0 }

abbrev change : ℕ → MapChangeType → MapChange
change x k = record { id = x; kind = k }

-- the unused record, but for its state
abbrev in_state : ProgressState → Progress
in_state st =
    record {
      matched = 0;
      next_idx = 0;
      state = st;
      paused = false;
      pending_snapshot = 0;
      pending_request_snapshot = 0;
      recent_active = false;
      max_inflight = 0;
      commit_group_id = 0;
      committed_index = 0;
    }

pub made :
    -- `Configuration::new` with the flag set; with a count left in incoming
    ((configuration_of no_conf).auto_leave ≡ false)
    × ((configuration_of no_conf).incoming.len ≡ 0)
    -- `ChangeLog::new` with an entry counted; with an unused place that is no Add of 0
    × ((change_log_of []).count ≡ 0)
    × ((change_log_of []).entries ≡ replicate 256 (change 0 Add))
    -- `ConfState::new` with the flag set; with a list of 64 zeros
    × ((conf_state_of no_conf_state).auto_leave ≡ false)
    × ((conf_state_of no_conf_state).voters.len ≡ 0)
    -- `Tracker::new` with another `max_inflight`; with a fresh record in an unused place
    × ((tracker_of (fresh 9)).max_inflight ≡ 9)
    × ((tracker_of (fresh 9)).records ≡ replicate 64 unused_record)
unfolding set_of change_log_of map_changes_of record_places records_of
made = (refl, refl, refl, refl, refl, refl, refl, refl)

-- The records of crate progress.
pub unused_or_not :
    -- `is_default` that takes Replicate; Snapshot; one that is always no
    (is_probe Replicate ≡ false)
    × (is_probe Snapshot ≡ false)
    × (is_probe Probe ≡ true)
    -- `unused` in a state of its own
    × (unused_record.state ≡ Probe)
    -- `is_unused` that is always no; that takes a fresh record; that does not look at the state
    × (is_unused unused_record ≡ true)
    × (is_unused (fresh_record 0 0) ≡ false)
    × (is_unused (in_state Snapshot) ≡ false)
unfolding is_unused
unused_or_not = (refl, refl, refl, refl, refl, refl, refl)

pub well_formed_or_not :
    -- `Tracker::is_malformed` that is always yes
    (tracker_well_formed (tracker_of (fresh 9)) ≡ true)
    × (tracker_well_formed (tracker_of old) ≡ true)
    -- that does not look at unused records; at the configuration
    × (tracker_well_formed used ≡ false)
    × (tracker_well_formed down ≡ false)
    -- `Configuration::is_malformed` that looks at the voters only; that does not look at the staged ids
    × (conf_well_formed down.conf ≡ false)
    × (conf_well_formed (configuration_of (record { incoming = []; outgoing = []; learners = []; staged = 2 ∷ 1 ∷ []; auto_leave = false })) ≡ false)
    -- `ChangeLog::is_malformed` that is always yes; that lets a count of 257 in; that does not look at unused places
    × (log_well_formed (change_log_of (add 1 ∷ [])) ≡ true)
    × (log_well_formed long ≡ false)
    × (log_well_formed short ≡ false)
    -- `MapChange::is_blank` that looks at the id only; at the kind only
    × (is_blank (change 0 Remove) ≡ false)
    × (is_blank (change 1 Add) ≡ false)
unfolding tracker_well_formed conf_well_formed well_formed ascending above zeros all_unused is_unused set_of record_places records_of ids log_well_formed all_blank is_blank change_log_of map_changes_of
well_formed_or_not = (refl, refl, refl, refl, refl, refl, refl, refl, refl, refl, refl)

-- What `apply_conf` answers, and the state that it leaves in the tracker that it is lent.
pub applied :
    -- an Add that keeps the old record; `apply_conf` that stores only the configuration
    (apply_of (tracker_of old) (configuration_of no_conf) (change_log_of (add 1 ∷ remove 5 ∷ [])) 77 ≡ record { number = 0; id = 0; tracker = tracker_of renewed })
    -- a malformed state, configuration or log let in; the configuration set all the same
    × (apply_of used (configuration_of no_conf) (change_log_of []) 77 ≡ refused_of used 1 0)
    × (apply_of (tracker_of old) down.conf (change_log_of []) 77 ≡ refused_of (tracker_of old) 1 0)
    × (apply_of (tracker_of old) (configuration_of no_conf) long 77 ≡ refused_of (tracker_of old) 1 0)
    -- a refusal that drops the id; that gives a fresh state
    × ((refused_of (tracker_of old) 16 65).id ≡ 65)
    × ((refused_of (tracker_of old) 16 65).tracker.conf.incoming.len ≡ 1)
unfolding apply_of tracker_well_formed conf_well_formed well_formed ascending above zeros all_unused is_unused set_of record_places records_of peers_of ids log_well_formed all_blank is_blank change_log_of map_changes_of entries_of apply_conf formed conf_formed log_formed room enrol track untrack memb insert_id remove_id
applied = (refl, refl, refl, refl, refl, refl)

pub written :
    -- learners and outgoing exchanged; the flag dropped
    (written_of (tracker_of four) ≡ record { number = 0; id = 0; conf_state = conf_state_of (record { voters = 1 ∷ []; learners = 3 ∷ []; voters_outgoing = 2 ∷ []; learners_next = 4 ∷ []; auto_leave = true }) })
    -- the lists of a malformed state
    × (written_of down ≡ record { number = 1; id = 0; conf_state = conf_state_of no_conf_state })
unfolding written_of to_conf_state tracker_well_formed conf_well_formed well_formed ascending above zeros all_unused is_unused set_of record_places records_of peers_of ids formed conf_formed
written = (refl, refl)
