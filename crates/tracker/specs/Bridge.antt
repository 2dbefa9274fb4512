-- The bridge between the structs and the lists of the rules: what a struct holds, and which struct holds given lists. On well-formed
-- values these undo each other (proofs/Bridge.antt). Assumes nothing.
use Rattle.std.specs.Prelude.{ℕ, ◌-◌, List, [], ◌∷◌, ◌++◌, length, take, replicate}
use Rattle.progress.specs.declared.Progress.{Progress}
use Rattle.progress.specs.Record.{unused_record}
use Rattle.rules.specs.State as rules
use Rattle.rules.specs.State.{Conf, Peer, State, ids, Entry, add, remove}
use Rattle.idset.specs.Set.{held, set_of}
use Rattle.idset.specs.declared.IdSet.{IdSet}
use Rattle.tracker.specs.declared.Configuration.{Configuration}
use Rattle.tracker.specs.declared.MapChangeType.{MapChangeType}
use Rattle.tracker.specs.declared.MapChangeType.TheVariants.{Add, Remove}
use Rattle.tracker.specs.declared.MapChange.{MapChange}
use Rattle.tracker.specs.declared.ChangeLog.{ChangeLog}
use Rattle.tracker.specs.declared.Tracker.{Tracker}
use Rattle.tracker.specs.declared.IdList.{IdList}
use Rattle.tracker.specs.declared.ConfState.{ConfState}

-- ** Configurations

abbrev pub conf_of : Configuration → Conf
conf_of c =
    record {
      incoming = held c.incoming;
      outgoing = held c.outgoing;
      learners = held c.learners;
      staged = held c.learners_next;
      auto_leave = c.auto_leave;
    }

abbrev pub configuration_of : Conf → Configuration
configuration_of c =
    record {
      incoming = set_of c.incoming;
      outgoing = set_of c.outgoing;
      learners = set_of c.learners;
      learners_next = set_of c.staged;
      auto_leave = c.auto_leave;
    }

-- ** The state

-- the tracked ids, each with the record at its place
unfoldable pub peers_of : List ℕ → List Progress → List Peer
peers_of [] rs = []
peers_of (x ∷ xs) [] = []
peers_of (x ∷ xs) (r ∷ rs) = record { id = x; progress = r } ∷ peers_of xs rs

unfoldable pub records_of : List Peer → List Progress
records_of [] = []
records_of (p ∷ ps) = p.progress ∷ records_of ps

-- the records of the tracked, and unused ones after them
unfoldable pub record_places : List Peer → List Progress
record_places ps = records_of ps ++ replicate (64 - length ps) unused_record

abbrev pub state_of : Tracker → State
state_of t = record { conf = conf_of t.conf; peers = peers_of (held t.ids) t.records; max_inflight = t.max_inflight }

abbrev pub tracker_of : State → Tracker
tracker_of s = record { conf = configuration_of s.conf; ids = set_of (ids s.peers); records = record_places s.peers; max_inflight = s.max_inflight }

-- ** Logs

abbrev pub entry : MapChangeType → ℕ → Entry
entry Add x = add x
entry Remove x = remove x

abbrev pub entry_of : MapChange → Entry
entry_of e = entry e.kind e.id

abbrev pub map_change_of : Entry → MapChange
map_change_of (add x) = record { id = x; kind = Add }
map_change_of (remove x) = record { id = x; kind = Remove }

unfoldable pub entries_of : List MapChange → List Entry
entries_of [] = []
entries_of (e ∷ es) = entry_of e ∷ entries_of es

unfoldable pub map_changes_of : List Entry → List MapChange
map_changes_of [] = []
map_changes_of (e ∷ es) = map_change_of e ∷ map_changes_of es

-- what an unused place holds
abbrev pub blank : MapChange
blank = record { id = 0; kind = Add }

abbrev pub log_of : ChangeLog → List Entry
log_of l = entries_of (take l.count l.entries)

unfoldable pub change_log_of : List Entry → ChangeLog
change_log_of es = record { entries = map_changes_of es ++ replicate (256 - length es) blank; count = length es }

-- ** ConfStates

-- the entries of a list
abbrev pub entries_in : IdList → List ℕ
entries_in l = take l.len l.ids

-- a set as a list: the same places, the same count
abbrev pub list_in : IdSet → IdList
list_in s = record { ids = s.ids; len = s.len }

abbrev pub lists_of : ConfState → rules.ConfState
lists_of c =
    record {
      voters = entries_in c.voters;
      learners = entries_in c.learners;
      voters_outgoing = entries_in c.voters_outgoing;
      learners_next = entries_in c.learners_next;
      auto_leave = c.auto_leave;
    }

abbrev pub conf_state_of : rules.ConfState → ConfState
conf_state_of c =
    record {
      voters = list_in (set_of c.voters);
      learners = list_in (set_of c.learners);
      voters_outgoing = list_in (set_of c.voters_outgoing);
      learners_next = list_in (set_of c.learners_next);
      auto_leave = c.auto_leave;
    }
