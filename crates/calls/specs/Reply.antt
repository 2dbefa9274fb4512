-- The layout of a reply: docs/EMBEDDING.md. What the structs hold, as bytes. Assumes nothing.
use Rattle.std.specs.Prelude.{ℕ, zero, suc, ◌/◌, ◌%◌, Bool, cond, List, [], ◌∷◌, ◌++◌}
use Rattle.progress.specs.declared.Progress.{Progress}
use Rattle.progress.specs.declared.ProgressState.{ProgressState}
use Rattle.progress.specs.declared.ProgressState.TheVariants.{Probe, Replicate, Snapshot}
use Rattle.idset.specs.declared.IdSet.{IdSet}
use Rattle.tracker.specs.declared.Configuration.{Configuration}
use Rattle.tracker.specs.declared.MapChangeType.{MapChangeType}
use Rattle.tracker.specs.declared.MapChangeType.TheVariants.{Add, Remove}
use Rattle.tracker.specs.declared.MapChange.{MapChange}
use Rattle.tracker.specs.declared.ChangeLog.{ChangeLog}
use Rattle.tracker.specs.declared.Tracker.{Tracker}
use Rattle.tracker.specs.declared.IdList.{IdList}
use Rattle.tracker.specs.declared.ConfState.{ConfState}

-- the k bytes of a number, the least significant first
unfoldable pub bytes : ℕ → ℕ → List ℕ
bytes zero n = []
bytes (suc k) n = n % 256 ∷ bytes k (n / 256)

-- a word
unfoldable pub word_bytes : ℕ → List ℕ
word_bytes n = bytes 8 n

-- words one after the other
unfoldable pub all_bytes : List ℕ → List ℕ
all_bytes [] = []
all_bytes (w ∷ ws) = word_bytes w ++ all_bytes ws

abbrev pub flag_word : Bool → ℕ
flag_word b = cond b 1 0

abbrev pub set_words : IdSet → List ℕ
set_words s = s.ids ++ (s.len ∷ [])

abbrev pub list_words : IdList → List ℕ
list_words l = l.ids ++ (l.len ∷ [])

unfoldable pub conf_words : Configuration → List ℕ
conf_words c =
    set_words c.incoming ++ (set_words c.outgoing ++ (set_words c.learners ++ (set_words c.learners_next ++ (flag_word c.auto_leave ∷ []))))

abbrev pub state_word : ProgressState → ℕ
state_word Probe = 0
state_word Replicate = 1
state_word Snapshot = 2

unfoldable pub record_words : Progress → List ℕ
record_words p =
    p.matched ∷ p.next_idx ∷ state_word p.state ∷ flag_word p.paused ∷ p.pending_snapshot ∷ p.pending_request_snapshot ∷ flag_word p.recent_active
    ∷ p.max_inflight ∷ p.commit_group_id ∷ p.committed_index ∷ []

unfoldable pub records_words : List Progress → List ℕ
records_words [] = []
records_words (p ∷ ps) = record_words p ++ records_words ps

unfoldable pub state_words : Tracker → List ℕ
state_words t = conf_words t.conf ++ (set_words t.ids ++ (records_words t.records ++ (t.max_inflight ∷ [])))

abbrev pub kind_word : MapChangeType → ℕ
kind_word Add = 0
kind_word Remove = 1

unfoldable pub entries_words : List MapChange → List ℕ
entries_words [] = []
entries_words (e ∷ es) = e.id ∷ kind_word e.kind ∷ entries_words es

unfoldable pub log_words : ChangeLog → List ℕ
log_words l = entries_words l.entries ++ (l.count ∷ [])

unfoldable pub conf_state_words : ConfState → List ℕ
conf_state_words c =
    list_words c.voters ++ (list_words c.learners ++ (list_words c.voters_outgoing ++ (list_words c.learners_next ++ (flag_word c.auto_leave ∷ []))))
