-- The layout of a request: docs/EMBEDDING.md. Little-endian words of 8 bytes at fixed places; what stands there is read into the structs. The blocks of
-- a STATE are those of crates/unplug/specs/Words.antt, read off these words. Assumes nothing.
use Rattle.std.specs.Prelude.{ℕ, zero, suc, ◌+◌, ◌*◌, ◌%◌, Bool, ◌&&◌, cond, List, [], ◌∷◌, eqb, leb, get_or}
use Rattle.progress.specs.declared.Progress.{Progress}
use Rattle.idset.specs.declared.IdSet.{IdSet}
use Rattle.tracker.specs.declared.Configuration.{Configuration}
use Rattle.tracker.specs.declared.MapChangeType.{MapChangeType}
use Rattle.tracker.specs.declared.MapChangeType.TheVariants.{Add, Remove}
use Rattle.tracker.specs.declared.MapChange.{MapChange}
use Rattle.tracker.specs.declared.ChangeLog.{ChangeLog}
use Rattle.tracker.specs.declared.Tracker.{Tracker}
use Rattle.tracker.specs.declared.IdList.{IdList}
use Rattle.tracker.specs.declared.ConfState.{ConfState}
use Rattle.unplug.specs.Words.{conf_by, conf_holds_by, flag, record_by, records_by, set_by, state_by, state_holds_by, within_by, words_by}
use Rattle.calls.specs.declared.read.ChangeList.{ChangeList}

-- ** Words

-- the k bytes from `at` on as a number, the least significant first
unfoldable pub number : ℕ → List ℕ → ℕ → ℕ
number zero s at = 0
number (suc k) s at = get_or s at 0 + 256 * number k s (at + 1)

-- word k of bytes
abbrev pub word : List ℕ → ℕ → ℕ
word s k = number 8 s (8 * k)

-- n words from k on
abbrev pub words : ℕ → List ℕ → ℕ → List ℕ
words n s k = words_by n (word s) k

-- ** Which words a field can hold

abbrev pub is_flag : ℕ → Bool
is_flag w = leb w 1

-- ** Blocks

-- SET: 64 ids, then the count
abbrev pub set_at : List ℕ → ℕ → IdSet
set_at s k = set_by (word s) k

abbrev pub list_at : List ℕ → ℕ → IdList
list_at s k = record { ids = words 64 s k; len = word s (k + 64) }

-- CONF: four SETs and the flag
abbrev pub conf_at : List ℕ → ℕ → Configuration
conf_at s k = conf_by (word s) k

-- RECORD
abbrev pub record_at : List ℕ → ℕ → Progress
record_at s k = record_by (word s) k

abbrev pub records_at : ℕ → List ℕ → ℕ → List Progress
records_at n s k = records_by n (word s) k

-- STATE: CONF, tracked ids, 64 RECORDs, max_inflight
abbrev pub state_at : List ℕ → ℕ → Tracker
state_at s k = state_by (word s) k

abbrev pub kind_named : ℕ → MapChangeType
kind_named w = cond (eqb w 0) Add Remove

unfoldable pub entries_at : ℕ → List ℕ → ℕ → List MapChange
entries_at zero s k = []
entries_at (suc n) s k = record { id = word s k; kind = kind_named (word s (k + 1)) } ∷ entries_at n s (k + 2)

-- LOG: 256 entries, then the count
abbrev pub log_at : List ℕ → ℕ → ChangeLog
log_at s k = record { entries = entries_at 256 s k; count = word s (k + 512) }

-- CONFSTATE: four lists and the flag
abbrev pub conf_state_at : List ℕ → ℕ → ConfState
conf_state_at s k =
    record {
      voters = list_at s k;
      learners = list_at s (k + 65);
      voters_outgoing = list_at s (k + 130);
      learners_next = list_at s (k + 195);
      auto_leave = flag (word s (k + 260));
    }

-- kinds of a LIST: one that is over 255 is refused before it is used
unfoldable pub kinds_at : ℕ → List ℕ → ℕ → List ℕ
kinds_at zero s k = []
kinds_at (suc n) s k = word s k % 256 ∷ kinds_at n s (k + 1)

-- LIST: 260 ids, their count, 260 kinds, their count
abbrev pub change_list_at : List ℕ → ℕ → ChangeList
change_list_at s k = record { ids = words 260 s k; ids_len = word s (k + 260); kinds = kinds_at 260 s (k + 261); kinds_len = word s (k + 521) }

-- ** A word that no field can hold

-- n words from k on, `step` apart, are at most m
abbrev pub within : ℕ → ℕ → ℕ → List ℕ → ℕ → Bool
within n m step s k = within_by n m step (word s) k

abbrev pub conf_holds : List ℕ → ℕ → Bool
conf_holds s k = conf_holds_by (word s) k

abbrev pub state_holds : List ℕ → ℕ → Bool
state_holds s k = state_holds_by (word s) k

-- LIST: both counts at most 260, each kind at most 255
abbrev pub list_holds : List ℕ → ℕ → Bool
list_holds s k = within 1 260 1 s (k + 260) && within 260 255 1 s (k + 261) && within 1 260 1 s (k + 521)

-- LOG: each kind 0 or 1
abbrev pub log_holds : List ℕ → ℕ → Bool
log_holds s k = within 256 1 2 s (k + 1)

-- the whole request
unfoldable pub holds : List ℕ → Bool
holds s = state_holds s 1 && within 1 1 1 s 968 && list_holds s 970 && conf_holds s 1492 && log_holds s 1753 && conf_holds s 2266
