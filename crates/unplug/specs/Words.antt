-- A STATE in words: docs/EMBEDDING.md. Each block takes a reader, which gives word k, so that it is the same off words and off the bytes of a request
-- (crates/calls/specs/Layout.antt). Assumes nothing.
use Rattle.std.specs.Prelude.{ℕ, zero, suc, ◌+◌, Bool, true, ◌&&◌, cond, List, [], ◌∷◌, eqb, leb, get_or}
use Rattle.progress.specs.declared.Progress.{Progress}
use Rattle.progress.specs.declared.ProgressState.{ProgressState}
use Rattle.progress.specs.declared.ProgressState.TheVariants.{Probe, Replicate, Snapshot}
use Rattle.idset.specs.declared.IdSet.{IdSet}
use Rattle.tracker.specs.declared.Configuration.{Configuration}
use Rattle.tracker.specs.declared.Tracker.{Tracker}

-- ** Words

-- word k of words; one that is not there counts as 0
abbrev pub at : List ℕ → ℕ → ℕ
at ws k = get_or ws k 0

-- n words from k on
unfoldable pub words_by : ℕ → (ℕ → ℕ) → ℕ → List ℕ
words_by zero w k = []
words_by (suc n) w k = w k ∷ words_by n w (k + 1)

-- ** Blocks

abbrev pub flag : ℕ → Bool
flag w = eqb w 1

-- SET: 64 ids, then the count
abbrev pub set_by : (ℕ → ℕ) → ℕ → IdSet
set_by w k = record { ids = words_by 64 w k; len = w (k + 64) }

-- CONF: four SETs and the flag
abbrev pub conf_by : (ℕ → ℕ) → ℕ → Configuration
conf_by w k =
    record {
      incoming = set_by w k;
      outgoing = set_by w (k + 65);
      learners = set_by w (k + 130);
      learners_next = set_by w (k + 195);
      auto_leave = flag (w (k + 260));
    }

abbrev pub state_named : ℕ → ProgressState
state_named w = cond (eqb w 0) Probe (cond (eqb w 1) Replicate Snapshot)

-- RECORD
abbrev pub record_by : (ℕ → ℕ) → ℕ → Progress
record_by w k =
    record {
      matched = w k;
      next_idx = w (k + 1);
      state = state_named (w (k + 2));
      paused = flag (w (k + 3));
      pending_snapshot = w (k + 4);
      pending_request_snapshot = w (k + 5);
      recent_active = flag (w (k + 6));
      max_inflight = w (k + 7);
      commit_group_id = w (k + 8);
      committed_index = w (k + 9);
    }

unfoldable pub records_by : ℕ → (ℕ → ℕ) → ℕ → List Progress
records_by zero w k = []
records_by (suc n) w k = record_by w k ∷ records_by n w (k + 10)

-- STATE: CONF, tracked ids, 64 RECORDs, max_inflight
abbrev pub state_by : (ℕ → ℕ) → ℕ → Tracker
state_by w k = record { conf = conf_by w k; ids = set_by w (k + 261); records = records_by 64 w (k + 326); max_inflight = w (k + 966) }

-- ** A word that no field can hold

-- n words from k on, `step` apart, are at most m
unfoldable pub within_by : ℕ → ℕ → ℕ → (ℕ → ℕ) → ℕ → Bool
within_by zero m step w k = true
within_by (suc n) m step w k = leb (w k) m && within_by n m step w (k + step)

abbrev pub conf_holds_by : (ℕ → ℕ) → ℕ → Bool
conf_holds_by w k = within_by 1 1 1 w (k + 260)

-- of each of 64 records: the state at most 2, paused and recent_active flags
abbrev pub records_hold_by : (ℕ → ℕ) → ℕ → Bool
records_hold_by w k = within_by 64 2 10 w (k + 2) && within_by 64 1 10 w (k + 3) && within_by 64 1 10 w (k + 6)

abbrev pub state_holds_by : (ℕ → ℕ) → ℕ → Bool
state_holds_by w k = conf_holds_by w k && records_hold_by w (k + 326)
