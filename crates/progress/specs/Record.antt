-- The record of a box: document 01, "The state and its numbers". Assumes nothing.
use Rattle.std.specs.Prelude.{ℕ, Bool, true, false, ◌&&◌, not, eqb}
use Rattle.progress.specs.declared.Progress.{Progress}
use Rattle.progress.specs.declared.ProgressState.{ProgressState}
use Rattle.progress.specs.declared.ProgressState.TheVariants.{Probe, Replicate, Snapshot}

-- "A fresh record: `matched` 0, the given `next_idx`, the state's `max_inflight` (all a record has in place of `ins`, its other
-- fields being `Progress`'s), `recent_active` true, the other numbers 0, not paused." "A fresh record's state is `ProgressState`'s
-- default", which is Probe.
abbrev pub fresh_record : ℕ → ℕ → Progress
fresh_record next inflight =
    record {
      matched = 0;
      next_idx = next;
      state = Probe;
      paused = false;
      pending_snapshot = 0;
      pending_request_snapshot = 0;
      recent_active = true;
      max_inflight = inflight;
      commit_group_id = 0;
      committed_index = 0;
    }

-- "unused records the default state, zeros and false"
abbrev pub unused_record : Progress
unused_record =
    record {
      matched = 0;
      next_idx = 0;
      state = Probe;
      paused = false;
      pending_snapshot = 0;
      pending_request_snapshot = 0;
      recent_active = false;
      max_inflight = 0;
      commit_group_id = 0;
      committed_index = 0;
    }

-- the state is the default
abbrev pub is_probe : ProgressState → Bool
is_probe Probe = true
is_probe Replicate = false
is_probe Snapshot = false

-- the test for `unused_record`, field by field
unfoldable pub is_unused : Progress → Bool
is_unused p =
    not p.paused
    && not p.recent_active
    && eqb p.matched 0
    && eqb p.next_idx 0
    && eqb p.pending_snapshot 0
    && eqb p.pending_request_snapshot 0
    && eqb p.max_inflight 0
    && eqb p.commit_group_id 0
    && eqb p.committed_index 0
    && is_probe p.state
