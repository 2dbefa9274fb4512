-- The test for the record of an unused place tells it. Assumes nothing.
use Prim.Native.Nat.{ℕ}
use mathlib.Core.Path.{◌≡◌, refl}
use mathlib.Core.Bool.{Bool, true, ◌&&◌, not, false≢true}
use borrow.Author.Tests.{eqb-true, not-true}
use lib.Dec.{eqb}
use Rattle.std.proofs.lemmas.Bool.{and_parts}
use Rattle.progress.specs.Record.{unused_record, is_probe, is_unused}
use Rattle.progress.specs.declared.Progress.{Progress}
use Rattle.progress.specs.declared.ProgressState.{ProgressState}
use Rattle.progress.specs.declared.ProgressState.TheVariants.{Probe, Replicate, Snapshot}

zero_too : (a : Bool) (n : ℕ) → a && eqb n 0 ≡ true → (a ≡ true) × (n ≡ 0)
zero_too a n h = ((and_parts a (eqb n 0) h).0, eqb-true n 0 (and_parts a (eqb n 0) h).1)

probe_is : (s : ProgressState) → is_probe s ≡ true → s ≡ Probe
probe_is Probe h = refl
probe_is Replicate h = absurd (false≢true h)
probe_is Snapshot h = absurd (false≢true h)

pub unused_is : (p : Progress) → is_unused p ≡ true → p ≡ unused_record
unfolding is_unused
unused_is p h =
    let state = and_parts _ (is_probe p.state) h in
    let committed = zero_too _ p.committed_index state.0 in
    let group = zero_too _ p.commit_group_id committed.0 in
    let inflight = zero_too _ p.max_inflight group.0 in
    let request = zero_too _ p.pending_request_snapshot inflight.0 in
    let snapshot = zero_too _ p.pending_snapshot request.0 in
    let next = zero_too _ p.next_idx snapshot.0 in
    let matched = zero_too _ p.matched next.0 in
    let flags = and_parts _ (not p.recent_active) matched.0 in
    λ i. record {
      matched = matched.1 i;
      next_idx = next.1 i;
      state = probe_is p.state state.1 i;
      paused = not-true p.paused flags.0 i;
      pending_snapshot = snapshot.1 i;
      pending_request_snapshot = request.1 i;
      recent_active = not-true p.recent_active flags.1 i;
      max_inflight = inflight.1 i;
      commit_group_id = group.1 i;
      committed_index = committed.1 i;
    }

pub is_unused_lem : is_unused unused_record ≡ true
unfolding is_unused
is_unused_lem = refl
