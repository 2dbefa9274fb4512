-- STATE and LOG: a block whose words are those of a value is read as that value. Assumes nothing.
use Prim.Native.Nat.{ℕ, ◌+◌}
use mathlib.Core.Path.{◌≡◌, refl, ap, sym, ◌∙◌}
use mathlib.Core.List.{List, [], ◌∷◌, ◌++◌}
use native.Mathlib.Omega.{arith}
use lib.ListN.{length}
use Rattle.progress.specs.declared.Progress.{Progress}
use Rattle.progress.specs.declared.ProgressState.{ProgressState}
use Rattle.progress.specs.declared.ProgressState.TheVariants.{Probe, Replicate, Snapshot}
use Rattle.tracker.specs.declared.MapChangeType.{MapChangeType}
use Rattle.tracker.specs.declared.MapChangeType.TheVariants.{Add, Remove}
use Rattle.tracker.specs.declared.MapChange.{MapChange}
use Rattle.tracker.specs.declared.ChangeLog.{ChangeLog}
use Rattle.tracker.specs.declared.Tracker.{Tracker}
use Rattle.unplug.specs.Words.{flag, state_named, records_by}
use Rattle.calls.specs.Layout.{word, set_at, conf_at, record_at, records_at, state_at, kind_named, entries_at, log_at}
use Rattle.calls.specs.Reply.{set_words, conf_words, state_word, record_words, records_words, state_words, kind_word, entries_words, log_words}
use Rattle.calls.proofs.Typed.{TypedState, TypedLog}
use Rattle.calls.proofs.WriteLengths.{set-length, conf-length, record_length, records-length, entries_length}
use Rattle.calls.proofs.RoundWords.{Reads, reads-left, reads_right, reads_first, reads-next}
use Rattle.calls.proofs.RoundSets.{flag-back, set-read, conf-read}

state-back : (st : ProgressState) → state_named (state_word st) ≡ st
state-back Probe = refl
state-back Replicate = refl
state-back Snapshot = refl

kind-back : (k : MapChangeType) → kind_named (kind_word k) ≡ k
kind-back Add = refl
kind-back Remove = refl

module _ {s : List ℕ} where
  record_read : {k : ℕ} (p : Progress) → Reads s k (record_words p) → record_at s k ≡ p
  unfolding record_words
  record_read {k} p f =
      let a0 : word s k ≡ p.matched = reads_first f in
      let a1 : word s (k + 1) ≡ p.next_idx = f.at 1 (omega arith) in
      let a2 : state_named (word s (k + 2)) ≡ p.state = ap (λ (w : ℕ). state_named w) (f.at 2 (omega arith)) ∙ state-back p.state in
      let a3 : flag (word s (k + 3)) ≡ p.paused = ap (λ (w : ℕ). flag w) (f.at 3 (omega arith)) ∙ flag-back p.paused in
      let a4 : word s (k + 4) ≡ p.pending_snapshot = f.at 4 (omega arith) in
      let a5 : word s (k + 5) ≡ p.pending_request_snapshot = f.at 5 (omega arith) in
      let a6 : flag (word s (k + 6)) ≡ p.recent_active = ap (λ (w : ℕ). flag w) (f.at 6 (omega arith)) ∙ flag-back p.recent_active in
      let a7 : word s (k + 7) ≡ p.max_inflight = f.at 7 (omega arith) in
      let a8 : word s (k + 8) ≡ p.commit_group_id = f.at 8 (omega arith) in
      let a9 : word s (k + 9) ≡ p.committed_index = f.at 9 (omega arith) in
      λ j. record {
        matched = a0 j;
        next_idx = a1 j;
        state = a2 j;
        paused = a3 j;
        pending_snapshot = a4 j;
        pending_request_snapshot = a5 j;
        recent_active = a6 j;
        max_inflight = a7 j;
        commit_group_id = a8 j;
        committed_index = a9 j;
      }

  records-read : (k : ℕ) (ps : List Progress) → Reads s k (records_words ps) → records_at (length ps) s k ≡ ps
  unfolding records_by records_words
  records-read k [] f = refl
  records-read k (p ∷ ps) f =
      let a : record_at s k ≡ p = record_read p (reads-left (record_words p) (records_words ps) f) in
      let b : records_at (length ps) s (k + 10) ≡ ps = records-read (k + 10) ps (reads_right (record_words p) (records_words ps) f (k + 10) (omega (arith, record_length p))) in
      λ j. a j ∷ b j

  pub state-read : {k : ℕ} {t : Tracker} → TypedState t → Reads s k (state_words t) → state_at s k ≡ t
  unfolding state_words
  state-read {k} {t} z f =
      let e = t.max_inflight ∷ [] in
      let d2 = records_words t.records ++ e in
      let d1 = set_words t.ids ++ d2 in
      let f1 = reads_right (conf_words t.conf) d1 f (k + 261) (omega (arith, conf-length z.conf)) in
      let f2 = reads_right (set_words t.ids) d2 f1 (k + 326) (omega (arith, set-length z.ids)) in
      let f3 = reads_right (records_words t.records) e f2 (k + 966) (omega (arith, records-length t.records, z.records.places)) in
      let a1 : conf_at s k ≡ t.conf = conf-read z.conf (reads-left (conf_words t.conf) d1 f) in
      let a2 : set_at s (k + 261) ≡ t.ids = set-read z.ids (reads-left (set_words t.ids) d2 f1) in
      let a3 : records_at 64 s (k + 326) ≡ t.records = ap (λ (n : ℕ). records_at n s (k + 326)) (sym z.records.places) ∙ records-read (k + 326) t.records (reads-left (records_words t.records) e f2) in
      let a4 : word s (k + 966) ≡ t.max_inflight = reads_first f3 in
      λ j. record { conf = a1 j; ids = a2 j; records = a3 j; max_inflight = a4 j }

  entries_read : (k : ℕ) (es : List MapChange) → Reads s k (entries_words es) → entries_at (length es) s k ≡ es
  unfolding entries_at entries_words
  entries_read k [] f = refl
  entries_read k (e ∷ es) f =
      let a : word s k ≡ e.id = reads_first f in
      let b : kind_named (word s (k + 1)) ≡ e.kind = ap (λ (w : ℕ). kind_named w) (reads_first (reads-next f)) ∙ kind-back e.kind in
      let c : entries_at (length es) s (k + 2) ≡ es = entries_read (k + 2) es (reads_right (e.id ∷ kind_word e.kind ∷ []) (entries_words es) f (k + 2) (omega arith)) in
      λ j. record { id = a j; kind = b j } ∷ c j

  pub log-read : {k : ℕ} {l : ChangeLog} → TypedLog l → Reads s k (log_words l) → log_at s k ≡ l
  unfolding log_words
  log-read {k} {l} z f =
      let ws = entries_words l.entries in
      let e = l.count ∷ [] in
      let a : entries_at 256 s k ≡ l.entries = ap (λ (n : ℕ). entries_at n s k) (sym z.entries.places) ∙ entries_read k l.entries (reads-left ws e f) in
      let b : word s (k + 512) ≡ l.count = reads_first (reads_right ws e f (k + 512) (omega (arith, entries_length l.entries, z.entries.places))) in
      λ j. record { entries = a j; count = b j }
