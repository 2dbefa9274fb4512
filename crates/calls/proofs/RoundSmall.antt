-- The words of a typed value are each below 2 ^ 64. Assumes nothing.
use mathlib.Core.Bool.{Bool, true, false}
use mathlib.Core.List.{List, ◌∷◌}
use native.Mathlib.Omega.{arith}
use Rattle.progress.specs.declared.Progress.{Progress}
use Rattle.progress.specs.declared.ProgressState.{ProgressState}
use Rattle.progress.specs.declared.ProgressState.TheVariants.{Probe, Replicate, Snapshot}
use Rattle.idset.specs.declared.IdSet.{IdSet}
use Rattle.tracker.specs.declared.Configuration.{Configuration}
use Rattle.tracker.specs.declared.MapChangeType.{MapChangeType}
use Rattle.tracker.specs.declared.MapChangeType.TheVariants.{Add, Remove}
use Rattle.tracker.specs.declared.MapChange.{MapChange}
use Rattle.tracker.specs.declared.ChangeLog.{ChangeLog}
use Rattle.tracker.specs.declared.Tracker.{Tracker}
use Rattle.tracker.specs.declared.IdList.{IdList}
use Rattle.tracker.specs.declared.ConfState.{ConfState}
use Rattle.calls.specs.declared.Reply.{Reply}
use Rattle.calls.specs.Reply.{flag_word, set_words, list_words, conf_words, state_word, record_words, records_words, state_words, kind_word, entries_words, log_words, conf_state_words}
use Rattle.calls.specs.Call.{reply_words}
use Rattle.calls.proofs.Typed.{U64, Each, none, more, each_append, TypedSet, TypedList, TypedConf, TypedRecord, TypedState, TypedEntry, TypedLog, TypedConfState, TypedReply}

-- ** Names

flag_small : (b : Bool) → U64 (flag_word b)
flag_small true = omega arith
flag_small false = omega arith

state_name_small : (st : ProgressState) → U64 (state_word st)
state_name_small Probe = omega arith
state_name_small Replicate = omega arith
state_name_small Snapshot = omega arith

kind-small : (k : MapChangeType) → U64 (kind_word k)
kind-small Add = omega arith
kind-small Remove = omega arith

-- ** Blocks

pub set-small : {s : IdSet} → TypedSet s → Each U64 (set_words s)
set-small z = each_append z.ids.each (more z.len none)

list_small : {l : IdList} → TypedList l → Each U64 (list_words l)
list_small z = each_append z.ids.each (more z.len none)

pub conf-small : {c : Configuration} → TypedConf c → Each U64 (conf_words c)
unfolding conf_words
conf-small {c} z =
    each_append (set-small z.incoming) (each_append (set-small z.outgoing) (each_append (set-small z.learners) (each_append (set-small z.learners_next) (more (flag_small c.auto_leave) none))))

record_small : {p : Progress} → TypedRecord p → Each U64 (record_words p)
unfolding record_words
record_small {p} z =
    more z.matched (more z.next_idx (more (state_name_small p.state) (more (flag_small p.paused) (more z.pending_snapshot (more z.pending_request_snapshot
    (more (flag_small p.recent_active) (more z.max_inflight (more z.commit_group_id (more z.committed_index none)))))))))

records-small : {ps : List Progress} → Each TypedRecord ps → Each U64 (records_words ps)
unfolding records_words
records-small none = none
records-small (more z zs) = each_append (record_small z) (records-small zs)

pub state-small : {t : Tracker} → TypedState t → Each U64 (state_words t)
unfolding state_words
state-small z = each_append (conf-small z.conf) (each_append (set-small z.ids) (each_append (records-small z.records.each) (more z.max_inflight none)))

entries_small : {es : List MapChange} → Each TypedEntry es → Each U64 (entries_words es)
unfolding entries_words
entries_small none = none
entries_small {es = e ∷ es} (more z zs) = more z.id (more (kind-small e.kind) (entries_small zs))

pub log-small : {l : ChangeLog} → TypedLog l → Each U64 (log_words l)
unfolding log_words
log-small z = each_append (entries_small z.entries.each) (more z.count none)

pub conf-state-small : {c : ConfState} → TypedConfState c → Each U64 (conf_state_words c)
unfolding conf_state_words
conf-state-small {c} z =
    each_append (list_small z.voters) (each_append (list_small z.learners) (each_append (list_small z.voters_outgoing) (each_append (list_small z.learners_next) (more (flag_small c.auto_leave) none))))

pub reply-small : {r : Reply} → TypedReply r → Each U64 (reply_words r)
unfolding reply_words
reply-small {r} z =
    more z.number (more z.id (more (flag_small r.yes) (each_append (state-small z.tracker) (each_append (log-small z.log) (each_append (conf-state-small z.conf_state) (more z.idle none))))))
