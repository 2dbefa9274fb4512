-- How many bytes a reply has: 13,960. Assumes nothing.
use Prim.Native.Nat.{ℕ, ◌*◌}
use mathlib.Core.Path.{◌≡◌, refl}
use mathlib.Core.List.{List, [], ◌∷◌, ◌++◌}
use native.Mathlib.Omega.{arith}
use lib.ListN.{length, length-append}
use Rattle.progress.specs.declared.Progress.{Progress}
use Rattle.idset.specs.declared.IdSet.{IdSet}
use Rattle.tracker.specs.declared.Configuration.{Configuration}
use Rattle.tracker.specs.declared.MapChange.{MapChange}
use Rattle.tracker.specs.declared.ChangeLog.{ChangeLog}
use Rattle.tracker.specs.declared.Tracker.{Tracker}
use Rattle.tracker.specs.declared.IdList.{IdList}
use Rattle.tracker.specs.declared.ConfState.{ConfState}
use Rattle.calls.specs.declared.Reply.{Reply}
use Rattle.calls.specs.Reply.{bytes, word_bytes, all_bytes, flag_word, set_words, list_words, conf_words, record_words, records_words, state_words, entries_words, log_words, conf_state_words}
use Rattle.calls.specs.Call.{reply_words}
use Rattle.calls.proofs.Typed.{TypedSet, TypedList, TypedConf, TypedState, TypedLog, TypedConfState, TypedReply}

-- ** Bytes

pub word-length : (n : ℕ) → length (word_bytes n) ≡ 8
unfolding word_bytes bytes
word-length n = refl

pub all-length : (ws : List ℕ) → length (all_bytes ws) ≡ 8 * length ws
unfolding all_bytes
all-length [] = refl
all-length (w ∷ ws) = omega (arith, length-append (word_bytes w) (all_bytes ws), word-length w, all-length ws)

-- ** Words

pub set-length : {s : IdSet} → TypedSet s → length (set_words s) ≡ 65
set-length {s} z = omega (arith, length-append s.ids (s.len ∷ []), z.ids.places)

pub list_length : {l : IdList} → TypedList l → length (list_words l) ≡ 65
list_length {l} z = omega (arith, length-append l.ids (l.len ∷ []), z.ids.places)

five_length : (a b c d : List ℕ) (w : ℕ) → length a ≡ 65 → length b ≡ 65 → length c ≡ 65 → length d ≡ 65 → length (a ++ (b ++ (c ++ (d ++ (w ∷ []))))) ≡ 261
five_length a b c d w p q r s = omega (arith, length-append a (b ++ (c ++ (d ++ (w ∷ [])))), length-append b (c ++ (d ++ (w ∷ []))), length-append c (d ++ (w ∷ [])), length-append d (w ∷ []))

pub conf-length : {c : Configuration} → TypedConf c → length (conf_words c) ≡ 261
unfolding conf_words
conf-length {c} z = five_length (set_words c.incoming) (set_words c.outgoing) (set_words c.learners) (set_words c.learners_next) (flag_word c.auto_leave) (set-length z.incoming) (set-length z.outgoing) (set-length z.learners) (set-length z.learners_next)

pub conf-state-length : {c : ConfState} → TypedConfState c → length (conf_state_words c) ≡ 261
unfolding conf_state_words
conf-state-length {c} z = five_length (list_words c.voters) (list_words c.learners) (list_words c.voters_outgoing) (list_words c.learners_next) (flag_word c.auto_leave) (list_length z.voters) (list_length z.learners) (list_length z.voters_outgoing) (list_length z.learners_next)

pub record_length : (p : Progress) → length (record_words p) ≡ 10
unfolding record_words
record_length p = refl

pub records-length : (ps : List Progress) → length (records_words ps) ≡ 10 * length ps
unfolding records_words
records-length [] = refl
records-length (p ∷ ps) = omega (arith, length-append (record_words p) (records_words ps), record_length p, records-length ps)

pub state-length : {t : Tracker} → TypedState t → length (state_words t) ≡ 967
unfolding state_words
state-length {t} z =
    let a = conf_words t.conf in
    let b = set_words t.ids in
    let c = records_words t.records in
    let d = t.max_inflight ∷ [] in
    omega (arith, length-append a (b ++ (c ++ d)), length-append b (c ++ d), length-append c d, conf-length z.conf, set-length z.ids, records-length t.records, z.records.places)

pub entries_length : (es : List MapChange) → length (entries_words es) ≡ 2 * length es
unfolding entries_words
entries_length [] = refl
entries_length (e ∷ es) = omega (arith, entries_length es)

pub log-length : {l : ChangeLog} → TypedLog l → length (log_words l) ≡ 513
unfolding log_words
log-length {l} z = omega (arith, length-append (entries_words l.entries) (l.count ∷ []), entries_length l.entries, z.entries.places)

words-length : {r : Reply} → TypedReply r → length (reply_words r) ≡ 1745
unfolding reply_words
words-length {r} z =
    let a = state_words r.tracker in
    let b = log_words r.log in
    let c = conf_state_words r.conf_state in
    let d = r.idle ∷ [] in
    omega (arith, length-append a (b ++ (c ++ d)), length-append b (c ++ d), length-append c d, state-length z.tracker, log-length z.log, conf-state-length z.conf_state)

pub reply-length : {r : Reply} → TypedReply r → length (all_bytes (reply_words r)) ≡ 13960
reply-length {r} z = omega (arith, all-length (reply_words r), words-length z)
