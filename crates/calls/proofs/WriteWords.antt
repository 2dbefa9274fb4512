-- Words that are put into an output one after the other. Assumes nothing.
use Prim.Native.Nat.{ℕ, ◌+◌, ◌≤◌}
use mathlib.Core.Path.{◌≡◌, refl, ap, sym, ◌∙◌}
use mathlib.Core.List.{List, [], ◌∷◌, ◌++◌, append_assoc, append-nil}
use Rattle.progress.specs.declared.Progress.{Progress}
use Rattle.tracker.specs.declared.Configuration.{Configuration}
use Rattle.tracker.specs.declared.MapChange.{MapChange}
use Rattle.tracker.specs.declared.ChangeLog.{ChangeLog}
use Rattle.tracker.specs.declared.Tracker.{Tracker}
use Rattle.tracker.specs.declared.ConfState.{ConfState}
use Rattle.text.specs.Text.{each}
use Rattle.std.specs.Int.{w64, to_le_bytes}
use native.Mathlib.Nat.{div-div-eq-div-mul}
use native.Mathlib.Omega.{arith}
use lib.ListN.{length, take, drop}
use lib.Seq.{sets, sets-eq}
use borrow.Rule.Slice.Mut.{set_vals}
use borrow.Rule.Slice.PartMut.{put_mid}
use Rattle.std.proofs.lemmas.List.Edits.{paste_all}
use Rattle.std.proofs.lemmas.Slice.{put_mid-paste}
use Rattle.text.specs.Put.{last}
use Rattle.text.specs.Writes.{Writes}
use Rattle.text.specs.declared.Output.{Output}
use Rattle.text.proofs.Outputs.{writes_then, writes_length}
use Rattle.calls.specs.declared.Reply.{Reply}
use Rattle.calls.specs.Reply.{bytes, word_bytes, all_bytes, flag_word, set_words, list_words, conf_words, record_words, records_words, state_words, kind_word, entries_words, log_words, conf_state_words}
use Rattle.calls.specs.Call.{reply_words}

-- a text, and one that is put into what it leaves
pub piece_then : {o p q : Output} {x y : List ℕ} → length o.bytes.now ≤ last → Writes o x p → (length p.bytes.now ≤ last → Writes p y q) → Writes o (x ++ y) q
piece_then h f k = writes_then h f (k (omega (arith, writes_length f)))

-- ** One word

-- of a number it is what `to_le_bytes` gives
pub word_le : (n : ℕ) → to_le_bytes w64 n ≡ word_bytes n
unfolding bytes word_bytes
word_le n = simp div-div-eq-div-mul

-- a part of a slice that holds it
part_whole : (l x ys : List ℕ) (at k : ℕ) → at + length x ≤ length l → ys ≡ x → k ≡ length x → put_mid at k l ys ≡ sets l at x
part_whole l x ys at k h e n = put_mid-paste at k l ys x k e refl n ∙ paste_all l at x k n ∙ ap (λ (m : ℕ). take at l ++ (x ++ drop (at + m) l)) n ∙ sym (append_assoc (take at l) x (drop (at + length x) l)) ∙ sym (sets-eq x l at h)

-- a word, where the output has room for it
pub word_fits : {o : Output} {ys : List ℕ} {k : ℕ} (n : ℕ) → o.at + 8 ≤ length o.bytes.now → o.at + 8 ≤ last → ys ≡ to_le_bytes w64 n → k ≡ 8 → Writes o (word_bytes n) (record { bytes = set_vals (put_mid o.at k o.bytes.now ys) o.bytes; at = o.at + 8 })
unfolding bytes word_bytes
word_fits {o} {ys} {k} n h l e m = record {
  same = refl;
  put = record { bytes = part_whole o.bytes.now (word_bytes n) ys o.at k h (e ∙ word_le n) m; end = omega arith };
}

-- ** Words

pub all_append : (xs ys : List ℕ) → all_bytes (xs ++ ys) ≡ all_bytes xs ++ all_bytes ys
unfolding all_bytes
all_append [] ys = refl
all_append (x ∷ xs) ys = ap (λ (l : List ℕ). word_bytes x ++ l) (all_append xs ys) ∙ sym (append_assoc (word_bytes x) (all_bytes xs) (all_bytes ys))

pub all_one : (w : ℕ) → all_bytes (w ∷ []) ≡ word_bytes w
unfolding all_bytes
all_one w = append-nil (word_bytes w)

-- ** The bytes of each block, piece by piece

pub set-bytes : (xs : List ℕ) (n : ℕ) → all_bytes (xs ++ (n ∷ [])) ≡ all_bytes xs ++ word_bytes n
set-bytes xs n = simp (all_append, all_one)

all_five : (a b c d : List ℕ) (w : ℕ) → all_bytes (a ++ (b ++ (c ++ (d ++ (w ∷ []))))) ≡ all_bytes a ++ (all_bytes b ++ (all_bytes c ++ (all_bytes d ++ word_bytes w)))
all_five a b c d w = simp (all_append, all_one)

pub conf-bytes : (c : Configuration) → all_bytes (conf_words c) ≡ all_bytes (set_words c.incoming) ++ (all_bytes (set_words c.outgoing) ++ (all_bytes (set_words c.learners) ++ (all_bytes (set_words c.learners_next) ++ word_bytes (flag_word c.auto_leave))))
unfolding conf_words
conf-bytes c = all_five (set_words c.incoming) (set_words c.outgoing) (set_words c.learners) (set_words c.learners_next) (flag_word c.auto_leave)

pub conf-state-bytes : (c : ConfState) → all_bytes (conf_state_words c) ≡ all_bytes (list_words c.voters) ++ (all_bytes (list_words c.learners) ++ (all_bytes (list_words c.voters_outgoing) ++ (all_bytes (list_words c.learners_next) ++ word_bytes (flag_word c.auto_leave))))
unfolding conf_state_words
conf-state-bytes c = all_five (list_words c.voters) (list_words c.learners) (list_words c.voters_outgoing) (list_words c.learners_next) (flag_word c.auto_leave)

all-four : (a b c : List ℕ) (w : ℕ) → all_bytes (a ++ (b ++ (c ++ (w ∷ [])))) ≡ all_bytes a ++ (all_bytes b ++ (all_bytes c ++ word_bytes w))
all-four a b c w = simp (all_append, all_one)

pub state-bytes : (t : Tracker) → all_bytes (state_words t) ≡ all_bytes (conf_words t.conf) ++ (all_bytes (set_words t.ids) ++ (all_bytes (records_words t.records) ++ word_bytes t.max_inflight))
unfolding state_words
state-bytes t = all-four (conf_words t.conf) (set_words t.ids) (records_words t.records) t.max_inflight

pub log-bytes : (l : ChangeLog) → all_bytes (log_words l) ≡ all_bytes (entries_words l.entries) ++ word_bytes l.count
unfolding log_words
log-bytes l = set-bytes (entries_words l.entries) l.count

all-seven : (m n o : ℕ) (a b c : List ℕ) (w : ℕ) → all_bytes (m ∷ n ∷ o ∷ (a ++ (b ++ (c ++ (w ∷ []))))) ≡ word_bytes m ++ (word_bytes n ++ (word_bytes o ++ (all_bytes a ++ (all_bytes b ++ (all_bytes c ++ word_bytes w)))))
unfolding all_bytes
all-seven m n o a b c w = ap (λ (l : List ℕ). word_bytes m ++ (word_bytes n ++ (word_bytes o ++ l))) (all-four a b c w)

pub reply-bytes : (r : Reply) → all_bytes (reply_words r) ≡ word_bytes r.number ++ (word_bytes r.id ++ (word_bytes (flag_word r.yes) ++ (all_bytes (state_words r.tracker) ++ (all_bytes (log_words r.log) ++ (all_bytes (conf_state_words r.conf_state) ++ word_bytes r.idle)))))
unfolding reply_words
reply-bytes r = all-seven r.number r.id (flag_word r.yes) (state_words r.tracker) (log_words r.log) (conf_state_words r.conf_state) r.idle

-- ** The words of each of a list

pub each_word : (ws : List ℕ) → each word_bytes ws ≡ all_bytes ws
unfolding each all_bytes
each_word [] = refl
each_word (w ∷ ws) = ap (λ (l : List ℕ). word_bytes w ++ l) (each_word ws)

abbrev pub record_bytes : Progress → List ℕ
record_bytes p = all_bytes (record_words p)

pub each_record : (ps : List Progress) → each record_bytes ps ≡ all_bytes (records_words ps)
unfolding each all_bytes records_words
each_record [] = refl
each_record (p ∷ ps) = ap (λ (l : List ℕ). all_bytes (record_words p) ++ l) (each_record ps) ∙ sym (all_append (record_words p) (records_words ps))

abbrev pub entry_bytes : MapChange → List ℕ
entry_bytes e = all_bytes (entries_words (e ∷ []))

pub each-entry : (es : List MapChange) → each entry_bytes es ≡ all_bytes (entries_words es)
unfolding each all_bytes entries_words
each-entry [] = refl
each-entry (e ∷ es) = ap (λ (l : List ℕ). entry_bytes e ++ l) (each-entry es) ∙ sym (all_append (e.id ∷ kind_word e.kind ∷ []) (entries_words es))
