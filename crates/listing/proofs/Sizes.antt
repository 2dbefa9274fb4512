-- How long the text of a record or of an ending is at most: 64 ids of 20 digits in each of the four sets, 256 log entries. Assumes nothing.
use Prim.Native.Nat.{ℕ, zero, suc, ◌+◌, ◌*◌, ◌/◌, ◌≤◌, min}
use mathlib.Core.Path.{◌≡◌, refl}
use mathlib.Core.Bool.{Bool, true, false, cond}
use mathlib.Core.List.{List, [], ◌∷◌}
use native.Mathlib.Omega.{arith}
use lib.Dec.{ltb}
use lib.ListN.{length, length-append}
use Rattle.rules.specs.Ids.{is_empty}
use Rattle.rules.specs.State.{Conf, State, Entry, add, remove, conf_formed, formed}
use Rattle.rules.specs.Answers.{Answer, accepted, refused}
use Rattle.rules.proofs.Formed.{Sets, sets_of}
use Rattle.text.specs.Put.{last}
use Rattle.text.specs.Text.{each, group, ascii}
use Rattle.text.proofs.Decimals.{decimal-length}
use Rattle.text.proofs.Sizes.{group-size, each-size}
use Rattle.tracker.specs.Bridge.{state_of}
use Rattle.tracker.specs.Form.{tracker_well_formed}
use Rattle.changer.specs.Calls.{answer_of}
use Rattle.restore.proofs.Applied.{Fits}
use Rattle.listing.specs.Script as script
use Rattle.listing.specs.Script.{is_change, kind_at, number_at, begin, stops, answer_to, after}
use Rattle.listing.specs.Lines.{labelled, conf_text, entry_text, spaced_entry, entries_text, log_text, ok_line, refused_line, answer_line, stopped_line}
use Rattle.listing.specs.Listing.{shown, ending, lines, listing}
use Rattle.listing.specs.Sessions.{answer_in, answer_text, shown_in}
use Rattle.listing.specs.declared.Session.{Session}
use Rattle.listing.proofs.Cases.{either}
use Rattle.listing.proofs.Answers.{answer-fits, after-formed, text_same}
use Rattle.listing.proofs.Sessions.{fresh-formed, idle, told, told-fits, answer-same, answer_ill}

-- ** The pieces

labelled-size : (label xs : List ℕ) → length xs ≤ 64 → length (labelled label xs) ≤ length label + 1346
unfolding labelled
labelled-size label xs h = either (is_empty xs) (λ e. rw e (omega arith)) (λ e. rw e (omega (arith, length-append label (group xs), group-size xs)))

auto_size : (b : Bool) → length (cond b (ascii " autoleave") []) ≤ 10
auto_size true = omega arith
auto_size false = omega arith

conf-size : (c : Conf) → conf_formed c ≡ true → length (conf_text c) ≤ 5429
unfolding conf_text
conf-size c w =
    let s : Sets c = sets_of c w in
    simp length-append (omega (arith, group-size c.incoming, labelled-size (ascii "&&") c.outgoing s.outgoing.few, labelled-size (ascii " learners=") c.learners s.learners.few, labelled-size (ascii " learners_next=") c.staged s.staged.few, auto_size c.auto_leave))

entry-size : (e : Entry) → length (entry_text e) ≤ 21
unfolding entry_text
entry-size (add x) = omega (arith, decimal-length x)
entry-size (remove x) = omega (arith, decimal-length x)

entries_size : (es : List Entry) → length (entries_text es) ≤ 22 * length es
unfolding entries_text
entries_size [] = omega arith
entries_size (e ∷ es) = omega (arith, length-append (entry_text e) (each spaced_entry es), entry-size e, each-size spaced_entry 22 (λ x. omega (arith, entry-size x)) es)

log-size : (es : List Entry) → length es ≤ 256 → length (log_text es) ≤ 5634
unfolding log_text
log-size es h = simp length-append (omega (arith, entries_size es))

-- ** Lines

refused-size : (k n x : ℕ) → length (refused_line k n x) ≤ 11300
unfolding refused_line
refused-size k n x = simp length-append (omega (arith, decimal-length k, decimal-length n, decimal-length x))

answer-size : (s : State) (n : ℕ) (a : Answer) → Fits s n a → (k : ℕ) → length (answer_line k a) ≤ 11300
unfolding ok_line Fits
answer-size s n (accepted c log) h k = simp length-append (omega (arith, decimal-length k, conf-size c h.fits, log-size log h.short))
answer-size s n (refused m x) h k = refused-size k m x

pub stopped_size : (at : ℕ) → length (stopped_line at) ≤ 11300
unfolding stopped_line
stopped_size at = simp length-append (omega (arith, decimal-length at))

pub ending-size : (at end : ℕ) (y : script.Session) → length (ending at end y) ≤ 11300
unfolding ending
ending-size at end y =
    either (ltb at end) (λ a. rw a (stopped_size at)) (λ a. either (is_empty y.ids) (λ b. rw (a, b) (omega arith)) (λ b. rw (a, b) (stopped_size end)))

-- a record of any replay in a struct
pub line-size : (z : Session) (kind : ℕ) → length (shown_in z kind) ≤ 11300
unfolding shown_in Fits
line-size z kind =
    either (is_change kind) (λ c. rw c (omega arith))
    (λ c. rw c (either (tracker_well_formed z.tracker) (λ w. from (idle z kind) (told z kind) (answer-same z kind w) (told-fits z kind w 0)) (λ w. from 0 (refused 1 0) (answer_ill z kind w) refl)))
  where
    from : (i : ℕ) (a : Answer) → answer_in z kind ≡ answer_of z.tracker.conf i a → Fits (state_of z.tracker) 0 a → length (answer_text (min (z.printed + 1) last) (answer_in z kind)) ≤ 11300
    from i a e f =
        let k : ℕ = min (z.printed + 1) last in
        rw (e, text_same (state_of z.tracker) 0 z.tracker.conf i a f k) (answer-size (state_of z.tracker) 0 a f k)

-- ** Listings

shown-size : (y : script.Session) → formed y.state ≡ true → (kind : ℕ) → length (shown y kind) ≤ 11300
unfolding shown
shown-size y f kind = either (is_change kind) (λ c. rw c (omega arith)) (λ c. rw c (answer-size y.state 0 (answer_to y kind) (answer-fits y f kind 0) (suc y.printed)))

lines-size : (k : ℕ) (s : List ℕ) (at : ℕ) (y : script.Session) → formed y.state ≡ true → length (lines k s at y) ≤ 11300 * suc k
unfolding lines
lines-size zero s at y f = omega (arith, ending-size at (length s) y)
lines-size (suc k) s at y f =
    let kind : ℕ = kind_at s at in
    let n : ℕ = number_at s at in
    let more : length (lines k s (at + 9) (after y kind n)) ≤ 11300 * suc k = lines-size k s (at + 9) (after y kind n) (after-formed y f kind n) in
    either (stops y kind) (λ e. rw e (omega (arith, stopped_size at))) (λ e. rw e (omega (arith, more, length-append (shown y kind) (lines k s (at + 9) (after y kind n)), shown-size y f kind)))

pub listing-size : (s : List ℕ) → length (listing s) ≤ 11300 * suc (length s / 9)
unfolding listing
listing-size s = lines-size (length s / 9) s 0 begin fresh-formed
