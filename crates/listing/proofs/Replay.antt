-- The loop that puts a listing, and what the entry answers and leaves. Assumes nothing.
use Prim.Native.Nat.{ℕ, suc, ◌+◌, ◌-◌, ◌*◌, ◌/◌, ◌≤◌, ◌<◌}
use mathlib.Core.Path.{◌≡◌, sym, ◌∙◌}
use mathlib.Core.Bool.{Bool, true, false}
use mathlib.Core.List.{List, ◌++◌}
use native.Mathlib.Omega.{arith}
use borrow.Author.Tests.{lt-ltb, le-ltb}
use lib.ListN.{length}
use Rattle.text.specs.Put.{Put, last}
use Rattle.text.specs.Writes.{Writes}
use Rattle.text.specs.declared.Output.{Output}
use Rattle.text.proofs.Laws.{put_count, put_whole}
use Rattle.listing.specs.Script as script
use Rattle.listing.specs.Script.{kind_at, number_at, stops, after}
use Rattle.listing.specs.Lines.{stopped_line}
use Rattle.listing.specs.Listing.{shown, ending, lines, listing, replay_answer, replay_leaves}
use Rattle.listing.specs.Sessions.{session_of, begin_in, after_in, shown_in}
use Rattle.listing.specs.declared.Session.{Session}
use Rattle.listing.proofs.Sessions.{Good, begin_good, begin-same, after_good, after_same, after-count, shown-same}
use Rattle.listing.proofs.Sizes.{listing-size}
use Rattle.listing.proofs.Pieces.{Left, left_all, left_put, left-last}

-- ** From a record on: the next record, or the end

-- what is printed from record k on
abbrev pub lines_from : List ℕ → ℕ → script.Session → List ℕ
lines_from s k y = lines (length s / 9 - k) s (9 * k) y

module _ (s : List ℕ) (k : ℕ) (y : script.Session) where
  pub lines-go : k < length s / 9 → stops y (kind_at s (9 * k)) ≡ false → lines_from s k y ≡ shown y (kind_at s (9 * k)) ++ lines_from s (k + 1) (after y (kind_at s (9 * k)) (number_at s (9 * k)))
  unfolding lines
  lines-go h e =
      let more : length s / 9 - k ≡ suc (length s / 9 - (k + 1)) = omega arith in
      let next : 9 * k + 9 ≡ 9 * (k + 1) = omega arith in
      rw (more, e, next)

  pub lines-stop : k < length s / 9 → stops y (kind_at s (9 * k)) ≡ true → lines_from s k y ≡ stopped_line (9 * k)
  unfolding lines
  lines-stop h e =
      let more : length s / 9 - k ≡ suc (length s / 9 - (k + 1)) = omega arith in
      rw (more, e)

pub lines_end : (s : List ℕ) (y : script.Session) → lines_from s (length s / 9) y ≡ ending (9 * (length s / 9)) (length s) y
unfolding lines
lines_end s y =
    let none : length s / 9 - length s / 9 ≡ 0 = omega arith in
    rw none

pub lines_all : (s : List ℕ) → lines_from s 0 script.begin ≡ listing s
unfolding listing
lines_all s =
    let all : length s / 9 - 0 ≡ length s / 9 = omega arith in
    rw all

-- ** The loop

-- what the records print from record k on is what is left to be put
pub record Replaying (s : List ℕ) (old now : Output) (z : Session) (k : ℕ) : Type 0 where
  pub short : length s ≤ 65536
  pub within : k ≤ length s / 9
  pub good : Good z
  pub count : z.printed ≤ k
  pub left : Left old (listing s) now (lines_from s k (session_of z))

pub replay-start : (s : List ℕ) {o : Output} {z : Session} → length s ≤ 65536 → length o.bytes.now ≤ last → o.at ≤ last → z ≡ begin_in → Replaying s o o z 0
replay-start s h k i e =
    rw e (record {
      short = h;
      within = omega arith;
      good = begin_good;
      count = omega arith;
      left = rw (begin-same, lines_all s) (left_all k i);
    })

module _ {s : List ℕ} {old now next : Output} {z : Session} {k : ℕ} (l : Replaying s old now z k) where
  pub replay-end : k ≡ length s / 9 → Writes now (ending (9 * (length s / 9)) (length s) (session_of z)) next → Writes old (listing s) next
  replay-end h f = left-last (rw (h, lines_end s (session_of z)) at l.left) f

  module _ (h : k < length s / 9) {b : Bool} (e : b ≡ stops (session_of z) (kind_at s (9 * k))) where
    pub replay-stop : b ≡ true → Writes now (stopped_line (9 * k)) next → Writes old (listing s) next
    replay-stop t f = left-last (rw (lines-stop s k (session_of z) h (sym e ∙ t)) at l.left) f

    pub replay-next : {n : ℕ} {y : Session} → b ≡ false → n ≡ number_at s (9 * k) → Writes now (shown_in z (kind_at s (9 * k))) next → y ≡ after_in z (kind_at s (9 * k)) n
        → Replaying s old next y (k + 1)
    replay-next {n} {y} t m f g =
        let at : ℕ = 9 * k in
        let goes : stops (session_of z) (kind_at s at) ≡ false = sym e ∙ t in
        let low : z.printed < last = omega (arith, l.count, l.short, h) in
        rw (g, m) (record {
          short = l.short;
          within = omega (arith, h);
          good = after_good z l.good (kind_at s at) (number_at s at) goes;
          count = omega (arith, l.count, after-count z (kind_at s at) (number_at s at));
          left = rw (after_same z l.good (kind_at s at) (number_at s at) goes low) (left_put (rw (lines-go s k (session_of z) h goes) at l.left) (rw (shown-same z l.good (kind_at s at) low) at f));
        })

-- ** The entry: a script that is too long; a listing that does not fit; one that fits

pub answer-long : (s : List ℕ) (n : ℕ) → 65536 < length s → 4294967315 ≡ replay_answer s n
unfolding replay_answer
answer-long s n h = rw (lt-ltb _ _ h)

pub leaves-long : (s old : List ℕ) → 65536 < length s → old ≡ replay_leaves s old
unfolding replay_leaves
leaves-long s old h = rw (lt-ltb _ _ h)

module _ (s old : List ℕ) {none new : List ℕ} {n : ℕ} (h : length s ≤ 65536) (f : Put none 0 (listing s) new n) where
  counted : n ≡ length (listing s)
  counted = put_count f (omega (arith, listing-size s))

  pub answer_none : length old < n → 4294967316 ≡ replay_answer s (length old)
  unfolding replay_answer
  answer_none k = rw (le-ltb _ _ h, lt-ltb (length old) (length (listing s)) (omega (arith, counted)))

  pub leaves_none : length old < n → old ≡ replay_leaves s old
  unfolding replay_leaves
  leaves_none k = rw (le-ltb _ _ h, lt-ltb (length old) (length (listing s)) (omega (arith, counted)))

  module _ {out : List ℕ} {m : ℕ} (k : n ≤ length old) (room : length old ≤ last) (g : Put old 0 (listing s) out m) where
    fits : length (listing s) ≤ length old
    fits = omega (arith, counted)

    pub answer-all : m ≡ replay_answer s (length old)
    unfolding replay_answer
    answer-all = rw (le-ltb _ _ h, le-ltb (length old) (length (listing s)) fits) (put_whole room g fits).1

    pub leaves_all : out ≡ replay_leaves s old
    unfolding replay_leaves
    leaves_all = rw (le-ltb _ _ h, le-ltb (length old) (length (listing s)) fits) (put_whole room g fits).0
