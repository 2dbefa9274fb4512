-- What one record shows and leaves, by its kind: a change, or a run of the pending list. Assumes nothing.
use Prim.Native.Nat.{ℕ, ◌≤◌, ◌<◌, min}
use mathlib.Core.Path.{◌≡◌, refl, ◌∙◌}
use mathlib.Core.Bool.{Bool, true, false, cond}
use mathlib.Core.List.{[]}
use borrow.Author.Tests.{le-leb, lt-leb}
use lib.ListN.{length, take}
use Rattle.changer.specs.Calls.{Answer, simple_answer, enter_answer, leave_answer}
use Rattle.listing.specs.Sessions.{pend_in, answer_in, applied_in, after_in, answer_text, shown_in}
use Rattle.listing.specs.declared.Session.{Session}
use Rattle.listing.proofs.Lines.{take_least}

-- ** What is answered: the first `len` places of both arrays, or all

module _ (z : Session) {n : ℕ} (m : n ≡ min z.len 256) (ids : length z.ids ≡ 256) (kinds : length z.kinds ≡ 256) where
  pub simple-is : simple_answer z.tracker (take n z.ids) (take n z.kinds) ≡ answer_in z 3
  unfolding answer_in
  simple-is = rw (take_least z.len z.ids ids m, take_least z.len z.kinds kinds m)

  pub enter-is : (auto : Bool) → enter_answer z.tracker auto (take n z.ids) (take n z.kinds) ≡ answer_in z (cond auto 5 4)
  unfolding answer_in
  enter-is true = rw (take_least z.len z.ids ids m, take_least z.len z.kinds kinds m)
  enter-is false = rw (take_least z.len z.ids ids m, take_least z.len z.kinds kinds m)

pub leave-is : (z : Session) → leave_answer z.tracker ≡ answer_in z 6
unfolding answer_in
leave-is z = refl

module _ (z : Session) (kind : ℕ) where
  -- ** What is shown and left

  pub change-shown : kind ≤ 2 → shown_in z kind ≡ []
  unfolding shown_in
  change-shown h = rw (le-leb kind 2 h)

  module _ (n : ℕ) where
    pub change-after : kind ≤ 2 → pend_in z kind n ≡ after_in z kind n
    unfolding after_in
    change-after h = rw (le-leb kind 2 h)

    module _ (h : 2 < kind) {a : Answer} (e : a ≡ answer_in z kind) {next : Session} (f : next ≡ applied_in z a n) where
      pub run-shown : shown_in z kind ≡ answer_text next.printed a
      unfolding shown_in applied_in
      run-shown = rw (lt-leb kind 2 h, f, e)

      pub run-after : next ≡ after_in z kind n
      unfolding after_in
      run-after = f ∙ rw (lt-leb kind 2 h, e)
