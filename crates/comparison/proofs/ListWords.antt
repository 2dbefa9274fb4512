-- Laws of a list in its words: its count, and the four lists of a message. Assumes nothing.
use Prim.Native.Nat.{ℕ, ◌+◌, ◌≤◌}
use mathlib.Core.List.{List}
use native.Mathlib.Omega.{arith}
use lib.ListN.{length, drop, get_or, length-take, length-drop}
use Rattle.confstate.specs.Words.{list_in, message_in}
use Rattle.comparison.specs.Steps.{Lists}

pub count-few : (ws : List ℕ) (k : ℕ) → k + 65 ≤ length ws → length (list_in ws k) ≤ 64 → get_or ws (k + 64) 0 ≤ 64
unfolding list_in
count-few ws k h f = omega (arith, length-take (get_or ws (k + 64) 0) (drop k ws), length-drop k ws)

module _ {ws : List ℕ} (l : Lists ws) where
  pub voters-few : length (list_in ws 0) ≤ 64
  unfolding message_in
  voters-few = l.few.voters

  pub learners-few : length (list_in ws 65) ≤ 64
  unfolding message_in
  learners-few = l.few.learners

  pub outgoing-few : length (list_in ws 130) ≤ 64
  unfolding message_in
  outgoing-few = l.few.voters_outgoing

  pub next-few : length (list_in ws 195) ≤ 64
  unfolding message_in
  next-few = l.few.learners_next

pub ruleset few_in_each = (voters-few, learners-few, outgoing-few, next-few)
