-- `unplug::held_at` meets its contract: the part that is lent is the set at that place. Assumes nothing.
use Prim.Native.Nat.{◌+◌, ◌-◌, ◌≤◌}
use mathlib.Core.Path.{◌≡◌}
use native.Mathlib.Omega.{arith}
use borrow.Author.Rules.{rules}
use lib.ListN.{length}
use Rattle.std.proofs.lemmas.List.{take_min}
use Rattle.unplug.proofs.WordBlocks.{part_words}
use Rattle.unplug.proofs.held_at.Goals as goal

pub returns : goal.returns
returns c = let a = c.args in
    let room : a.k + 64 ≤ length a.s.now = search (rules, c.requires) in
    let long : a.k + 64 - a.k ≡ 64 = omega arith in
    rw (c.min.ensures, c.word-count.ensures, long, part_words 64 a.k a.s.now room) (take_min _ _)
