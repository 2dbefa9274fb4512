-- `comparison::put_lines` meets its contract: what is left to be put is the lines of what is left of both messages, and the flag's. Assumes nothing.
use mathlib.Core.Path.{sym, ◌∙◌}
use native.Mathlib.Omega.{arith}
use Rattle.confstate.specs.Words.{message_in}
use Rattle.comparison.proofs.Lines.{line_put, line_skipped}
use Rattle.comparison.proofs.Places.{walk_start, walk_end, walk_less, walk_turn}
use Rattle.comparison.proofs.put_lines.Goals as goal
use Rattle.comparison.proofs.put_lines.Goals.{then-ne, else-ne}

pub loop-id-init : goal.loop-id-init
loop-id-init c = record {
  first-words = c.new-first.ensures.same;
  second-words = c.new-second.ensures.same;
  walked = walk_start (omega arith) c.requires.0 c.requires.1 c.new-first.ensures.first c.new-second.ensures.first;
}

pub next_id-requires : goal.next_id-requires
next_id-requires c = let i = c.loop-id.invariant in rw (i.first-words, i.second-words) (c.requires.0.lists, c.requires.1.lists)

pub sets_at-s-requires : goal.sets_at-s-requires
sets_at-s-requires c = rw c.loop-id.invariant.first-words c.requires.0.lists

pub sets_at-t-requires : goal.sets_at-t-requires
sets_at-t-requires c = rw c.loop-id.invariant.second-words c.requires.1.lists

pub pass-requires : goal.pass-requires
pass-requires c = c.loop-id.invariant.walked.first-place

pub pass-requires-in-Some : goal.pass-requires-in-Some
pass-requires-in-Some c = c.loop-id.invariant.walked.second-place

pub loop-id-smaller : goal.loop-id-smaller
loop-id-smaller c =
    let i = c.loop-id.invariant in
    walk_less i.walked (rw (i.first-words, i.second-words) at (sym c.next_id.ensures ∙ c.in-Some.is))
    (rw i.first-words at c.sets_at-s.ensures) (rw i.second-words at c.sets_at-t.ensures) c.pass.ensures.passed c.pass-in-Some.ensures.passed

pub loop-id-preserved : goal.loop-id-preserved
loop-id-preserved c =
    let i = c.loop-id.invariant in
    record {
      first-words = c.pass.ensures.same ∙ i.first-words;
      second-words = c.pass-in-Some.ensures.same ∙ i.second-words;
      walked =
          walk_turn i.walked (rw (i.first-words, i.second-words) at (sym c.next_id.ensures ∙ c.in-Some.is))
          (rw i.first-words at c.sets_at-s.ensures) (rw i.second-words at c.sets_at-t.ensures) c.pass.ensures.passed c.pass-in-Some.ensures.passed
          c.requires.0.lists c.requires.1.lists
          (λ _ _ l. elim c.if-ne.branch [
            | then-ne w ↦ rw w.to-is (line_put _ _ _ c.ne.ensures l w.if-ne.true w.put_line.ensures)
            | else-ne w ↦ rw w.to-is (line_skipped _ _ _ c.ne.ensures l w.if-ne.false)
          ]);
    }

pub returns : goal.returns
unfolding message_in
returns c = let i = c.loop-id.invariant in
    walk_end i.walked (rw (i.first-words, i.second-words) at (sym c.next_id.ensures ∙ c.in_default.is)) c.put_flag.ensures
