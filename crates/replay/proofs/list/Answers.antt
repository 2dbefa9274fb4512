-- `replay::list` meets its contract: each record's text is put into the block, and each block is written. Assumes nothing.
use Rattle.std.proofs.Common.{sym, length-take-le, arith, rules}
use Rattle.std.proofs.lemmas.Result.{on_ok_weaker, IfOk-at_ok}
use Rattle.listing.proofs.Sizes.{stopped_size, ending-size, line-size}
use Rattle.replay.proofs.Printing.{print_start, print_end, print_stop, print_on, print_block, text_fits}
use Rattle.replay.proofs.list.Goals as goal
use Rattle.replay.proofs.list.Goals.{then-end-gt-FULL+in_ok-write, else-end-gt-FULL}

pub loop-k-init : goal.loop-k-init
loop-k-init g c = rw c.new-to.ensures.front (print_start _ _ _ (search rules) c.begin-session.ensures)

pub slice_bounds-write-end : goal.slice_bounds-write-end
slice_bounds-write-end g c = sym (length-take-le _ _ (text_fits c.loop-k.invariant _ (stopped_size _) c.put_stopped.ensures.put))

pub returns-then-stops : goal.returns-then-stops
returns-then-stops g c = on_ok_weaker _ (print_stop c.loop-k.invariant c.loop-k-test.true c.stops.ensures c.if-stops.true _ c.put_stopped.ensures.put) c.write.ensures

pub slice_bounds-write-end-then-end-gt-FULL : goal.slice_bounds-write-end-then-end-gt-FULL
slice_bounds-write-end-then-end-gt-FULL g c = sym (length-take-le _ c.turn.new.to.bytes.now (omega (arith, text_fits c.loop-k.invariant _ (line-size _ _) c.turn.ensures.put.put)))

pub loop-k-preserved : goal.loop-k-preserved
loop-k-preserved g c =
    let l = c.loop-k.invariant in
    elim c.if-end-gt-FULL.branch [
      | then-end-gt-FULL+in_ok-write w ↦ rw (w.out-is, w.to-is) (print_block l c.loop-k-test.true c.stops.ensures c.if-stops.false c.number_at.ensures (omega arith) c.turn.ensures.put.put c.turn.ensures.after (g.W.Write.contents w.write-then-end-gt-FULL.new.out) (search rules) (IfOk-at_ok (λ _. _) w.in_ok-write.was w.write-then-end-gt-FULL.ensures))
      | else-end-gt-FULL w ↦ rw (w.out-is, w.to-is) (print_on l c.loop-k-test.true c.stops.ensures c.if-stops.false c.number_at.ensures (omega arith) c.turn.ensures.put.put c.turn.ensures.after w.if-end-gt-FULL.false)
    ]

pub slice_bounds-write-end-2 : goal.slice_bounds-write-end-2
slice_bounds-write-end-2 g c = sym (length-take-le _ _ (text_fits c.loop-k.invariant _ (ending-size _ _ _) c.put_ending.ensures.put))

pub returns : goal.returns
returns g c = on_ok_weaker _ (print_end c.loop-k.invariant (omega arith) _ c.put_ending.ensures.put) c.write-2.ensures
