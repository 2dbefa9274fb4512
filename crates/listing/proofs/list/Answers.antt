-- `listing::list` meets its contract: a script that is too long, a listing that does not fit, one that fits. Assumes nothing.
use native.Mathlib.Omega.{arith}
use Rattle.listing.proofs.Replay.{answer-long, leaves-long, answer_none, leaves_none, answer-all, leaves_all}
use Rattle.listing.proofs.list.Goals as goal

pub returns-then-script-gt-MAX_SCRIPT : goal.returns-then-script-gt-MAX_SCRIPT
returns-then-script-gt-MAX_SCRIPT c = (answer-long _ _ c.if-script-gt-MAX_SCRIPT.true, leaves-long _ _ c.if-script-gt-MAX_SCRIPT.true)

pub returns-then-out-length : goal.returns-then-out-length
returns-then-out-length c = let h = c.if-script-gt-MAX_SCRIPT.false in
    let s = c.args in
    let f = c.put_listing-length.ensures in
    (answer_none s.script.now s.out.now h f c.if-out-length.true, leaves_none s.script.now s.out.now h f c.if-out-length.true)

pub returns : goal.returns
returns c = let h = c.if-script-gt-MAX_SCRIPT.false in
    let s = c.args in
    let f = c.put_listing-length.ensures in
    let g = c.put_listing.ensures in
    let k = c.if-out-length.false in
    (answer-all s.script.now s.out.now h f k (omega arith) g, leaves_all s.script.now s.out.now h f k (omega arith) g)
