-- `listing::put_ending` meets its contract. Assumes nothing.
use mathlib.Core.Path.{◌≡◌}
use native.Mathlib.Omega.{arith}
use borrow.Author.Rules.{rules}
use borrow.Author.Tests.{lt-ltb, le-ltb}
use lib.ListN.{length}
use Rattle.text.proofs.Outputs.{writes_none}
use Rattle.listing.specs.Listing.{ending}
use Rattle.listing.proofs.Pending.{none_pending, some-pending}
use Rattle.listing.proofs.put_ending.Goals as goal

pub returns-then-k-end : goal.returns-then-k-end
unfolding ending
returns-then-k-end c = simp (lt-ltb _ _ c.if-k-end.true) c.put_stopped.ensures

pub returns-then-session-ne0 : goal.returns-then-session-ne0
unfolding ending
returns-then-session-ne0 c = let e : length c.args.session.now.ids ≡ 256 = search rules in
    simp (le-ltb _ _ c.if-k-end.false, some-pending c.args.session.now e c.if-session-ne0.true) c.put_stopped-then-session-ne0.ensures

pub returns-else-session-ne0 : goal.returns-else-session-ne0
unfolding ending
returns-else-session-ne0 c = let e : length c.args.session.now.ids ≡ 256 = search rules in
    simp (le-ltb _ _ c.if-k-end.false, none_pending c.args.session.now e c.if-session-ne0.false) (writes_none (omega arith))
