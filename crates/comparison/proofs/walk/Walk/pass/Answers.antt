-- `comparison::walk::Walk::pass` meets its contract: each place, one further where the id stands there. Assumes nothing.
use Rattle.comparison.proofs.Places.{past_made}
use Rattle.comparison.proofs.walk.Walk.pass.Goals as goal

pub returns-clause-passed : goal.returns-clause-passed
returns-clause-passed c = past_made c.args.self.now.places c.args.s c.from.ensures c.from-2.ensures c.from-3.ensures c.from-4.ensures
