-- `listing::line::entries` meets its contract. Assumes nothing.
use Rattle.std.proofs.lemmas.List.{take_min}
use Rattle.listing.proofs.line.entries.Goals as goal

pub returns : goal.returns
returns c = rw c.min.ensures (take_min _ _)
