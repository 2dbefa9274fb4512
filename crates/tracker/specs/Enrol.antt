-- The tracked ids and their records in two arrays, and what the taking of log entries says. Assumes nothing.
use Rattle.std.specs.Prelude.{◌≡◌, true, List, length, drop}
use Rattle.progress.specs.declared.Progress.{Progress}
use Rattle.idset.specs.Set.{well_formed}
use Rattle.idset.specs.declared.IdSet.{IdSet}
use Rattle.tracker.specs.Form.{all_unused}

-- the ids are a well-formed set, and each place after them has the unused record
pub record Rostered (s : IdSet) (rs : List Progress) : Type 0 where
  pub set : well_formed s ≡ true
  pub long : length rs ≡ 64
  pub clear : all_unused (drop s.len rs) ≡ true
