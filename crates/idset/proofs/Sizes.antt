-- What a value of `IdSet` is known to be, of which its own relation (`c.good`, or `.ok` of a call) tells: its array has 64 places.
-- Assumes nothing.
use mathlib.Core.Path.{◌≡◌}
use mathlib.Core.List.{List}
use mir.Val.{Val}
use lib.ListN.{length}
use denote.Laws.{Is}
use denote.Struct.Laws as LL
use Rattle.idset.specs.declared.IdSet.{IdSet}
use Rattle.idset.specs.contracts.IdSet as I
use Rattle.idset.proofs.IdSet.TheLaws as I'

pub set_sized : {vs : List Val} (s : IdSet) → Is I.the_row s vs → length s.ids ≡ 64
set_sized {vs} s p = (LL.owed I.the_type I'.the_laws s vs p).0.1.0.1
