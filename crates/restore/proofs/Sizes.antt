-- What a value of each type is known to be, of which its own relation (`c.good`, or `.ok` of a call) tells: how many places its arrays
-- have. Assumes nothing.
use Prim.Native.Nat.{◌≤◌}
use mathlib.Core.Path.{◌≡◌}
use mathlib.Core.List.{List}
use mir.Val.{Val}
use lib.ListN.{length}
use denote.Laws.{Is}
use denote.Struct.Laws as LL
use Rattle.rules.specs.State.{Change}
use Rattle.restore.specs.Steps.{Listed}
use Rattle.restore.specs.declared.Changes.{Changes}
use Rattle.restore.specs.contracts.Changes as C
use Rattle.restore.proofs.Changes.TheLaws as C'

module _ {vs : List Val} (c : Changes) (p : Is C.the_row c vs) where
  pub ids_sized : length c.ids ≡ 256
  ids_sized = (LL.owed C.the_type C'.the_laws c vs p).0.1.0.1

  pub kinds_sized : length c.kinds ≡ 256
  kinds_sized = (LL.owed C.the_type C'.the_laws c vs p).1.0.1.0.1

  -- a list that can be read has its places in both
  pub ids-room : {cs : List Change} → Listed c cs → c.len ≤ length c.ids
  ids-room h = rw ids_sized h.few

  pub kinds-room : {cs : List Change} → Listed c cs → c.len ≤ length c.kinds
  kinds-room h = rw kinds_sized h.few
