-- What a value of each type is known to be, of which its own relation (`c.good`, or `.ok` of a call) tells: how many places its arrays
-- have. Assumes nothing.
use mathlib.Core.Path.{◌≡◌}
use mathlib.Core.List.{List}
use mir.Val.{Val}
use lib.ListN.{length}
use denote.Laws.{Is}
use denote.Struct.Laws as LL
use Rattle.idset.proofs.Sizes.{set_sized}
use Rattle.tracker.specs.declared.Configuration.{Configuration}
use Rattle.tracker.specs.declared.ChangeLog.{ChangeLog}
use Rattle.tracker.specs.declared.Tracker.{Tracker}
use Rattle.tracker.specs.declared.IdList.{IdList}
use Rattle.tracker.specs.contracts.Configuration as K
use Rattle.tracker.proofs.Configuration.TheLaws as K'
use Rattle.tracker.specs.contracts.ChangeLog as G
use Rattle.tracker.proofs.ChangeLog.TheLaws as G'
use Rattle.tracker.specs.contracts.Tracker as T
use Rattle.tracker.proofs.Tracker.TheLaws as T'
use Rattle.tracker.specs.contracts.IdList as L
use Rattle.tracker.proofs.IdList.TheLaws as L'

pub log_sized : {vs : List Val} (l : ChangeLog) → Is G.the_row l vs → length l.entries ≡ 256
log_sized {vs} l p = (LL.owed G.the_type G'.the_laws l vs p).0.1.0.1

pub list_sized : {vs : List Val} (l : IdList) → Is L.the_row l vs → length l.ids ≡ 64
list_sized {vs} l p = (LL.owed L.the_type L'.the_laws l vs p).0.1.0.1

pub tracked_sized : {vs : List Val} (t : Tracker) → Is T.the_row t vs → length t.ids.ids ≡ 64
tracked_sized {vs} t p = set_sized t.ids (LL.owed T.the_type T'.the_laws t vs p).1.0

pub records_sized : {vs : List Val} (t : Tracker) → Is T.the_row t vs → length t.records ≡ 64
records_sized {vs} t p = (LL.owed T.the_type T'.the_laws t vs p).1.1.0.1.0.1

-- the four sets of a configuration
module _ {vs : List Val} (c : Configuration) (p : Is K.the_row c vs) where
  pub incoming_sized : length c.incoming.ids ≡ 64
  incoming_sized = set_sized c.incoming (LL.owed K.the_type K'.the_laws c vs p).0

  pub outgoing_sized : length c.outgoing.ids ≡ 64
  outgoing_sized = set_sized c.outgoing (LL.owed K.the_type K'.the_laws c vs p).1.0

  pub learners_sized : length c.learners.ids ≡ 64
  learners_sized = set_sized c.learners (LL.owed K.the_type K'.the_laws c vs p).1.1.0

  pub next_sized : length c.learners_next.ids ≡ 64
  next_sized = set_sized c.learners_next (LL.owed K.the_type K'.the_laws c vs p).1.1.1.0
