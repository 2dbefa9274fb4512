-- Well formed: document 01, "The state and its numbers": "Each set and the tracked list hold at most 64 ids, strictly ascending; unused
-- places hold zero, unused records the default state, zeros and false. Anything else is malformed, as is a log with a count over 256 or an
-- unused place other than Add of 0." Assumes nothing.
use Rattle.std.specs.Prelude.{Bool, true, false, ◌&&◌, List, [], ◌∷◌, eqb, leb, length, drop}
use Rattle.progress.specs.declared.Progress.{Progress}
use Rattle.progress.specs.Record.{is_unused}
use Rattle.idset.specs.Set.{well_formed}
use Rattle.tracker.specs.declared.Configuration.{Configuration}
use Rattle.tracker.specs.declared.MapChangeType.{MapChangeType}
use Rattle.tracker.specs.declared.MapChangeType.TheVariants.{Add, Remove}
use Rattle.tracker.specs.declared.MapChange.{MapChange}
use Rattle.tracker.specs.declared.ChangeLog.{ChangeLog}
use Rattle.tracker.specs.declared.Tracker.{Tracker}

unfoldable pub conf_well_formed : Configuration → Bool
conf_well_formed c = well_formed c.incoming && well_formed c.outgoing && well_formed c.learners && well_formed c.learners_next

-- each is the unused record
unfoldable pub all_unused : List Progress → Bool
all_unused [] = true
all_unused (r ∷ rs) = is_unused r && all_unused rs

-- 64 places for records; unused ones from the last tracked on
unfoldable pub tracker_well_formed : Tracker → Bool
tracker_well_formed t = conf_well_formed t.conf && well_formed t.ids && eqb (length t.records) 64 && all_unused (drop t.ids.len t.records)

abbrev pub is_add : MapChangeType → Bool
is_add Add = true
is_add Remove = false

-- Add of 0
unfoldable pub is_blank : MapChange → Bool
is_blank e = eqb e.id 0 && is_add e.kind

unfoldable pub all_blank : List MapChange → Bool
all_blank [] = true
all_blank (e ∷ es) = is_blank e && all_blank es

unfoldable pub log_well_formed : ChangeLog → Bool
log_well_formed l = eqb (length l.entries) 256 && leb l.count 256 && all_blank (drop l.count l.entries)
