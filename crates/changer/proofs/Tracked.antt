-- A log over the tracked ids, entry by entry. Assumes nothing.
use mathlib.Core.Path.{◌≡◌}
use mathlib.Core.List.{List, [], ◌∷◌}
use Rattle.idset.specs.declared.IdSet.{IdSet}
use Rattle.tracker.specs.Bridge.{entry_of, entries_of}
use Rattle.tracker.specs.declared.MapChange.{MapChange}
use Rattle.changer.specs.Stages.{pending_one, pending_in}

pub track-end : (s : IdSet) {left : List MapChange} → left ≡ [] → pending_in (entries_of left) s ≡ s
unfolding entries_of pending_in
track-end s h = rw h

pub track-next : (s : IdSet) {left es : List MapChange} {e : MapChange} → left ≡ e ∷ es → pending_in (entries_of left) s ≡ pending_in (entries_of es) (pending_one (entry_of e) s)
unfolding entries_of pending_in
track-next s h = rw h
