-- Whether an id is tracked, asked of the base ids with the first entries of a log over them. Assumes nothing.
use Rattle.std.specs.Prelude.{ℕ, Bool, ◌&&◌, ◌||◌, not, List, eqb, take}
use Rattle.rules.specs.State.{Entry, add, remove}
use Rattle.rules.specs.Changes.{pending_tracked}
use Rattle.tracker.specs.Bridge.{entries_of}
use Rattle.tracker.specs.declared.ChangeLog.{ChangeLog}

-- "Tracked is asked of the base ids with the pending log over them, the last entry for the id deciding."
abbrev pub tracked_in : List ℕ → ℕ → ChangeLog → ℕ → Bool
tracked_in base count log x = pending_tracked base (entries_of (take count log.entries)) x

-- what one entry says of x, as `last_says` takes it
abbrev pub entry_says : ℕ → Entry → Bool → Bool
entry_says x (add y) b = eqb y x || b
entry_says x (remove y) b = not (eqb y x) && b
