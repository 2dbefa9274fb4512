-- `changer::tracked_after` meets its contract: what is left of the log, over `ids`, comes to the same. Assumes nothing.
use mathlib.Core.Path.{◌∙◌, sym}
use Rattle.changer.proofs.Taken.{taken-next, taken-none}
use Rattle.changer.proofs.Tracked.{track-end, track-next}
use Rattle.changer.proofs.tracked_after.Goals as goal

pub loop-entry-preserved : goal.loop-entry-preserved
loop-entry-preserved c = let e = track-next c.loop-entry.ids (taken-next _ c.in-Some.ensures.steps) in cc

pub returns : goal.returns
returns c = sym (track-end _ (taken-none _ _ c.in-None.ensures.steps)) ∙ c.loop-entry.invariant
