-- `untrack`: the id is not there, or its place goes from both arrays. Assumes nothing.
use mathlib.Core.Path.{◌∙◌}
use native.Mathlib.Omega.{arith}
use Rattle.idset.proofs.Turned.{remove_fits}
use Rattle.tracker.proofs.EnrolEntry.{sought, was_held, none_kept, at-within, remove_none, remove_gone}
use Rattle.tracker.proofs.roster.Roster.untrack.Goals as goal

pub invariant_of-self : goal.invariant_of-self
invariant_of-self c = (remove_gone c.self.invariant c.self.view_is _ _ (sought c.self.invariant c.args.id c.as_slice.ensures _ c.seek-at.ensures) _ (was_held _ _ c.remove.ensures) c.if-remove.true _ c.unused.ensures _ (c.remove_at.ensures ∙ remove_fits _ _ _ (omega (arith, at-within c.self.invariant c.self.view_is _ _ (sought c.self.invariant c.args.id c.as_slice.ensures _ c.seek-at.ensures) _ (was_held _ _ c.remove.ensures) c.if-remove.true, c.self.invariant.long))) c.remove.ensures).rostered

pub invariant_of-self-else-remove : goal.invariant_of-self-else-remove
invariant_of-self-else-remove c = rw (none_kept _ _ c.if-remove.ensures) c.self.invariant

pub returns-then-remove : goal.returns-then-remove
returns-then-remove c = (remove_gone c.self.invariant c.self.view_is _ _ (sought c.self.invariant c.args.id c.as_slice.ensures _ c.seek-at.ensures) _ (was_held _ _ c.remove.ensures) c.if-remove.true _ c.unused.ensures _ (c.remove_at.ensures ∙ remove_fits _ _ _ (omega (arith, at-within c.self.invariant c.self.view_is _ _ (sought c.self.invariant c.args.id c.as_slice.ensures _ c.seek-at.ensures) _ (was_held _ _ c.remove.ensures) c.if-remove.true, c.self.invariant.long))) c.remove.ensures).peers

pub returns-else-remove : goal.returns-else-remove
returns-else-remove c = rw (none_kept _ _ c.if-remove.ensures) (c.self.view_is ∙ remove_none c.self.invariant c.self.view_is _ _ (sought c.self.invariant c.args.id c.as_slice.ensures _ c.seek-at.ensures) _ (was_held _ _ c.remove.ensures) c.if-remove.false)
