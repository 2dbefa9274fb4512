-- `track`: an old record is written over, there is no room, or a place is made at the id's rank in both arrays. Assumes nothing.
use mathlib.Core.Path.{sym, ◌∙◌}
use borrow.Author.Rules.{rules}
use Rattle.tracker.proofs.EnrolEntry.{sought, stands, no_room, no_room_kept, some_room, at-within, add_over, add_new, over-says, full-says, new-says}
use Rattle.tracker.proofs.roster.Roster.track.Goals as goal

pub offset_bounds-self-inside-at : goal.offset_bounds-self-inside-at
offset_bounds-self-inside-at c =
    let h = at-within c.self.invariant c.self.view_is _ _ (sought c.self.invariant c.args.id c.as_slice.ensures _ c.seek-at.ensures) _ (stands c.self.invariant c.args.id c.as_slice.ensures _ c.seek-at.ensures c.as_slice-2.ensures c.stands_at.ensures) c.if-stands_at.true in
    search rules

pub bounds-self-inside-at : goal.bounds-self-inside-at
bounds-self-inside-at c = at-within c.self.invariant c.self.view_is _ _ (sought c.self.invariant c.args.id c.as_slice.ensures _ c.seek-at.ensures) _ (stands c.self.invariant c.args.id c.as_slice.ensures _ c.seek-at.ensures c.as_slice-2.ensures c.stands_at.ensures) c.if-stands_at.true

pub invariant_of-self : goal.invariant_of-self
invariant_of-self c = (add_over c.self.invariant c.self.view_is _ _ (sought c.self.invariant c.args.id c.as_slice.ensures _ c.seek-at.ensures) _ (stands c.self.invariant c.args.id c.as_slice.ensures _ c.seek-at.ensures c.as_slice-2.ensures c.stands_at.ensures) c.args.record c.if-stands_at.true).rostered

pub returns-then-stands_at-clause-value : goal.returns-then-stands_at-clause-value
returns-then-stands_at-clause-value c = over-says c.self.invariant c.self.view_is _ _ (sought c.self.invariant c.args.id c.as_slice.ensures _ c.seek-at.ensures) _ (stands c.self.invariant c.args.id c.as_slice.ensures _ c.seek-at.ensures c.as_slice-2.ensures c.stands_at.ensures) c.if-stands_at.true

pub returns-then-stands_at-clause-after : goal.returns-then-stands_at-clause-after
returns-then-stands_at-clause-after c = (add_over c.self.invariant c.self.view_is _ _ (sought c.self.invariant c.args.id c.as_slice.ensures _ c.seek-at.ensures) _ (stands c.self.invariant c.args.id c.as_slice.ensures _ c.seek-at.ensures c.as_slice-2.ensures c.stands_at.ensures) c.args.record c.if-stands_at.true).peers

pub invariant_of-self-in-Ok : goal.invariant_of-self-in-Ok
invariant_of-self-in-Ok c = (add_new c.self.invariant c.self.view_is _ _ (sought c.self.invariant c.args.id c.as_slice.ensures _ c.seek-at.ensures) _ (stands c.self.invariant c.args.id c.as_slice.ensures _ c.seek-at.ensures c.as_slice-2.ensures c.stands_at.ensures) c.args.record c.if-stands_at.false (some_room _ _ (sym (stands c.self.invariant c.args.id c.as_slice.ensures _ c.seek-at.ensures c.as_slice-2.ensures c.stands_at.ensures) ∙ c.if-stands_at.false) c.in-Ok.ensures) _ c.insert_at.ensures c.in-Ok.ensures).rostered

pub invariant_of-self-in-Err : goal.invariant_of-self-in-Err
invariant_of-self-in-Err c = rw (no_room_kept _ _ c.in-Err.ensures) c.self.invariant

pub returns-in-Ok-clause-value : goal.returns-in-Ok-clause-value
returns-in-Ok-clause-value c = new-says c.self.invariant c.self.view_is _ _ (sought c.self.invariant c.args.id c.as_slice.ensures _ c.seek-at.ensures) _ (stands c.self.invariant c.args.id c.as_slice.ensures _ c.seek-at.ensures c.as_slice-2.ensures c.stands_at.ensures) c.if-stands_at.false (some_room _ _ (sym (stands c.self.invariant c.args.id c.as_slice.ensures _ c.seek-at.ensures c.as_slice-2.ensures c.stands_at.ensures) ∙ c.if-stands_at.false) c.in-Ok.ensures)

pub returns-in-Ok-clause-after : goal.returns-in-Ok-clause-after
returns-in-Ok-clause-after c = (add_new c.self.invariant c.self.view_is _ _ (sought c.self.invariant c.args.id c.as_slice.ensures _ c.seek-at.ensures) _ (stands c.self.invariant c.args.id c.as_slice.ensures _ c.seek-at.ensures c.as_slice-2.ensures c.stands_at.ensures) c.args.record c.if-stands_at.false (some_room _ _ (sym (stands c.self.invariant c.args.id c.as_slice.ensures _ c.seek-at.ensures c.as_slice-2.ensures c.stands_at.ensures) ∙ c.if-stands_at.false) c.in-Ok.ensures) _ c.insert_at.ensures c.in-Ok.ensures).peers

pub returns-in-Err-clause-value : goal.returns-in-Err-clause-value
returns-in-Err-clause-value c = full-says c.self.invariant c.self.view_is _ _ (sought c.self.invariant c.args.id c.as_slice.ensures _ c.seek-at.ensures) _ (stands c.self.invariant c.args.id c.as_slice.ensures _ c.seek-at.ensures c.as_slice-2.ensures c.stands_at.ensures) c.if-stands_at.false (no_room _ _ c.in-Err.ensures)

pub returns-in-Err-clause-after : goal.returns-in-Err-clause-after
returns-in-Err-clause-after c = rw (no_room_kept _ _ c.in-Err.ensures) c.self.view_is
