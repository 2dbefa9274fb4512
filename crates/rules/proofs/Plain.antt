-- The replay, a step at a time. Assumes nothing.
use Prim.Native.Nat.{ℕ}
use mathlib.Core.Path.{◌≡◌, refl, ap, ◌∙◌, sym}
use mathlib.Core.Bool.{Bool, true, false, ◌&&◌, not, cond}
use mathlib.Core.List.{List, [], ◌∷◌, ◌++◌, append_assoc}
use lib.Dec.{eqb}
use Rattle.progress.specs.Record.{fresh_record}
use Rattle.progress.specs.declared.Progress.{Progress}
use Rattle.rules.specs.State.{Change}
use Rattle.rules.specs.Restore.{Step, enter_step, leave_step, simple_step}
use Rattle.rules.specs.Sequences.{Deed}
use Rattle.rules.specs.Boxes.{Box, Event, change_box, enter_box, events, happen, leave_box, named, naming, replay, step_events}

-- the changes of a list that name x, one after the other
unfoldable pub changes_box : Progress → ℕ → List Change → Box → Box
changes_box r x [] b = b
changes_box r x (c ∷ cs) b = changes_box r x cs (cond (eqb c.id x && not (eqb x 0)) (change_box r c.kind b) b)

abbrev pub step_box : Progress → ℕ → Step → Box → Box
step_box r x (simple_step cs) b = changes_box r x cs b
step_box r x (enter_step auto cs) b = changes_box r x cs (enter_box b)
step_box r x leave_step b = leave_box b

pub replay_append : (ds es : List Event) (b : Box) → replay (ds ++ es) b ≡ replay es (replay ds b)
unfolding replay
replay_append [] es b = refl
replay_append (d ∷ ds) es b = replay_append ds es (happen d b)

pub replay-changes : (r : Progress) (x : ℕ) (cs : List Change) (b : Box) → replay (naming r x cs) b ≡ changes_box r x cs b
unfolding replay naming changes_box
replay-changes r x [] b = refl
replay-changes r x (c ∷ cs) b = go (eqb c.id x && not (eqb x 0)) (replay-changes r x cs)
  where
    go : (t : Bool) → ((a : Box) → replay (naming r x cs) a ≡ changes_box r x cs a) → replay (cond t (named c.kind r ∷ naming r x cs) (naming r x cs)) b ≡ changes_box r x cs (cond t (change_box r c.kind b) b)
    go true ih = ih (change_box r c.kind b)
    go false ih = ih b

pub replay-step : (r : Progress) (x : ℕ) (p : Step) (b : Box) → replay (step_events r x p) b ≡ step_box r x p b
unfolding replay
replay-step r x (simple_step cs) b = replay-changes r x cs b
replay-step r x (enter_step auto cs) b = replay-changes r x cs (enter_box b)
replay-step r x leave_step b = refl

pub events_append : (m x : ℕ) (ds es : List Deed) → events m x (ds ++ es) ≡ events m x ds ++ events m x es
unfolding events
events_append m x [] es = refl
events_append m x (d ∷ ds) es = ap (λ (l : List Event). step_events (fresh_record d.next m) x d.step ++ l) (events_append m x ds es) ∙ sym (append_assoc (step_events (fresh_record d.next m) x d.step) (events m x ds) (events m x es))
