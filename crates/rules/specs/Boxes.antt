-- One box, and its plain replay: demand 3, "each box's standing and record are what a plain replay of the accepted changes naming that
-- box, with each enter and leave, gives". Assumes nothing.
use Rattle.std.specs.Prelude.{ℕ, ◌&&◌, not, cond, List, [], ◌∷◌, ◌++◌, eqb}
use Rattle.progress.specs.Record.{fresh_record}
use Rattle.progress.specs.declared.Progress.{Progress}
use Rattle.rules.specs.State.{Change, Kind, Peer, State}
use Rattle.rules.specs.Check.{is_tracked}
use Rattle.rules.specs.Table.{Effect, I, IO, L, O, OS, Standing, adds, idle, none, places_in, removes, standing_in, stays, table}
use Rattle.rules.specs.Restore.{Step, enter_step, leave_step, simple_step}
use Rattle.rules.specs.Sequences.{Deed}

-- ** The box in a state

-- a record, if there is one
pub data Found : Type 0 where
  absent : Found
  found : Progress → Found

-- the record under which x is tracked
unfoldable pub record_of : ℕ → List Peer → Found
record_of x [] = absent
record_of x (p ∷ ps) = cond (eqb p.id x) (found p.progress) (record_of x ps)

-- its standing, and its record if it is tracked
pub record Box : Type 0 where
  pub standing : Standing
  pub held : Found

abbrev pub box_of : State → ℕ → Box
box_of s x = record { standing = standing_in (places_in (is_tracked s x) s.conf x); held = record_of x s.peers }

-- ** What can happen to it

-- "a fresh record at each admission, otherwise the old one, untouched"; r is a fresh record
abbrev pub kept : Effect → Progress → Found → Found
kept stays r f = f
kept adds r f = found r
kept removes r f = absent

-- a change that names the box
abbrev pub change_box : Progress → Kind → Box → Box
change_box r k b = record { standing = (table b.standing k).0; held = kept (table b.standing k).1 r b.held }

-- entering: an incoming voter is then also outgoing. It is met by none, I and L only, since a state to be entered from is not joint.
abbrev pub enter_standing : Standing → Standing
enter_standing none = none
enter_standing idle = idle
enter_standing I = IO
enter_standing L = L
enter_standing O = O
enter_standing IO = IO
enter_standing OS = OS

abbrev pub enter_box : Box → Box
enter_box b = record { standing = enter_standing b.standing; held = b.held }

-- leaving: who is only outgoing goes, a staged box becomes a learner
abbrev pub leave_standing : Standing → Standing
leave_standing none = none
leave_standing idle = idle
leave_standing I = I
leave_standing L = L
leave_standing O = none
leave_standing IO = I
leave_standing OS = L

-- a box that was only outgoing is tracked no longer
abbrev pub leave_record : Standing → Found → Found
leave_record none f = f
leave_record idle f = f
leave_record I f = f
leave_record L f = f
leave_record O f = absent
leave_record IO f = f
leave_record OS f = f

abbrev pub leave_box : Box → Box
leave_box b = record { standing = leave_standing b.standing; held = leave_record b.standing b.held }

-- ** The plain replay: what happened to one box, and nothing else

-- a change that names the box brings the fresh record that an admission would take
pub data Event : Type 0 where
  entered : Event
  named : Kind → Progress → Event
  left : Event

abbrev pub happen : Event → Box → Box
happen entered b = enter_box b
happen (named k r) b = change_box r k b
happen left b = leave_box b

unfoldable pub replay : List Event → Box → Box
replay [] b = b
replay (e ∷ es) b = replay es (happen e b)

-- "the accepted changes naming that box", in order; a change with id 0 is skipped and names nobody
unfoldable pub naming : Progress → ℕ → List Change → List Event
naming r x [] = []
naming r x (c ∷ cs) = cond (eqb c.id x && not (eqb x 0)) (named c.kind r ∷ naming r x cs) (naming r x cs)

-- what an accepted step was to x
abbrev pub step_events : Progress → ℕ → Step → List Event
step_events r x (simple_step cs) = naming r x cs
step_events r x (enter_step auto cs) = entered ∷ naming r x cs
step_events r x leave_step = left ∷ []

unfoldable pub events : ℕ → ℕ → List Deed → List Event
events inflight x [] = []
events inflight x (d ∷ ds) = step_events (fresh_record d.next inflight) x d.step ++ events inflight x ds
