-- The code's table and the rules' table: the same rows under the code's names. Assumes nothing.
use Rattle.std.specs.Prelude.{ℕ, Bool, not, cond, eqb}
use Rattle.rules.specs.State as state
use Rattle.rules.specs.Table as rules
use Rattle.changes.specs.declared.table.Standing.{Standing}
use Rattle.changes.specs.declared.table.Standing.TheVariants.{None, Idle, I, L, O, IO, OS}
use Rattle.changes.specs.declared.table.Kind.{Kind}
use Rattle.changes.specs.declared.table.Kind.TheVariants.{AddNode, AddLearnerNode, RemoveNode}
use Rattle.changes.specs.declared.table.Effect.{Effect}
use Rattle.changes.specs.declared.table.Effect.TheVariants.{Stays, Adds, Removes}
use Rattle.changes.specs.declared.table.Move.{Move}

-- ** The code's names for the rules'

abbrev pub standing_named : Standing → rules.Standing
standing_named None = rules.none
standing_named Idle = rules.idle
standing_named I = rules.I
standing_named L = rules.L
standing_named O = rules.O
standing_named IO = rules.IO
standing_named OS = rules.OS

abbrev pub kind_named : Kind → state.Kind
kind_named AddNode = state.add_node
kind_named AddLearnerNode = state.add_learner
kind_named RemoveNode = state.remove_node

abbrev pub effect_named : Effect → rules.Effect
effect_named Stays = rules.stays
effect_named Adds = rules.adds
effect_named Removes = rules.removes

-- ** The table

abbrev pub row : Standing → Effect → Standing → Effect → Standing → Effect → Kind → Move
row a e b f c g AddNode = record { next = a; effect = e }
row a e b f c g AddLearnerNode = record { next = b; effect = f }
row a e b f c g RemoveNode = record { next = c; effect = g }

unfoldable pub move_of : Standing → Kind → Move
move_of None = row I Adds L Adds None Stays
move_of Idle = row I Stays L Stays None Removes
move_of I = row I Stays L Stays None Removes
move_of L = row I Stays L Stays None Removes
move_of O = row IO Stays OS Stays O Stays
move_of IO = row IO Stays OS Stays O Stays
move_of OS = row IO Stays OS Stays O Stays

-- "0 AddNode, 1 RemoveNode, 2 AddLearnerNode"
abbrev pub kind_in : ℕ → Kind
kind_in k = cond (eqb k 0) AddNode (cond (eqb k 1) RemoveNode AddLearnerNode)

-- ** Standings and sets

abbrev pub voter_row : Bool → Bool → Standing
voter_row i s = cond i IO (cond s OS O)

-- tracked, incoming, outgoing, learner, staged
abbrev pub row_of : Bool → Bool → Bool → Bool → Bool → Standing
row_of t i o l s = cond (not t) None (cond o (voter_row i s) (cond i I (cond l L Idle)))

abbrev pub incoming_at : Standing → Bool
incoming_at s = (rules.places_of (standing_named s)).incoming

abbrev pub learner_at : Standing → Bool
learner_at s = (rules.places_of (standing_named s)).learner

abbrev pub staged_at : Standing → Bool
staged_at s = (rules.places_of (standing_named s)).staged
