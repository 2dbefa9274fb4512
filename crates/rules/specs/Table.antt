-- The table of standings: document 01, "What one change does to one id". Assumes nothing.
use Rattle.std.specs.Prelude.{ℕ, Bool, true, false, not, cond, List}
use Rattle.rules.specs.Ids.{insert_id, memb, remove_id}
use Rattle.rules.specs.State.{Conf, Kind, add_learner, add_node, remove_node}

-- "An id's standing: none (untracked), idle (tracked only), I, L, O, IO, OS for incoming, learner, outgoing, both voters, outgoing
-- and staged. Example 14's id 2 is IOS; no change meets one, since 4 and 6 come first." Nor is a state with one in order (document 02, h).
pub data Standing : Type 0 where
  none idle I L O IO OS : Standing

-- what is logged
pub data Effect : Type 0 where
  stays adds removes : Effect

abbrev pub row : Standing × Effect → Standing × Effect → Standing × Effect → Kind → Standing × Effect
row a l r add_node = a
row a l r add_learner = l
row a l r remove_node = r

-- "After the check, these rules stand as a table"
unfoldable pub table : Standing → Kind → Standing × Effect
--                 AddNode       AddLearnerNode  RemoveNode
table none = row (I, adds) (L, adds) (none, stays)
table idle = row (I, stays) (L, stays) (none, removes)
table I = row (I, stays) (L, stays) (none, removes)
table L = row (I, stays) (L, stays) (none, removes)
table O = row (IO, stays) (OS, stays) (O, stays)
table IO = row (IO, stays) (OS, stays) (O, stays)
table OS = row (IO, stays) (OS, stays) (O, stays)

-- where an id is: tracked, and in which sets
pub record Places : Type 0 where
  pub tracked : Bool
  pub incoming : Bool
  pub outgoing : Bool
  pub learner : Bool
  pub staged : Bool

abbrev pub places : Bool → Bool → Bool → Bool → Bool → Places
places t i o l s = record { tracked = t; incoming = i; outgoing = o; learner = l; staged = s }

-- where an id of each standing is
abbrev pub places_of : Standing → Places
places_of none = places false false false false false
places_of idle = places true false false false false
places_of I = places true true false false false
places_of L = places true false false true false
places_of O = places true false true false false
places_of IO = places true true true false false
places_of OS = places true false true false true

-- the standing of an id that is there; where the check passed and no staged id is an incoming voter, it tells the places again
-- (`Stands-of`)
unfoldable pub standing_in : Places → Standing
standing_in p =
    cond (not p.tracked) none
    (cond p.outgoing (cond p.incoming IO (cond p.staged OS O))
    (cond p.incoming I (cond p.learner L idle)))

-- where x is in a configuration, t telling whether it is tracked
abbrev pub places_in : Bool → Conf → ℕ → Places
places_in t c x = places t (memb x c.incoming) (memb x c.outgoing) (memb x c.learners) (memb x c.staged)

abbrev pub put : Bool → ℕ → List ℕ → List ℕ
put true x xs = insert_id x xs
put false x xs = remove_id x xs

-- x comes to the standing s in each set; no change touches outgoing
abbrev pub place : ℕ → Standing → Conf → Conf
place x s c =
    record {
      incoming = put (places_of s).incoming x c.incoming;
      outgoing = c.outgoing;
      learners = put (places_of s).learner x c.learners;
      staged = put (places_of s).staged x c.staged;
      auto_leave = c.auto_leave;
    }
