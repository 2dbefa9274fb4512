-- The code's table is the rules' table, under the names of specs/Table.antt. Assumes nothing.
use Prim.Native.Nat.{ℕ}
use mathlib.Core.Path.{◌≡◌, refl}
use mathlib.Core.Bool.{Bool, true, false, cond}
use lib.Dec.{eqb}
use Rattle.rules.specs.Table as rules
use Rattle.rules.specs.Calls.{kind_of}
use Rattle.changes.specs.Table.{standing_named, kind_named, effect_named, move_of, kind_in, row_of}
use Rattle.changes.specs.declared.table.Standing.{Standing}
use Rattle.changes.specs.declared.table.Standing.TheVariants.{None, Idle, I, L, O, IO, OS}
use Rattle.changes.specs.declared.table.Kind.{Kind}
use Rattle.changes.specs.declared.table.Kind.TheVariants.{AddNode, AddLearnerNode, RemoveNode}

pub table_agrees : (s : Standing) (k : Kind) → rules.table (standing_named s) (kind_named k) ≡ (standing_named (move_of s k).next, effect_named (move_of s k).effect)
unfolding rules.table move_of
table_agrees None AddNode = refl
table_agrees None AddLearnerNode = refl
table_agrees None RemoveNode = refl
table_agrees Idle AddNode = refl
table_agrees Idle AddLearnerNode = refl
table_agrees Idle RemoveNode = refl
table_agrees I AddNode = refl
table_agrees I AddLearnerNode = refl
table_agrees I RemoveNode = refl
table_agrees L AddNode = refl
table_agrees L AddLearnerNode = refl
table_agrees L RemoveNode = refl
table_agrees O AddNode = refl
table_agrees O AddLearnerNode = refl
table_agrees O RemoveNode = refl
table_agrees IO AddNode = refl
table_agrees IO AddLearnerNode = refl
table_agrees IO RemoveNode = refl
table_agrees OS AddNode = refl
table_agrees OS AddLearnerNode = refl
table_agrees OS RemoveNode = refl

-- and so are the standings that it is asked at
pub standing_agrees : (t i o l s : Bool) → rules.standing_in (rules.places t i o l s) ≡ standing_named (row_of t i o l s)
unfolding rules.standing_in
standing_agrees false i o l s = refl
standing_agrees true true true l s = refl
standing_agrees true false true l true = refl
standing_agrees true false true l false = refl
standing_agrees true true false l s = refl
standing_agrees true false false true s = refl
standing_agrees true false false false s = refl

pub kind_agrees : (k : ℕ) → kind_named (kind_in k) ≡ kind_of k
kind_agrees k = go (eqb k 0) (eqb k 1)
  where
    go : (a b : Bool) → kind_named (cond a AddNode (cond b RemoveNode AddLearnerNode)) ≡ cond a (kind_named AddNode) (cond b (kind_named RemoveNode) (kind_named AddLearnerNode))
    go true b = refl
    go false true = refl
    go false false = refl
