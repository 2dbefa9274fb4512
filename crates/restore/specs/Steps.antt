-- What the steps of `restore` answer: a change list in arrays, and the steps where there are outgoing voters. Assumes nothing.
use Rattle.std.specs.Prelude.{ℕ, ◌+◌, ◌≤◌, ◌≡◌, List, [], ◌∷◌, ◌++◌, length, take, set, replicate}
use Rattle.rules.specs.State as State
use Rattle.rules.specs.State.{Change, add_learner, add_node, remove_node}
use Rattle.rules.specs.Answers.{ok}
use Rattle.rules.specs.Calls.{kind_of, list_of, readable}
use Rattle.rules.specs.Restore.{Step, all, enter_step, one_by_one, wanted}
use Rattle.tracker.specs.Bridge.{entries_in, lists_of}
use Rattle.tracker.specs.declared.ConfState.{ConfState}
use Rattle.tracker.specs.declared.IdList.{IdList}
use Rattle.changes.specs.declared.table.Kind.{Kind}
use Rattle.changes.specs.declared.table.Kind.TheVariants.{AddNode, AddLearnerNode, RemoveNode}
use Rattle.restore.specs.declared.Changes.{Changes}

-- ** Kinds

-- "0 AddNode, 1 RemoveNode, 2 AddLearnerNode"
abbrev pub number_in : Kind → ℕ
number_in AddNode = 0
number_in RemoveNode = 1
number_in AddLearnerNode = 2

-- the number of a kind of change
abbrev pub code : State.Kind → ℕ
code add_node = 0
code remove_node = 1
code add_learner = 2

-- ** A change list in arrays

-- no change
abbrev pub no_changes : Changes
no_changes = record { ids = replicate 256 0; kinds = replicate 256 0; len = 0 }

-- c with x, of the kind k
abbrev pub pushed : Changes → ℕ → ℕ → Changes
pushed c x k = record { ids = set c.ids c.len x; kinds = set c.kinds c.len k; len = c.len + 1 }

-- c with each of these
unfoldable pub listed : Changes → List Change → Changes
listed c [] = c
listed c (d ∷ ds) = listed (pushed c d.id (code d.kind)) ds

abbrev pub ids_in : Changes → List ℕ
ids_in c = take c.len c.ids

abbrev pub kinds_in : Changes → List ℕ
kinds_in c = take c.len c.kinds

-- r is c with x, of the kind k
pub record Pushed (c : Changes) (x k : ℕ) (r : Changes) : Type 0 where
  pub count : r.len ≡ c.len + 1
  pub ids : ids_in r ≡ ids_in c ++ (x ∷ [])
  pub kinds : kinds_in r ≡ kinds_in c ++ (k ∷ [])
  pub is : r ≡ pushed c x k

-- r is c with each id of l, of the kind k
pub record Appended (c : Changes) (l : IdList) (k : ℕ) (r : Changes) : Type 0 where
  pub few : length (entries_in l) ≤ 64
  pub count : r.len ≡ c.len + length (entries_in l)
  pub ids : ids_in r ≡ ids_in c ++ entries_in l
  pub kinds : kinds_in r ≡ kinds_in c ++ replicate (length (entries_in l)) k
  pub is : r ≡ listed c (all (kind_of k) (entries_in l))

-- r holds these changes and nothing else, can be read, and says them
pub record Listed (r : Changes) (cs : List Change) : Type 0 where
  pub few : r.len ≤ 256
  pub reads : readable (ids_in r) (kinds_in r) ≡ ok
  pub says : list_of (ids_in r) (kinds_in r) ≡ cs
  pub is : r ≡ listed no_changes cs

-- ** The steps

-- "remove each outgoing, add each voter, add-learner each learner, then each staged"
abbrev pub entered : ConfState → List Change
entered cs = all remove_node (entries_in cs.voters_outgoing) ++ wanted (lists_of cs)

-- "one `simple` AddNode per outgoing id, then one `enter_joint`"
abbrev pub joint_steps : ConfState → List Step
joint_steps cs = one_by_one (all add_node (entries_in cs.voters_outgoing)) ++ (enter_step cs.auto_leave (entered cs) ∷ [])
