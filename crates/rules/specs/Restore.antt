-- `restore_step_by_step`, which is `restore` of document 01, "What one change does to one id", and the whole `restore` of document 02, g).
-- Assumes nothing.
use Rattle.std.specs.Prelude.{ℕ, Bool, ◌&&◌, not, cond, List, [], ◌∷◌, ◌++◌, length, leb}
use Rattle.rules.specs.Ids.{is_empty}
use Rattle.rules.specs.State.{Change, ConfState, Kind, State, add_learner, add_node, formed, remove_node}
use Rattle.rules.specs.Answers.{Answer, Outcome, Verdict, ◌▸◌, accepted, fault, ok, refuse, refused, settle}
use Rattle.rules.specs.Calls.{enter_of, leave_of, simple_of}
use Rattle.rules.specs.Apply.{apply_conf}

-- one step: a call whose list was read, of a state that is well formed
pub data Step : Type 0 where
  simple_step : List Change → Step
  enter_step : Bool → List Change → Step
  leave_step : Step

unfoldable pub ask : State → Step → Answer
ask s (simple_step cs) = simple_of s cs
ask s (enter_step auto cs) = enter_of s auto cs
ask s leave_step = leave_of s

-- an accepted answer is applied at once to the state that it was asked of
abbrev pub apply_answer : State → ℕ → Answer → Outcome
apply_answer s next (accepted c log) = apply_conf s c log next
apply_answer s next (refused n x) = record { verdict = fault n x; state = s }

abbrev pub attempt : ℕ → State → Step → Outcome
attempt next s p = apply_answer s next (ask s p)

abbrev pub go_on : Outcome → (State → Outcome) → Outcome
go_on o k = elim o.verdict as (λ v. Outcome) [ ok ↦ k o.state | fault n x ↦ o ]

-- "Every step is applied with the given `next_idx`. A refused step ends it; earlier steps stay and its number and id are returned."
unfoldable pub run : ℕ → State → List Step → Outcome
run next s [] = record { verdict = ok; state = s }
run next s (p ∷ ps) = go_on (attempt next s p) (λ t. run next t ps)

-- a change of this kind for each id, in the list's order
unfoldable pub all : Kind → List ℕ → List Change
all k [] = []
all k (x ∷ xs) = record { kind = k; id = x } ∷ all k xs

-- "as a `simple` of its own"
unfoldable pub one_by_one : List Change → List Step
one_by_one [] = []
one_by_one (c ∷ cs) = simple_step (c ∷ []) ∷ one_by_one cs

-- "add each voter, add-learner each learner, then each staged"
abbrev pub wanted : ConfState → List Change
wanted cs = all add_node cs.voters ++ (all add_learner cs.learners ++ all add_learner cs.learners_next)

-- "No outgoing: each voter, learner and staged id in list order as a `simple` of its own (AddNode for voters, AddLearnerNode for the
-- others); the flag is ignored. Otherwise one `simple` AddNode per outgoing id, then one `enter_joint` with: remove each outgoing, add
-- each voter, add-learner each learner, then each staged."
unfoldable pub restore_steps : ConfState → List Step
restore_steps cs =
    cond (is_empty cs.voters_outgoing)
    (one_by_one (wanted cs))
    (one_by_one (all add_node cs.voters_outgoing) ++ (enter_step cs.auto_leave (all remove_node cs.voters_outgoing ++ wanted cs) ∷ []))

abbrev pub short : List ℕ → Bool
short xs = leb (length xs) 64

-- "1, 2 first"
unfoldable pub restorable : State → ConfState → Verdict
restorable s cs =
    refuse (not (formed s)) 1 0
    ▸ refuse (not (short cs.voters && short cs.learners && short cs.voters_outgoing && short cs.learners_next)) 2 0

abbrev pub guarded : Verdict → State → Outcome → Outcome
guarded ok s o = o
guarded (fault n x) s o = record { verdict = fault n x; state = s }

-- "It gives no log. Four empty lists are accepted and change nothing."
unfoldable pub restore_step_by_step : State → ConfState → ℕ → Outcome
restore_step_by_step s cs next = guarded (restorable s cs) s (run next s (restore_steps cs))

-- Document 02, g): "By default a refused `restore` now returns the state it was given, with the same number and id."
unfoldable pub restore : State → ConfState → ℕ → Outcome
restore s cs next = settle (restore_step_by_step s cs next).verdict s (restore_step_by_step s cs next).state
