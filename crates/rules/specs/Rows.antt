-- The form of the checked examples: a state, a call, and what document 01 says of it. Assumes nothing.
use Rattle.std.specs.Prelude.{ℕ, false, List, [], ◌∷◌}
use Rattle.progress.specs.Record.{fresh_record}
use Rattle.rules.specs.State.{Change, Conf, ConfState, Entry, Kind, Peer, State, add_learner, add_node, remove_node}
use Rattle.rules.specs.Answers.{Verdict, Answer, accepted, refused, Outcome}
use Rattle.rules.specs.Calls.{simple, enter_joint, leave_joint}
use Rattle.rules.specs.Restore.{Step, enter_step, leave_step, simple_step}
use Rattle.rules.specs.Sequences.{Call, simple_call, enter_call, leave_call, restore_call, step_by_step_call, perform}

-- a box with a record from before the call, and one with a record that the call makes (its `next_idx` is 77)
abbrev pub old : ℕ → Peer
old x = record { id = x; progress = fresh_record 10 256 }

abbrev pub new : ℕ → Peer
new x = record { id = x; progress = fresh_record 77 256 }

abbrev pub olds : List ℕ → List Peer
olds [] = []
olds (x ∷ xs) = old x ∷ olds xs

-- incoming, outgoing, learners, staged
abbrev pub conf : List ℕ → List ℕ → List ℕ → List ℕ → Conf
conf i o l g = record { incoming = i; outgoing = o; learners = l; staged = g; auto_leave = false }

abbrev pub of : List Peer → Conf → State
of ps c = record { conf = c; peers = ps; max_inflight = 256 }

-- voters, learners, outgoing voters, staged
abbrev pub lists : List ℕ → List ℕ → List ℕ → List ℕ → ConfState
lists v l o g = record { voters = v; learners = l; voters_outgoing = o; learners_next = g; auto_leave = false }

-- ** A restore's steps, taken one by one

-- the steps before the last, and the last; a leave where there is none
abbrev pub before_last : List Step → List Step
before_last [] = []
before_last (p ∷ []) = []
before_last (p ∷ q ∷ ps) = p ∷ before_last (q ∷ ps)

abbrev pub last_of : List Step → Step
last_of [] = leave_step
last_of (p ∷ []) = p
last_of (p ∷ q ∷ ps) = last_of (q ∷ ps)

abbrev ids_in : List Change → List ℕ
ids_in [] = []
ids_in (c ∷ cs) = c.id ∷ ids_in cs

abbrev number_of : Kind → ℕ
number_of add_node = 0
number_of remove_node = 1
number_of add_learner = 2

abbrev kinds_in : List Change → List ℕ
kinds_in [] = []
kinds_in (c ∷ cs) = number_of c.kind ∷ kinds_in cs

-- the call that a step is
abbrev pub call_of : Step → ℕ → Call
call_of (simple_step cs) n = simple_call (ids_in cs) (kinds_in cs) n
call_of (enter_step auto cs) n = enter_call auto (ids_in cs) (kinds_in cs) n
call_of leave_step n = leave_call n

-- ** The table

pub record Row : Type 0 where
  pub example : ℕ
  pub before : State
  pub call : Call
  pub verdict : Verdict
  pub after : State
  pub log : List Entry

abbrev pub row : ℕ → State → Call → Verdict → State → List Entry → Row
row n s c v t l = record { example = n; before = s; call = c; verdict = v; after = t; log = l }

abbrev log_in : Answer → List Entry
log_in (accepted c log) = log
log_in (refused n x) = []

-- the log that a call gives
abbrev log_of : State → Call → List Entry
log_of s (simple_call xs ks n) = log_in (simple s xs ks)
log_of s (enter_call a xs ks n) = log_in (enter_joint s a xs ks)
log_of s (leave_call n) = log_in (leave_joint s)
log_of s (restore_call cs n) = []
log_of s (step_by_step_call cs n) = []

pub record Seen : Type 0 where
  pub outcome : Outcome
  pub log : List Entry

-- what the rows say, and what the definitions give: the verdict, the state once an accepted answer is applied, the log
abbrev pub told : List Row → List Seen
told [] = []
told (r ∷ rs) = record { outcome = record { verdict = r.verdict; state = r.after }; log = r.log } ∷ told rs

abbrev pub asked : List Row → List Seen
asked [] = []
asked (r ∷ rs) = record { outcome = perform r.before r.call; log = log_of r.before r.call } ∷ asked rs
