-- Sequences of calls, and what was accepted of them: demand 3, "any sequence of simple, enter, leave and restore calls, refused ones
-- included". Assumes nothing.
use Rattle.std.specs.Prelude.{ℕ, Bool, List, [], ◌∷◌, ◌++◌}
use Rattle.rules.specs.State.{ConfState, State}
use Rattle.rules.specs.Answers.{Outcome, Verdict, fault, ok}
use Rattle.rules.specs.Calls.{enter_joint, leave_joint, list_of, simple}
use Rattle.rules.specs.Restore.{Step, apply_answer, attempt, enter_step, leave_step, restorable, restore, restore_step_by_step, restore_steps, simple_step}

-- a call with its arguments; the last number is `next_idx`
pub data Call : Type 0 where
  simple_call : List ℕ → List ℕ → ℕ → Call
  enter_call : Bool → List ℕ → List ℕ → ℕ → Call
  leave_call : ℕ → Call
  restore_call : ConfState → ℕ → Call
  step_by_step_call : ConfState → ℕ → Call

-- "apply each accepted answer at once to the state it was asked of"
unfoldable pub perform : State → Call → Outcome
perform s (simple_call xs ks n) = apply_answer s n (simple s xs ks)
perform s (enter_call auto xs ks n) = apply_answer s n (enter_joint s auto xs ks)
perform s (leave_call n) = apply_answer s n (leave_joint s)
perform s (restore_call cs n) = restore s cs n
perform s (step_by_step_call cs n) = restore_step_by_step s cs n

unfoldable pub after_calls : State → List Call → State
after_calls s [] = s
after_calls s (c ∷ cs) = after_calls (perform s c).state cs

-- ** What was accepted

pub record Deed : Type 0 where
  pub step : Step
  pub next : ℕ

abbrev pub if_ok : Verdict → List Deed → List Deed
if_ok ok ds = ds
if_ok (fault n x) ds = []

-- these steps, all of them
unfoldable pub in_turn : ℕ → List Step → List Deed
in_turn n [] = []
in_turn n (p ∷ ps) = record { step = p; next = n } ∷ in_turn n ps

-- the steps of a run up to the refused one
unfoldable pub deeds_of_run : ℕ → State → List Step → List Deed
deeds_of_run n s [] = []
deeds_of_run n s (p ∷ ps) = if_ok (attempt n s p).verdict (record { step = p; next = n } ∷ deeds_of_run n (attempt n s p).state ps)

-- "Each accepted step of a restore counts as a call." Of one that is asked for step by step these are the steps up to the refused one; document
-- 02, g): "in demand 3 a refused whole restore counts no steps".
unfoldable pub deeds_of : State → Call → List Deed
deeds_of s (simple_call xs ks n) = if_ok (perform s (simple_call xs ks n)).verdict (record { step = simple_step (list_of xs ks); next = n } ∷ [])
deeds_of s (enter_call auto xs ks n) = if_ok (perform s (enter_call auto xs ks n)).verdict (record { step = enter_step auto (list_of xs ks); next = n } ∷ [])
deeds_of s (leave_call n) = if_ok (perform s (leave_call n)).verdict (record { step = leave_step; next = n } ∷ [])
deeds_of s (restore_call cs n) = if_ok (perform s (restore_call cs n)).verdict (in_turn n (restore_steps cs))
deeds_of s (step_by_step_call cs n) = if_ok (restorable s cs) (deeds_of_run n s (restore_steps cs))

unfoldable pub deeds : State → List Call → List Deed
deeds s [] = []
deeds s (c ∷ cs) = deeds_of s c ++ deeds (perform s c).state cs

-- the state that accepted steps lead to, each asked of the one that those before it left
unfoldable pub after_deeds : State → List Deed → State
after_deeds s [] = s
after_deeds s (d ∷ ds) = after_deeds (attempt d.next s d.step).state ds
