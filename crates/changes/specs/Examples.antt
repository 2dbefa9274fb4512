-- The definitions tried on small lists of changes. Above each line stands what it rules out: a program that would give another value there.
-- Assumes nothing.
use Rattle.std.specs.Prelude.{ℕ, ◌≡◌, refl, true, false, List, [], ◌∷◌}
use Rattle.std.proofs.Common.{ap, ◌∙◌}
use Rattle.std.specs.Borrow.{Bor}
use Rattle.rules.specs.Ids.{memb}
use Rattle.rules.specs.State.{Entry, add, remove}
use Rattle.rules.specs.Changes.{last_says}
use Rattle.rules.specs.Rows.{conf}
use Rattle.idset.specs.Places.{rank, place_of, insert_at, remove_at}
use Rattle.idset.specs.Set.{set_of, insert_of, remove_of}
use Rattle.tracker.specs.Bridge.{configuration_of, entries_of, map_changes_of, change_log_of}
use Rattle.tracker.specs.declared.ChangeLog.{ChangeLog}
use Rattle.tracker.specs.declared.MapChangeType.TheVariants.{Remove}
use Rattle.changes.specs.declared.pending.Pending.{Pending}
use Rattle.changes.specs.declared.table.Standing.{Standing}
use Rattle.changes.specs.declared.table.Standing.TheVariants.{None, Idle, L, O, IO, OS}
use Rattle.changes.specs.declared.table.Kind.TheVariants.{AddNode, AddLearnerNode, RemoveNode}
use Rattle.changes.specs.declared.table.Effect.{Effect}
use Rattle.changes.specs.declared.table.Effect.TheVariants.{Stays, Removes}
use Rattle.changes.specs.declared.table.Move.{Move}
use Rattle.changes.specs.Pending.{tracked_in}
use Rattle.changes.specs.Table.{move_of, kind_in, row_of, incoming_at, learner_at, staged_at}
use Rattle.changes.specs.Change.{Carried, push_in, work_in, full_in, change_in, changes_in}

-- incoming and learners as given, this log, n tracked; m entries did nothing
abbrev work : List ℕ → List ℕ → List Entry → ℕ → ℕ → Carried
work i l es n m = work_in (configuration_of (conf i [] l [])) (change_log_of es) n m

-- voters (1), with 1 tracked or with no room
abbrev w1 : Carried
w1 = work (1 ∷ []) [] [] 1 0

abbrev w64 : Carried
w64 = work (1 ∷ []) [] [] 64 0

pub listed :
    -- `apply` that passes over an entry; that takes the last first
    (changes_in (1 ∷ []) (2 ∷ 3 ∷ []) (0 ∷ 2 ∷ []) w1 ≡ work (1 ∷ 2 ∷ []) (3 ∷ []) (add 2 ∷ add 3 ∷ []) 3 0)
    -- `apply` that goes on after a 16: then 1 is removed
    × (changes_in (1 ∷ []) (2 ∷ 1 ∷ []) (0 ∷ 1 ∷ []) w64 ≡ full_in 2 w64)
    -- `change` that carries id 0 out; that does not count it
    × (change_in (1 ∷ []) 0 AddNode w1 ≡ work (1 ∷ []) [] [] 1 1)
    -- `change` that logs an Add as a Remove
    × (change_in (1 ∷ []) 2 AddNode w1 ≡ work (1 ∷ 2 ∷ []) [] (add 2 ∷ []) 2 0)
    -- `change` that lets a 65th in
    × (change_in (1 ∷ []) 2 AddLearnerNode w64 ≡ full_in 2 w64)
    -- `change` that frees no room
    × (change_in (1 ∷ []) 1 RemoveNode w64 ≡ work [] [] (remove 1 ∷ []) 63 0)
unfolding changes_in change_in push_in move_of insert_of remove_of insert_at remove_at rank place_of memb last_says set_of change_log_of map_changes_of entries_of
listed = (refl, refl, refl, refl, refl, refl)

-- voters (1 2) of outgoing, 2 staged
abbrev staged : Carried
staged = work_in (configuration_of (conf (1 ∷ []) (1 ∷ 2 ∷ []) [] (2 ∷ []))) (change_log_of []) 2 0

pub counted :
    -- counts entries that are not logged: 1 becomes a learner, and then is one
    (changes_in (1 ∷ []) (1 ∷ 1 ∷ []) (2 ∷ 2 ∷ []) w1 ≡ work [] (1 ∷ []) [] 1 1)
    -- asks whether any set changed: 3 is tracked only, and is logged
    × (change_in (1 ∷ 3 ∷ []) 3 RemoveNode w1 ≡ work (1 ∷ []) [] (remove 3 ∷ []) 0 0)
    -- takes a staged id out and puts it back, and counts that as a change
    × ((change_in (1 ∷ 2 ∷ []) 2 AddLearnerNode staged).idle ≡ 1)
    -- counts a removal that has nothing to remove as a change
    × ((change_in (1 ∷ []) 9 RemoveNode w1).idle ≡ 1)
unfolding changes_in change_in push_in move_of insert_of remove_of insert_at remove_at rank place_of memb last_says set_of change_log_of map_changes_of entries_of
counted = (refl, refl, refl, refl)

-- a log whose places are all taken
abbrev taken : ChangeLog
taken = record { entries = (change_log_of []).entries; count = 256 }

pub logged :
    -- `push` that writes over the last entry; that does not count the new one
    (push_in 2 Remove (change_log_of (add 1 ∷ [])) ≡ change_log_of (add 1 ∷ remove 2 ∷ []))
    -- `push` that counts an entry for which there is no place
    × ((push_in 2 Remove taken).count ≡ 256)
unfolding push_in change_log_of map_changes_of
logged = (refl, refl)

-- What `contains`, `is_tracked` and `tracked_in` answer.
pub tracked_or_not :
    -- the first entry decides
    (tracked_in (1 ∷ []) 2 (change_log_of (remove 1 ∷ add 1 ∷ [])) 1 ≡ true)
    -- the base alone is asked
    × (tracked_in (1 ∷ []) 1 (change_log_of (remove 1 ∷ [])) 1 ≡ false)
    -- the log alone is asked
    × (tracked_in (1 ∷ []) 1 (change_log_of (remove 2 ∷ [])) 1 ≡ true)
    -- entries past the count are asked too
    × (tracked_in (1 ∷ []) 0 (change_log_of (remove 1 ∷ [])) 1 ≡ true)
unfolding memb last_says change_log_of map_changes_of entries_of
tracked_or_not = (refl, refl, refl, refl)

-- What is asked through any view r that the contract of `view` allows of the base ids (1) and the count 1.
module _ (base : Bor (List ℕ)) (ids : base.now ≡ 1 ∷ []) (r : Pending) (allowed : (r.base ≡ base) × (r.count ≡ 1)) where
  through : (log : ChangeLog) (x : ℕ) → tracked_in r.base.now r.count log x ≡ tracked_in (1 ∷ []) 1 log x
  through log x =
      ap (λ (b : Bor (List ℕ)). tracked_in b.now r.count log x) allowed.0
      ∙ ap (λ (l : List ℕ). tracked_in l r.count log x) ids
      ∙ ap (λ (n : ℕ). tracked_in (1 ∷ []) n log x) allowed.1

  pub viewed :
      -- a view that counts no entries
      (tracked_in r.base.now r.count (change_log_of (remove 1 ∷ [])) 1 ≡ false)
      -- a view of no ids
      × (tracked_in r.base.now r.count (change_log_of (remove 2 ∷ [])) 1 ≡ true)
  unfolding memb last_says change_log_of map_changes_of entries_of
  viewed = (through (change_log_of (remove 1 ∷ [])) 1, through (change_log_of (remove 2 ∷ [])) 1)

abbrev to : Standing → Effect → Move
to s e = record { next = s; effect = e }

pub moves :
    -- `next_move` that makes a demoted outgoing voter a learner at once
    (move_of IO AddLearnerNode ≡ to OS Stays)
    -- `next_move` that removes a staged box
    × (move_of OS RemoveNode ≡ to O Stays)
    -- `next_move` that logs no Remove for an idle box
    × (move_of Idle RemoveNode ≡ to None Removes)
    -- `Kind::from` with 1 and 2 exchanged; with 0 as a Remove
    × (kind_in 1 ≡ RemoveNode)
    × (kind_in 2 ≡ AddLearnerNode)
    × (kind_in 0 ≡ AddNode)
unfolding move_of
moves = (refl, refl, refl, refl, refl, refl)

-- An id that is tracked, incoming, outgoing, a learner, staged.
pub standings :
    -- `Standing::of` that asks the sets before it asks whether the id is tracked
    (row_of false true false false false ≡ None)
    -- `Standing::of` that asks learners before outgoing
    × (row_of true false true true false ≡ O)
    -- `Standing::of` that asks staged before incoming
    × (row_of true true true false true ≡ IO)
    -- `Standing::of` that takes an idle box for untracked
    × (row_of true false false false false ≡ Idle)
    -- `is_incoming` of I only; of any voter
    × (incoming_at IO ≡ true)
    × (incoming_at O ≡ false)
    -- `is_learner` of a staged id; always no
    × (learner_at OS ≡ false)
    × (learner_at L ≡ true)
    -- `is_staged` of a learner; of any outgoing voter; always no
    × (staged_at L ≡ false)
    × (staged_at O ≡ false)
    × (staged_at OS ≡ true)
standings = (refl, refl, refl, refl, refl, refl, refl, refl, refl, refl, refl)
