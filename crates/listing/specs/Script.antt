-- The replay script: document 01, the section of that name. Assumes nothing.
use Rattle.std.specs.Prelude.{ℕ, zero, suc, ◌+◌, ◌*◌, Bool, ◌&&◌, ◌||◌, not, cond, List, [], ◌∷◌, ◌++◌, eqb, leb, ltb, length, get_or}
use Rattle.rules.specs.Ids.{is_empty}
use Rattle.rules.specs.State.{State, fresh}
use Rattle.rules.specs.Answers.{Answer}
use Rattle.rules.specs.Calls.{simple, enter_joint, leave_joint}
use Rattle.rules.specs.Restore.{apply_answer}

-- the k bytes from `at` on as a number, the least significant first
unfoldable pub number : ℕ → List ℕ → ℕ → ℕ
number zero s at = 0
number (suc k) s at = get_or s at 0 + 256 * number k s (at + 1)

-- "Records are one byte of kind and an 8-byte little-endian number."
abbrev pub kind_at : List ℕ → ℕ → ℕ
kind_at s at = get_or s at 0

abbrev pub number_at : List ℕ → ℕ → ℕ
number_at s at = number 8 s (at + 1)

-- a replay: the state, the pending list as ids and kinds, and how many lines were printed
pub record Session : Type 0 where
  pub state : State
  pub ids : List ℕ
  pub kinds : List ℕ
  pub printed : ℕ

-- "beginning from the fresh state with `max_inflight` 256"
abbrev pub begin : Session
begin = record { state = fresh 256; ids = []; kinds = []; printed = 0 }

-- "Kinds 0, 1, 2 add a change to the pending list."
abbrev pub is_change : ℕ → Bool
is_change kind = leb kind 2

-- "An unknown kind, .., a 257th pending change, or a leave with changes pending ends the listing"
unfoldable pub stops : Session → ℕ → Bool
stops z kind = ltb 6 kind || (is_change kind && leb 256 (length z.ids)) || (eqb kind 6 && not (is_empty z.ids))

-- "Kinds 3 (simple), 4 (enter), 5 (enter with auto leave), 6 (leave) run it"
unfoldable pub answer_to : Session → ℕ → Answer
answer_to z kind =
    cond (eqb kind 3) (simple z.state z.ids z.kinds)
    (cond (eqb kind 6) (leave_joint z.state)
    (enter_joint z.state (eqb kind 5) z.ids z.kinds))

-- "the number being `next_idx`; an accepted answer is applied, and the pending list is emptied either way"
unfoldable pub after : Session → ℕ → ℕ → Session
after z kind n =
    cond (is_change kind)
    (record { state = z.state; ids = z.ids ++ (n ∷ []); kinds = z.kinds ++ (kind ∷ []); printed = z.printed })
    (record { state = (apply_answer z.state n (answer_to z kind)).state; ids = []; kinds = []; printed = suc z.printed })
