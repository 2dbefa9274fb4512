-- The pending log, one change, and a list of them: document 01, "What one change does to one id". Assumes nothing.
use Rattle.std.specs.Prelude.{ℕ, Bool, ◌&&◌, ◌||◌, not, cond, List, [], ◌∷◌, ◌++◌, length, eqb, leb}
use Rattle.rules.specs.Ids.{insert_id, memb, remove_id}
use Rattle.rules.specs.State.{Change, Conf, Entry, add, remove}
use Rattle.rules.specs.Table.{Effect, Standing, adds, place, places_in, removes, standing_in, stays, table}

-- the last entry for x decides; b where there is none
unfoldable pub last_says : ℕ → List Entry → Bool → Bool
last_says x [] b = b
last_says x (add y ∷ es) b = last_says x es (eqb y x || b)
last_says x (remove y ∷ es) b = last_says x es (not (eqb y x) && b)

-- "Tracked is asked of the base ids with the pending log over them, the last entry for the id deciding."
abbrev pub pending_tracked : List ℕ → List Entry → ℕ → Bool
pending_tracked base log x = last_says x log (memb x base)

-- the base ids with the log over them
unfoldable pub pending : List Entry → List ℕ → List ℕ
pending [] base = base
pending (add y ∷ es) base = pending es (insert_id y base)
pending (remove y ∷ es) base = pending es (remove_id y base)

-- the configuration and the log, as far as a list is carried out
pub record Work : Type 0 where
  pub conf : Conf
  pub log : List Entry

-- carried out, or stopped at an id for which there is no room
pub data Done : Type 0 where
  done : Work → Done
  full : ℕ → Done

-- the change is logged as the table says; 16: "an untracked id to be tracked while 64 are". "Room freed earlier in the same list is
-- used."
abbrev pub logged : Effect → List ℕ → ℕ → Conf → List Entry → Done
logged stays base x c log = done (record { conf = c; log = log })
logged adds base x c log = cond (leb 64 (length (pending log base))) (full x) (done (record { conf = c; log = log ++ (add x ∷ []) }))
logged removes base x c log = done (record { conf = c; log = log ++ (remove x ∷ []) })

-- where x stands at its turn
abbrev pub standing_now : List ℕ → Work → ℕ → Standing
standing_now base w x = standing_in (places_in (pending_tracked base w.log x) w.conf x)

-- one change, by the table. "A change with id 0 is skipped"
unfoldable pub change : List ℕ → Change → Work → Done
change base c w =
    cond (eqb c.id 0) (done w)
    (let to : Standing × Effect = table (standing_now base w c.id) c.kind in
    logged to.1 base c.id (place c.id to.0 w.conf) w.log)

abbrev pub and_then : Done → (Work → Done) → Done
and_then (done w) k = k w
and_then (full x) k = full x

-- "the changes, stopping at the first 16"
unfoldable pub changes : List ℕ → List Change → Work → Done
changes base [] w = done w
changes base (c ∷ cs) w = and_then (change base c w) (λ v. changes base cs v)
