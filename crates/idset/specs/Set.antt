-- Sets of ids: which list a set holds, which set holds a list, and what each operation makes of any set, malformed ones included.
-- On a well-formed set the operations are those of the rules (proofs/Bridge.antt). Assumes nothing.
use Rattle.std.specs.Prelude.{ℕ, Result, Ok, Err, ◌+◌, ◌-◌, Bool, true, false, ◌&&◌, cond, List, ◌++◌, eqb, leb, length, take, drop, replicate}
use Rattle.rules.specs.Ids.{memb, ascending}
use Rattle.idset.specs.Places.{zeros, rank, place_of, insert_at, remove_at, merge}
use Rattle.idset.specs.declared.IdSet.{IdSet}
use Rattle.idset.specs.declared.Full.{Full}

-- ** The bridge

-- the ids that a set holds: its first places, as many as its count
abbrev pub held : IdSet → List ℕ
held s = take s.len s.ids

-- the set that holds the ids xs: they come first, and the places that are left are 0
unfoldable pub set_of : List ℕ → IdSet
set_of xs = record { ids = xs ++ replicate (64 - length xs) 0; len = length xs }

-- "Each set .. hold[s] at most 64 ids, strictly ascending; unused places hold zero"
unfoldable pub well_formed : IdSet → Bool
well_formed s = eqb (length s.ids) 64 && leb s.len 64 && ascending (held s) && zeros (drop s.len s.ids)

-- ** What the operations come to

-- the set that is left, whether it changed, and whether there was no room
pub record Inserted : Type 0 where
  pub set : IdSet
  pub changed : Bool
  pub full : Bool

pub record Removed : Type 0 where
  pub set : IdSet
  pub changed : Bool

pub record United : Type 0 where
  pub set : IdSet
  pub full : Bool

-- an answer beside the set that is left
abbrev pub inserted : IdSet → Result Bool Full → Inserted
inserted s (Ok changed) = record { set = s; changed = changed; full = false }
inserted s (Err f) = record { set = s; changed = false; full = true }

abbrev pub removed : IdSet → Bool → Removed
removed s changed = record { set = s; changed = changed }

-- an answer beside the set that was asked
abbrev pub united : IdSet → Result IdSet Full → United
united s (Ok t) = record { set = t; full = false }
united s (Err f) = record { set = s; full = true }

-- ** The operations

-- x is there already; there is no room; x comes before the first id that is not less
unfoldable pub insert_of : ℕ → IdSet → Inserted
insert_of x s =
    cond (memb x (held s))
    (record { set = s; changed = false; full = false })
    (cond (leb 64 s.len)
    (record { set = s; changed = false; full = true })
    (record { set = record { ids = insert_at (rank x (held s)) x s.ids; len = s.len + 1 }; changed = true; full = false }))

-- the first x is taken out, if there is one
unfoldable pub remove_of : ℕ → IdSet → Removed
remove_of x s =
    cond (memb x (held s))
    (record { set = record { ids = remove_at (place_of x (held s)) 0 s.ids; len = s.len - 1 }; changed = true })
    (record { set = s; changed = false })

-- all ids of both, where there is room for them
unfoldable pub union_of : IdSet → IdSet → United
union_of s t =
    cond (leb (length (merge (held s) (held t))) 64)
    (record { set = set_of (merge (held s) (held t)); full = false })
    (record { set = s; full = true })
