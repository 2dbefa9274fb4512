-- The definitions tried on small sets, malformed ones among them. Above each line stands what it rules out: a program that would give another
-- value there. Assumes nothing.
use Rattle.std.specs.Prelude.{ℕ, ◌+◌, ◌≡◌, refl, true, false, [], ◌∷◌, take, drop, replicate, Some, None}
use Rattle.rules.specs.Ids.{memb, above, ascending, is_empty}
use Rattle.rules.specs.Cases.{up_to}
use Rattle.idset.specs.Places.{zeros, rank, place_of, first_is, insert_at, remove_at, merge, two_apart}
use Rattle.idset.specs.Set.{held, set_of, well_formed, insert_of, remove_of, union_of}
use Rattle.idset.specs.Walk.{next, next_of}
use Rattle.idset.specs.declared.IdSet.{IdSet}

abbrev s15 : IdSet
s15 = set_of (1 ∷ 5 ∷ [])

-- 5 and 1 in the first places, with any count
abbrev counted : ℕ → IdSet
counted n = record { ids = (set_of (5 ∷ 1 ∷ [])).ids; len = n }

pub empty_or_not :
    -- `new` with a count left
    ((set_of []).len ≡ 0)
    -- `new` with an id in a place
    × ((set_of []).ids ≡ replicate 64 0)
    -- `is_empty` that is always no
    × (is_empty (held (set_of [])) ≡ true)
    -- `is_empty` that looks at the first place: it has 5, and the count is 0; it has 0, and the count is 1
    × (is_empty (held (counted 0)) ≡ true)
    × (is_empty (held (set_of (0 ∷ []))) ≡ false)
unfolding set_of
empty_or_not = (refl, refl, refl, refl, refl)

pub well_formed_or_not :
    -- `is_malformed` and `malformed_in` that are always yes, on no id, on two and on 64
    (well_formed (set_of []) ≡ true)
    × (well_formed s15 ≡ true)
    × (well_formed (set_of (up_to 64 [])) ≡ true)
    -- ids that do not ascend let in
    × (well_formed (counted 2) ≡ false)
    -- equal ids let in
    × (well_formed (set_of (5 ∷ 5 ∷ [])) ≡ false)
    -- a used place past the count let in
    × (well_formed (counted 1) ≡ false)
    -- a count past the places let in
    × (well_formed (record { ids = up_to 64 []; len = 65 }) ≡ false)
    -- `malformed_in` that takes any number of places for 64
    × (well_formed (record { ids = up_to 63 []; len = 63 }) ≡ false)
unfolding set_of well_formed ascending above zeros
well_formed_or_not = (refl, refl, refl, refl, refl, refl, refl, refl)

pub zero_or_not :
    -- `zero_from` that is always no; that looks before `from`
    (zeros (drop 1 (5 ∷ 0 ∷ 0 ∷ [])) ≡ true)
    -- that looks at the first place only; that stops before the last
    × (zeros (drop 1 (5 ∷ 0 ∷ 7 ∷ [])) ≡ false)
    -- that finds something past the end
    × (zeros (drop 9 (5 ∷ [])) ≡ true)
unfolding zeros
zero_or_not = (refl, refl, refl)

pub inserted :
    -- drops the displaced id 5; says that nothing changed
    (insert_of 3 s15 ≡ record { set = set_of (1 ∷ 3 ∷ 5 ∷ []); changed = true; full = false })
    -- inserts an id that is there a second time
    × (insert_of 5 s15 ≡ record { set = s15; changed = false; full = false })
    -- inserts a 65th
    × ((insert_of 65 (set_of (up_to 64 []))).full ≡ true)
    -- inserts at the end of a malformed set, and not before the first id that is not less
    × (held (insert_of 3 (counted 2)).set ≡ 3 ∷ 5 ∷ 1 ∷ [])
unfolding set_of insert_of insert_at rank memb
inserted = (refl, refl, refl, refl)

pub removed :
    -- leaves the vacated place as it was; says that nothing changed
    (remove_of 1 s15 ≡ record { set = set_of (5 ∷ []); changed = true })
    -- takes out another id where this one is not there
    × (remove_of 3 s15 ≡ record { set = s15; changed = false })
    -- takes out the last instead of the first
    × (held (remove_of 5 (set_of (5 ∷ 1 ∷ 5 ∷ []))).set ≡ 1 ∷ 5 ∷ [])
unfolding set_of remove_of remove_at place_of memb
removed = (refl, refl, refl)

pub united :
    -- has an id of both twice
    (union_of s15 (set_of (2 ∷ 5 ∷ 9 ∷ [])) ≡ record { set = set_of (1 ∷ 2 ∷ 5 ∷ 9 ∷ []); full = false })
    -- cuts at 64 instead of refusing: the ids 0 to 63
    × (union_of (set_of (up_to 64 [])) (set_of (0 ∷ [])) ≡ record { set = set_of (up_to 64 []); full = true })
unfolding set_of union_of merge
united = (refl, refl)

pub walked :
    -- `two_apart` that is always yes
    (two_apart false (1 ∷ 5 ∷ []) (1 ∷ 5 ∷ []) ≡ false)
    -- `two_apart` that stops at the first difference
    × (two_apart false (1 ∷ 5 ∷ []) (1 ∷ []) ≡ false)
    -- `two_apart` that counts what one side has and the other has not
    × (two_apart false (1 ∷ 5 ∷ []) (1 ∷ 6 ∷ []) ≡ true)
    -- `next_of` that takes the greater first
    × (next_of (1 ∷ []) (2 ∷ []) 0 0 ≡ Some (next false 1 1 0))
    -- `next_of` that passes only one of two equal ids
    × (next_of (2 ∷ []) (2 ∷ []) 3 4 ≡ Some (next true 2 4 5))
    -- `next_of` that goes on where nothing is left
    × (next_of [] [] 3 4 ≡ None)
unfolding two_apart next_of
walked = (refl, refl, refl, refl, refl, refl)

pub found :
    -- `contains` that looks at one place less
    (memb 5 (held s15) ≡ true)
    -- `contains` that finds 0 in unused places; `contains_in` that looks past its slice
    × (memb 0 (held s15) ≡ false)
    -- `contains_in` that stops at the first greater id
    × (memb 1 (take 2 (5 ∷ 1 ∷ [])) ≡ true)
    -- `seek` that passes an equal id
    × (0 + rank 5 (drop 0 (take 2 (1 ∷ 5 ∷ []))) ≡ 1)
    -- `seek` that starts at 0
    × (1 + rank 1 (drop 1 (take 2 (1 ∷ 5 ∷ []))) ≡ 1)
    -- `seek` that goes past the end
    × (0 + rank 6 (drop 0 (take 1 (1 ∷ 5 ∷ []))) ≡ 1)
    -- `stands_at` that is always no
    × (first_is 5 (drop 1 (take 2 (1 ∷ 5 ∷ []))) ≡ true)
    -- `stands_at` that looks past its slice
    × (first_is 5 (drop 1 (take 1 (1 ∷ 5 ∷ []))) ≡ false)
    -- `stands_at` that is true past the end
    × (first_is 5 (drop 2 (take 9 (1 ∷ 5 ∷ []))) ≡ false)
    -- a place that is taken for one past the end
    × (is_empty (drop 1 (take 2 (1 ∷ 5 ∷ []))) ≡ false)
    -- a place past the end that is taken for one of the ids
    × (is_empty (drop 1 (take 1 (1 ∷ 5 ∷ []))) ≡ true)
    -- one further past the end
    × (is_empty (drop 2 (take 9 (1 ∷ 5 ∷ []))) ≡ true)
unfolding set_of memb rank first_is
found = (refl, refl, refl, refl, refl, refl, refl, refl, refl, refl, refl, refl)
