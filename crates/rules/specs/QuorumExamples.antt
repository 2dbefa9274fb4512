-- Quorums tried on small configurations. Above each line stands what it rules out: a definition that would say something else there. Assumes
-- nothing.
use Rattle.std.specs.Prelude.{ℕ, ◌≡◌, refl, true, false, List, [], ◌∷◌}
use Rattle.rules.specs.Ids.{memb}
use Rattle.rules.specs.State.{Conf, no_conf}
use Rattle.rules.specs.Rows.{conf}
use Rattle.rules.specs.Quorum.{Group, count, everyone, quorum}

-- the group of these ids
abbrev pub only : List ℕ → Group
only xs x = memb x xs

-- (1 2 4)&&(1 2 3), as example 8 enters it; (1)&&(2 3 4)
abbrev joined : Conf
joined = conf (1 ∷ 2 ∷ 4 ∷ []) (1 ∷ 2 ∷ 3 ∷ []) [] (3 ∷ [])

abbrev replaced : Conf
replaced = conf (1 ∷ []) (2 ∷ 3 ∷ 4 ∷ []) [] []

pub quorums :
    -- half is enough
    (quorum (only (1 ∷ [])) (conf (1 ∷ 2 ∷ []) [] [] []) ≡ false)
    × (quorum (only (1 ∷ 2 ∷ [])) (conf (1 ∷ 2 ∷ 3 ∷ 4 ∷ []) [] [] []) ≡ false)
    -- all are needed; an empty outgoing is asked too
    × (quorum (only (1 ∷ 3 ∷ [])) (conf (1 ∷ 2 ∷ 3 ∷ []) [] [] []) ≡ true)
    × (quorum (only (1 ∷ 2 ∷ 4 ∷ [])) (conf (1 ∷ 2 ∷ 3 ∷ 4 ∷ []) [] [] []) ≡ true)
    -- learners count
    × (quorum (only (1 ∷ 4 ∷ [])) (conf (1 ∷ 2 ∷ 3 ∷ []) [] (4 ∷ []) []) ≡ false)
    -- the group's own ids are counted, whosever they are
    × (quorum (only (1 ∷ 7 ∷ 8 ∷ [])) (conf (1 ∷ 2 ∷ 3 ∷ []) [] [] []) ≡ false)
    -- of a joint configuration incoming alone is asked; outgoing alone is
    × (quorum (only (1 ∷ 4 ∷ [])) joined ≡ false)
    × (quorum (only (1 ∷ 3 ∷ [])) joined ≡ false)
    -- only those that are in both are counted
    × (quorum (only (1 ∷ 3 ∷ 4 ∷ [])) joined ≡ true)
    -- more than half of all voters together is enough
    × (quorum (only (2 ∷ 3 ∷ 4 ∷ [])) replaced ≡ false)
    × (quorum (only (1 ∷ 2 ∷ 4 ∷ [])) replaced ≡ true)
    -- without a voter everyone is a quorum
    × (quorum everyone no_conf ≡ false)
    × (quorum everyone (conf [] (1 ∷ []) [] []) ≡ false)
unfolding quorum count memb
quorums = (refl, refl, refl, refl, refl, refl, refl, refl, refl, refl, refl, refl, refl)
