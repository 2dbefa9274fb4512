-- The definitions tried on small configurations. Above each line stands what it rules out: a program that would give another value there.
-- Assumes nothing.
use Rattle.std.specs.Prelude.{ℕ, ◌≡◌, refl, true, false, [], ◌∷◌, take, Some, None}
use Rattle.rules.specs.Ids.{apart, memb, above, ascending, insert_id, insert_all, same_ids}
use Rattle.rules.specs.State.{State, ids, conf_formed, formed}
use Rattle.rules.specs.Answers.{ok, fault, each}
use Rattle.rules.specs.Check.{joint, check, check_state, in_order}
use Rattle.rules.specs.Rows.{olds, conf, of}
use Rattle.rules.specs.Cases.{s1, s14, m1}
use Rattle.idset.specs.Places.{rank, first_is}
use Rattle.idset.specs.Set.{set_of, well_formed}
use Rattle.tracker.specs.Bridge.{conf_of, configuration_of, tracker_of}
use Rattle.tracker.specs.Form.{conf_well_formed, tracker_well_formed}
use Rattle.tracker.specs.Apply.{verdict_of}
use Rattle.tracker.specs.Apply.{Verdict}
use Rattle.tracker.proofs.Bridge.{state-back, tracker_well}
use Rattle.invariants.specs.Walk.{first_out, first_in}
use Rattle.invariants.specs.Check.{voters_walk, learners_walk, rest_walk, check_walk, check_of, in_order_of}

-- `joint` that asks incoming; that is negated
pub joint_or_not : (joint (conf_of (configuration_of (conf (1 ∷ []) [] [] []))) ≡ false) × (joint (conf_of (configuration_of (conf [] (1 ∷ []) [] []))) ≡ true)
unfolding set_of
joint_or_not = (refl, refl)

pub walked :
    -- without `among`, a `first_where` that gives the last
    (first_out (1 ∷ 2 ∷ 3 ∷ []) (2 ∷ []) ≡ Some 1)
    -- that finds something where all are met
    × (first_out (1 ∷ 3 ∷ []) (1 ∷ 2 ∷ 3 ∷ []) ≡ None)
    -- that begins anew at each id: on lists that do not ascend the walk does not meet 1
    × (first_out (5 ∷ 1 ∷ []) (1 ∷ 5 ∷ []) ≡ Some 1)
    -- that looks past the first slice
    × (first_out (take 1 (2 ∷ [])) (take 1 (1 ∷ 2 ∷ [])) ≡ Some 2)
    -- with `among`, a `first_where` that gives the last
    × (first_in (1 ∷ 2 ∷ 3 ∷ []) (2 ∷ 3 ∷ []) ≡ Some 2)
    -- that begins anew at each id
    × (first_in (5 ∷ 1 ∷ []) (1 ∷ 6 ∷ []) ≡ None)
    -- that looks past the second slice
    × (first_in (take 1 (1 ∷ 2 ∷ [])) (take 1 (2 ∷ [])) ≡ None)
unfolding first_out first_in rank first_is
walked = (refl, refl, refl, refl, refl, refl, refl)

-- The parts of the check: the tracked ids, and the sets that each asks.
pub parts :
    -- `check_voters` that asks incoming first; that asks outgoing alone
    (voters_walk (4 ∷ []) (3 ∷ []) (2 ∷ []) ≡ fault 7 2)
    × (voters_walk (4 ∷ []) (3 ∷ []) (4 ∷ []) ≡ fault 7 3)
    -- `check_learners` that asks 8 of all before 9; that exchanges 9 and 10
    × (learners_walk (1 ∷ []) [] (1 ∷ []) (1 ∷ 2 ∷ []) ≡ fault 9 1)
    × (learners_walk (1 ∷ []) (1 ∷ []) [] (1 ∷ []) ≡ fault 10 1)
    -- `check_staged` that takes 12 as the Rust's text has it; that gives 12 before 11
    × (rest_walk (1 ∷ []) (1 ∷ []) (1 ∷ []) false ≡ ok)
    × (rest_walk [] [] (1 ∷ []) false ≡ fault 11 1)
    -- `check_staged` that refuses the flag where it is joint; that lets it pass where it is not
    × (rest_walk (1 ∷ []) (1 ∷ []) (1 ∷ []) true ≡ ok)
    × (rest_walk [] [] [] true ≡ fault 14 0)
    -- `check_staged` that gives 13 where 12 comes first; that gives 14 where 12 comes first
    × (rest_walk (1 ∷ []) [] (1 ∷ []) false ≡ fault 12 1)
    × (rest_walk (1 ∷ []) [] (1 ∷ []) true ≡ fault 12 1)
unfolding first_out first_in rank first_is
parts = (refl, refl, refl, refl, refl, refl, refl, refl, refl, refl)

-- The tracked ids, and the configuration.
pub faults :
    -- 7 looked for set by set: 3
    (check_walk (4 ∷ []) (conf (3 ∷ 4 ∷ []) (2 ∷ []) [] []) ≡ fault 7 2)
    -- the later fault: 3 is not tracked
    × (check_walk (1 ∷ 2 ∷ []) (conf (1 ∷ []) (1 ∷ 2 ∷ []) (2 ∷ 3 ∷ []) []) ≡ fault 9 2)
    -- 9 and 10 exchanged
    × (check_walk (1 ∷ []) (conf (1 ∷ []) (1 ∷ []) (1 ∷ []) []) ≡ fault 9 1)
    × (check_walk (1 ∷ 2 ∷ []) (conf (1 ∷ 2 ∷ []) [] (2 ∷ []) []) ≡ fault 10 2)
    -- 12 as the Rust's text has it: for a staged id that is an outgoing voter
    × (check_walk (1 ∷ 2 ∷ []) (conf (1 ∷ []) (1 ∷ 2 ∷ []) [] (2 ∷ [])) ≡ ok)
    × (check_walk (1 ∷ 2 ∷ []) (conf (1 ∷ []) (1 ∷ []) [] (2 ∷ [])) ≡ fault 12 2)
unfolding check_walk first_out first_in rank first_is
faults = (refl, refl, refl, refl, refl, refl)

abbrev said : ℕ → ℕ → Verdict
said n x = record { number = n; id = x }

-- of a well-formed state both are the rules', through the bridge
check-of : (s : State) → formed s ≡ true → check_of (tracker_of s) ≡ verdict_of (check_state s)
unfolding check_of
check-of s w = rw (tracker_well s w, state-back s w)

order_of : (s : State) → formed s ≡ true → in_order_of (tracker_of s) ≡ in_order s
unfolding in_order_of
order_of s w = rw (tracker_well s w, state-back s w)

-- voter 1 not tracked; id 0 tracked, a voter; voter 1 with an idle box 2; (1)&&(1 2) with 2 staged
abbrev untracked : State
untracked = of [] s1.conf

abbrev zero_in : State
zero_in = of (olds (0 ∷ [])) (conf (0 ∷ []) [] [] [])

abbrev idle_in : State
idle_in = of (olds (1 ∷ 2 ∷ [])) s1.conf

abbrev staged_out : State
staged_out = of (olds (1 ∷ 2 ∷ [])) (conf (1 ∷ []) (1 ∷ 2 ∷ []) [] (2 ∷ []))

pub checked :
    -- `check` that refuses everything
    (check_of (tracker_of s1) ≡ said 0 0)
    -- `check` that accepts a malformed state
    × (check_of (tracker_of m1) ≡ said 1 0)
    -- `check` that does not look at the tracked ids; that drops the id
    × (check_of (tracker_of untracked) ≡ said 7 1)
    -- `in_order` that is always no
    × (in_order_of (tracker_of s1) ≡ true)
    -- `in_order` that lets id 0 in
    × (in_order_of (tracker_of zero_in) ≡ false)
    -- `in_order` that lets an idle box in
    × (in_order_of (tracker_of idle_in) ≡ false)
    -- `in_order` that lets an untracked member in
    × (in_order_of (tracker_of untracked) ≡ false)
    -- `in_order` that lets a box with two roles in, as example 14's state has one
    × (in_order_of (tracker_of s14) ≡ false)
    -- `in_order` that lets no staged outgoing voter in
    × (in_order_of (tracker_of staged_out) ≡ true)
    -- `check` that refuses two roles, which the Rust's does not
    × (check_of (tracker_of s14) ≡ said 0 0)
unfolding check_of tracker_well_formed conf_well_formed well_formed set_of ids check_state in_order apart check each formed conf_formed memb above ascending insert_id insert_all same_ids
checked =
    (check-of s1 refl, refl, check-of untracked refl, order_of s1 refl, order_of zero_in refl, order_of idle_in refl, order_of untracked refl, order_of s14 refl, order_of staged_out refl, check-of s14 refl)
