-- Examples of the check, of in order, of `apply_conf` and of `to_conf_state`, worked out from document 01. Assumes nothing.
use Rattle.std.specs.Prelude.{ℕ, zero, suc, ◌≡◌, refl, true, false, List, [], ◌∷◌, ◌++◌}
use Rattle.rules.specs.Ids.{apart, memb, above, ascending, insert_id, insert_all, remove_id, same_ids}
use Rattle.rules.specs.State.{Conf, State, ids, conf_formed, formed, no_conf, Entry, add, remove, log_formed}
use Rattle.rules.specs.Answers.{Verdict, ok, fault, Outcome, each}
use Rattle.rules.specs.Check.{check, check_state, in_order}
use Rattle.rules.specs.Apply.{track, untrack, room, enrol, apply_conf, no_conf_state, to_conf_state}
use Rattle.rules.specs.Rows.{new, olds, conf, of}
use Rattle.rules.specs.Cases.{s0, s1, flagged, down, m1, m5, s14, s15, s17, up_to}

-- ** The check: 7 to 12, each in its place, and 14

-- tracked boxes, configuration
abbrev faults : List State
faults =
    of (olds (1 ∷ [])) (conf (1 ∷ 2 ∷ []) [] [] [])
    ∷ of (olds (4 ∷ [])) (conf (3 ∷ 4 ∷ []) (2 ∷ []) (1 ∷ []) [])
    ∷ of (olds (1 ∷ [])) (conf (1 ∷ []) [] (2 ∷ []) [])
    ∷ of (olds (1 ∷ 2 ∷ [])) (conf (1 ∷ []) (1 ∷ 2 ∷ []) (2 ∷ 3 ∷ []) [])
    ∷ of (olds (1 ∷ [])) (conf (1 ∷ []) (1 ∷ []) (1 ∷ []) [])
    ∷ of (olds (1 ∷ 2 ∷ [])) (conf (1 ∷ 2 ∷ []) [] (2 ∷ []) [])
    ∷ of (olds (1 ∷ [])) (conf (1 ∷ []) (1 ∷ []) [] (2 ∷ []))
    ∷ of (olds (1 ∷ 2 ∷ [])) (conf (1 ∷ []) (1 ∷ []) [] (2 ∷ 3 ∷ []))
    ∷ of (olds (1 ∷ 2 ∷ [])) (conf (1 ∷ []) [] [] (2 ∷ []))
    ∷ s17
    ∷ m1
    ∷ s14
    ∷ []

abbrev checks : List State → List Verdict
checks [] = []
checks (s ∷ ss) = check_state s ∷ checks ss

pub each-fault : checks faults ≡ fault 7 2 ∷ fault 7 2 ∷ fault 8 2 ∷ fault 9 2 ∷ fault 9 1 ∷ fault 10 2 ∷ fault 11 2 ∷ fault 12 2 ∷ fault 12 2 ∷ fault 14 0 ∷ fault 1 0 ∷ ok ∷ []
unfolding check_state check each formed conf_formed memb above ascending insert_id insert_all ids
each-fault = refl

-- ** In order

-- an idle box, an untracked member, an id 0 and a fault each take it away
pub in_order_or_not : (in_order s0 ≡ true) × (in_order s1 ≡ true) × (in_order (of (olds (1 ∷ 2 ∷ [])) s1.conf) ≡ false) × (in_order (of [] s1.conf) ≡ false)
    × (in_order (of (olds (0 ∷ [])) (conf (0 ∷ []) [] [] [])) ≡ false) × (in_order s17 ≡ false) × (in_order m1 ≡ false)
unfolding in_order check each formed conf_formed memb above ascending apart insert_id insert_all same_ids ids
in_order_or_not = (refl, refl, refl, refl, refl, refl, refl)

-- ** apply_conf and to_conf_state

-- the state, the configuration and the log that are given
pub record Given : Type 0 where
  pub state : State
  pub conf : Conf
  pub log : List Entry

abbrev given : State → Conf → List Entry → Given
given s c l = record { state = s; conf = c; log = l }

abbrev apply : List Given → List Outcome
apply [] = []
apply (g ∷ gs) = apply_conf g.state g.conf g.log 77 ∷ apply gs

abbrev adds : ℕ → List Entry
adds zero = []
adds (suc n) = add 1 ∷ adds n

-- 1 for each of the three; a log of 256 and one of 257; 16 with nothing changed; an Add of a tracked id at 64 is no 16; an Add writes
-- over an old record; a Remove of an absent id does nothing; no check is made
pub each-apply : apply (given m1 no_conf [] ∷ given s1 down [] ∷ given s1 no_conf (adds 257) ∷ given s1 no_conf (adds 256) ∷ given s15 no_conf (remove 70 ∷ add 65 ∷ []) ∷ given s1 no_conf (add 1 ∷ remove 9 ∷ []) ∷ [])
    ≡ record { verdict = fault 1 0; state = m1 }
    ∷ record { verdict = fault 1 0; state = s1 }
    ∷ record { verdict = fault 1 0; state = s1 }
    ∷ record { verdict = ok; state = of (new 1 ∷ []) no_conf }
    ∷ record { verdict = fault 16 65; state = s15 }
    ∷ record { verdict = ok; state = of (new 1 ∷ []) no_conf }
    ∷ []
unfolding apply_conf room enrol formed conf_formed log_formed memb above ascending insert_id insert_all remove_id ids track untrack
each-apply = refl

pub tracked_at_64 : apply_conf s15 no_conf (add 64 ∷ []) 77 ≡ record { verdict = ok; state = of (olds (up_to 63 []) ++ (new 64 ∷ [])) no_conf }
unfolding apply_conf room enrol formed conf_formed log_formed memb above ascending insert_id insert_all remove_id ids track untrack
tracked_at_64 = refl

-- incoming (1), outgoing (2), learners (3), staged (4), and the flag
abbrev s19 : State
s19 = of [] (record { incoming = 1 ∷ []; outgoing = 2 ∷ []; learners = 3 ∷ []; staged = 4 ∷ []; auto_leave = true })

pub each-written : (to_conf_state s19 ≡ record { verdict = ok; conf_state = flagged (1 ∷ []) (3 ∷ []) (2 ∷ []) (4 ∷ []) }) × (to_conf_state m5 ≡ record { verdict = fault 1 0; conf_state = no_conf_state })
unfolding to_conf_state formed conf_formed memb above ascending ids
each-written = (refl, refl)
