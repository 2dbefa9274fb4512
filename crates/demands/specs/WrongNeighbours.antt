-- Wrong programs that document 02, i) rules out: each accepts a step after which a quorum has no box in common with one from before. And what i) is
-- not: configurations two steps apart are no neighbours. On the rules' lists. Assumes nothing.
use Rattle.std.specs.Prelude.{◌≡◌, refl, Bool, true, false, List, [], ◌∷◌, ℕ, leb}
use Rattle.std.proofs.Common.{◌∙◌, sym, true≢false}
use Rattle.rules.specs.Ids.{above, apart, ascending, insert_all, insert_id, is_empty, memb, minus, remove_id, same_ids}
use Rattle.rules.specs.State.{Change, Conf, State, add, add_learner, add_node, conf_formed, formed, ids, log_formed, remove, remove_node}
use Rattle.rules.specs.Answers.{Answer, ◌⇒◌, ◌▸◌, accepted, each, ok, refuse, refused}
use Rattle.rules.specs.Check.{check, in_order, is_tracked, joint}
use Rattle.rules.specs.Table.{standing_in, table}
use Rattle.rules.specs.Changes.{change, changes, last_says, pending, pending_tracked}
use Rattle.rules.specs.Calls.{afterwards, difference, enter_of, list_of, readable, simple, simple_of, start, with_auto}
use Rattle.rules.specs.Apply.{apply_conf, enrol, room, track, untrack}
use Rattle.rules.specs.Restore.{all, ask, one_by_one, restorable, restore, restore_step_by_step, restore_steps, run}
use Rattle.rules.specs.Sequences.{Call, after_calls, perform, simple_call}
use Rattle.rules.specs.Quorum.{InCommon, Neighbours, count, quorum}
use Rattle.rules.specs.QuorumExamples.{only}
use Rattle.rules.specs.Rows.{conf, lists, new, of, old}
use Rattle.rules.proofs.Sets.{of-apart}
use Rattle.demands.specs.Wrong.{s12, s123}

-- where a quorum before and one after have no id in common, the two are no neighbours
no_box : (xs ys : List ℕ) → apart xs ys ≡ true → (c d : Conf) → quorum (only xs) c ≡ true → quorum (only ys) d ≡ true → Neighbours c d → ⊥
no_box xs ys a c d p q n =
    let k : InCommon (only xs) (only ys) c d = n.share (only xs) (only ys) p q in
    true≢false (sym k.second ∙ of-apart xs ys a k.box k.first)

-- ** A `simple` that lets two voters change (example 5)

-- 18 from three on
unfoldable pub lenient_simple : State → List Change → Answer
lenient_simple s cs =
    refuse (joint s.conf) 6 0
    ▸ check (is_tracked s) s.conf
    ⇒ afterwards (changes (ids s.peers) cs (start s.conf)) (λ w.
    refuse (is_empty w.conf.incoming) 17 0
    ▸ refuse (leb 3 (difference w.conf.incoming s.conf.incoming)) 18 0
    ▸ check (pending_tracked (ids s.peers) w.log) w.conf
    ⇒ accepted w.conf w.log)

-- remove 3, add 4
abbrev swap : List Change
swap = record { kind = remove_node; id = 3 } ∷ record { kind = add_node; id = 4 } ∷ []

-- voters (1 2 4)
abbrev swapped : Conf
swapped = conf (1 ∷ 2 ∷ 4 ∷ []) [] [] []

-- voters (1 2 3), simple remove 3, add 4: 18. Were it accepted, (2 3) is a quorum before and (1 4) one after.
pub two_at_once : (in_order s123 ≡ true) × (simple_of s123 swap ≡ refused 18 0) × (lenient_simple s123 swap ≡ accepted swapped (remove 3 ∷ add 4 ∷ [])) × (Neighbours s123.conf swapped → ⊥)
unfolding lenient_simple quorum count in_order apart same_ids simple_of check each changes change table standing_in last_says pending formed conf_formed memb above ascending insert_id insert_all remove_id minus ids
two_at_once = (refl, refl, refl, no_box (2 ∷ 3 ∷ []) (1 ∷ 4 ∷ []) refl s123.conf swapped refl refl)

-- ** An enter that does not keep outgoing (example 8)

-- outgoing stays as it was, and is no copy of incoming
unfoldable pub forgetful_enter : State → Bool → List Change → Answer
forgetful_enter s auto cs =
    refuse (joint s.conf) 4 0
    ▸ check (is_tracked s) s.conf
    ▸ refuse (is_empty s.conf.incoming) 15 0
    ⇒ afterwards (changes (ids s.peers) cs (start s.conf)) (λ w.
    refuse (is_empty w.conf.incoming) 17 0
    ▸ check (pending_tracked (ids s.peers) w.log) (with_auto auto w.conf)
    ⇒ accepted (with_auto auto w.conf) w.log)

-- learner 3, add 4
abbrev demote : List Change
demote = record { kind = add_learner; id = 3 } ∷ record { kind = add_node; id = 4 } ∷ []

-- (1 2 4)&&(1 2 3), staged (3); voters (1 2 4), learners (3)
abbrev entered : Conf
entered = conf (1 ∷ 2 ∷ 4 ∷ []) (1 ∷ 2 ∷ 3 ∷ []) [] (3 ∷ [])

abbrev forgotten : Conf
forgotten = conf (1 ∷ 2 ∷ 4 ∷ []) [] (3 ∷ []) []

-- voters (1 2 3), enter learner 3, add 4: of (1 2 4)&&(1 2 3) the group (1 4) is no quorum. Without outgoing it is one, and (2 3) is one before.
pub outgoing-not-kept : (in_order s123 ≡ true) × (enter_of s123 false demote ≡ accepted entered (add 4 ∷ [])) × (quorum (only (1 ∷ 4 ∷ [])) entered ≡ false)
    × (forgetful_enter s123 false demote ≡ accepted forgotten (add 4 ∷ [])) × (Neighbours s123.conf forgotten → ⊥)
unfolding forgetful_enter quorum count in_order apart same_ids enter_of check each changes change table standing_in last_says pending formed conf_formed memb above ascending insert_id insert_all remove_id minus ids
outgoing-not-kept = (refl, refl, refl, refl, no_box (2 ∷ 3 ∷ []) (1 ∷ 4 ∷ []) refl s123.conf forgotten refl refl)

-- ** Two steps apart

abbrev two_steps : List Call
two_steps = simple_call (4 ∷ []) (0 ∷ []) 77 ∷ simple_call (3 ∷ []) (1 ∷ []) 77 ∷ []

-- The same swap in two calls, add 4 and then remove 3: each is accepted, and the first configuration and the last are no neighbours.
pub swapped_in_two : ((after_calls s123 two_steps).conf ≡ swapped) × (Neighbours s123.conf swapped → ⊥)
unfolding after_calls perform apply_conf room enrol track untrack log_formed quorum count apart simple readable list_of simple_of check each changes change table standing_in last_says pending formed conf_formed memb above ascending insert_id insert_all remove_id minus ids
swapped_in_two = (refl, no_box (2 ∷ 3 ∷ []) (1 ∷ 4 ∷ []) refl s123.conf swapped refl refl)

-- voters (1 3 4 5), learners (2)
abbrev grown : Conf
grown = conf (1 ∷ 3 ∷ 4 ∷ 5 ∷ []) [] (2 ∷ []) []

-- A restore is as many steps: voters (1), learners (2), restored to voters (3 4 5). Nor are the configuration before it and the one after it.
pub restored_in_three : (restore s12 (lists (3 ∷ 4 ∷ 5 ∷ []) [] [] []) 77 ≡ record { verdict = ok; state = of (old 1 ∷ old 2 ∷ new 3 ∷ new 4 ∷ new 5 ∷ []) grown })
    × (Neighbours s12.conf grown → ⊥)
unfolding restore restore_step_by_step run restorable restore_steps one_by_one all ask apply_conf room enrol track untrack log_formed quorum count apart simple_of check each changes change table standing_in last_says pending formed conf_formed memb above ascending insert_id insert_all remove_id minus ids
restored_in_three = (refl, no_box (1 ∷ []) (3 ∷ 4 ∷ 5 ∷ []) refl s12.conf grown refl refl)
