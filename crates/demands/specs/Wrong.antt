-- Wrong programs, each refuted by an example: what the definitions give there, and what the wrong program gives, which is another
-- (`apart`). On the rules' lists; a record is from before the calls (`next_idx` 10) or made by them (77). Assumes nothing.
use Rattle.std.specs.Prelude.{ℕ, ◌≡◌, refl, Bool, true, false, ◌&&◌, cond, List, [], ◌∷◌, ◌++◌, eqb}
use Rattle.std.proofs.Common.{ap, arith}
use Rattle.progress.specs.Record.{fresh_record}
use Rattle.progress.specs.declared.Progress.{Progress}
use Rattle.rules.specs.Ids.{above, ascending, insert_all, insert_id, memb, minus, remove_id}
use Rattle.rules.specs.State.{Change, ConfState, Entry, Kind, Peer, State, add, add_learner, add_node, conf_formed, formed, fresh, ids, log_formed, remove, remove_node}
use Rattle.rules.specs.Answers.{Answer, accepted, each, fault, ok, refused}
use Rattle.rules.specs.Check.{check}
use Rattle.rules.specs.Table.{I, L, OS, Standing, none, standing_in, table}
use Rattle.rules.specs.Changes.{change, changes, last_says, pending}
use Rattle.rules.specs.Calls.{enter_joint, enter_of, list_of, readable, simple, simple_of}
use Rattle.rules.specs.Apply.{apply_conf, enrol, room, to_conf_state, track, untrack}
use Rattle.rules.specs.Restore.{Step, all, apply_answer, ask, one_by_one, restorable, restore, restore_step_by_step, restore_steps, run}
use Rattle.rules.specs.Sequences.{Call, after_calls, deeds, deeds_of, deeds_of_run, in_turn, perform, restore_call, simple_call, step_by_step_call}
use Rattle.rules.specs.Boxes.{Box, Found, absent, box_of, entered, events, found, naming, record_of, replay}
use Rattle.rules.specs.Rows.{conf, lists, new, of, old, olds}

-- voters (1), learners (2); voters (1 2 3)
abbrev pub s12 : State
s12 = of (olds (1 ∷ 2 ∷ [])) (conf (1 ∷ []) [] (2 ∷ []) [])

abbrev pub s123 : State
s123 = of (olds (1 ∷ 2 ∷ 3 ∷ [])) (conf (1 ∷ 2 ∷ 3 ∷ []) [] [] [])

abbrev box : Standing → ℕ → Box
box st n = record { standing = st; held = found (fresh_record n 256) }

-- a record from before and one made by the call are two
abbrev next_in : Found → ℕ
next_in absent = 0
next_in (found p) = p.next_idx

pub apart : (st : Standing) → box st 10 ≡ box st 77 → ⊥
apart st e = let n : ◌≡◌ {A = ℕ} 10 77 = ap (λ (b : Box). next_in b.held) e in omega arith

-- ** A changer that cancels −2 +2 in the log (example 10)

unfoldable pub cancelled : List Entry → List Entry
cancelled [] = []
cancelled (add x ∷ es) = add x ∷ cancelled es
cancelled (remove x ∷ []) = remove x ∷ []
cancelled (remove x ∷ remove y ∷ es) = remove x ∷ cancelled (remove y ∷ es)
cancelled (remove x ∷ add y ∷ es) = cond (eqb x y) (cancelled es) (remove x ∷ add y ∷ cancelled es)

abbrev cancels : Answer → Answer
cancels (accepted c log) = accepted c (cancelled log)
cancels (refused n x) = refused n x

-- simple remove 2, learner 2: box 2 has a fresh record, and so the plain replay says; with an empty log it keeps its old one
pub cancelling : (apply_answer s12 77 (simple s12 (2 ∷ 2 ∷ []) (1 ∷ 2 ∷ [])) ≡ record { verdict = ok; state = of (old 1 ∷ new 2 ∷ []) s12.conf })
    × (replay (naming (fresh_record 77 256) 2 (list_of (2 ∷ 2 ∷ []) (1 ∷ 2 ∷ []))) (box_of s12 2) ≡ box L 77)
    × (apply_answer s12 77 (cancels (simple s12 (2 ∷ 2 ∷ []) (1 ∷ 2 ∷ []))) ≡ record { verdict = ok; state = s12 })
    × (box_of s12 2 ≡ box L 10)
unfolding cancelled replay naming record_of simple readable list_of simple_of check each changes change table standing_in last_says pending apply_conf room enrol formed conf_formed log_formed memb above ascending insert_id insert_all remove_id minus ids track untrack
cancelling = (refl, refl, refl, refl)

-- ** A changer that gives a demoted voter a fresh record (example 8)

abbrev demotes : Kind → Bool
demotes add_node = false
demotes add_learner = true
demotes remove_node = false

-- a demotion logged as an admission
unfoldable pub demotions : List ℕ → List Change → List Entry
demotions voters [] = []
demotions voters (c ∷ cs) = cond (demotes c.kind && memb c.id voters) (add c.id ∷ demotions voters cs) (demotions voters cs)

abbrev renews : List ℕ → List Change → Answer → Answer
renews voters cs (accepted c log) = accepted c (log ++ demotions voters cs)
renews voters cs (refused n x) = refused n x

-- enter learner 3, add 4: box 3 is staged with its old record
pub renewing : (box_of (apply_answer s123 77 (enter_joint s123 false (3 ∷ 4 ∷ []) (2 ∷ 0 ∷ []))).state 3 ≡ box OS 10)
    × (replay (entered ∷ naming (fresh_record 77 256) 3 (list_of (3 ∷ 4 ∷ []) (2 ∷ 0 ∷ []))) (box_of s123 3) ≡ box OS 10)
    × (box_of (apply_answer s123 77 (renews s123.conf.incoming (list_of (3 ∷ 4 ∷ []) (2 ∷ 0 ∷ [])) (enter_joint s123 false (3 ∷ 4 ∷ []) (2 ∷ 0 ∷ [])))).state 3 ≡ box OS 77)
unfolding demotions replay naming record_of enter_joint readable list_of enter_of check each changes change table standing_in last_says pending apply_conf room enrol formed conf_formed log_formed memb above ascending insert_id insert_all remove_id minus ids track untrack
renewing = (refl, refl, refl)

-- ** One that keeps a record over a remove and an add in two calls

abbrev or_else : Found → Progress → Progress
or_else absent r = r
or_else (found p) r = p

-- each box of qs with the record that it had in ps
unfoldable pub put_back : List Peer → List Peer → List Peer
put_back ps [] = []
put_back ps (q ∷ qs) = record { id = q.id; progress = or_else (record_of q.id ps) q.progress } ∷ put_back ps qs

abbrev remembers : State → State → State
remembers s t = record { conf = t.conf; peers = put_back s.peers t.peers; max_inflight = t.max_inflight }

abbrev twice : List Call
twice = simple_call (2 ∷ []) (1 ∷ []) 76 ∷ simple_call (2 ∷ []) (2 ∷ []) 77 ∷ []

-- remove 2, then learner 2: box 2 was admitted anew
pub keeping : (box_of (after_calls s12 twice) 2 ≡ box L 77) × (replay (events 256 2 (deeds s12 twice)) (box_of s12 2) ≡ box L 77) × (box_of (remembers s12 (after_calls s12 twice)) 2 ≡ box L 10)
unfolding put_back replay naming events deeds deeds_of after_calls perform record_of simple readable list_of simple_of check each changes change table standing_in last_says pending apply_conf room enrol formed conf_formed log_formed memb above ascending insert_id insert_all remove_id minus ids track untrack
keeping = (refl, refl, refl)

-- ** A restore that treats lists as sets (example 13)

abbrev as_sets : ConfState → ConfState
as_sets cs =
    record {
      voters = insert_all cs.voters [];
      learners = insert_all cs.learners [];
      voters_outgoing = insert_all cs.voters_outgoing [];
      learners_next = insert_all cs.learners_next [];
      auto_leave = cs.auto_leave;
    }

-- voters (1 0): accepted, voters (1); as a set 0 comes first, and that step has no voter
pub as_sets_lem : (restore (fresh 256) (lists (1 ∷ 0 ∷ []) [] [] []) 77 ≡ record { verdict = ok; state = of (new 1 ∷ []) (conf (1 ∷ []) [] [] []) })
    × (restore (fresh 256) (as_sets (lists (1 ∷ 0 ∷ []) [] [] [])) 77 ≡ record { verdict = fault 17 0; state = fresh 256 })
unfolding restore restore_step_by_step run restorable restore_steps one_by_one all ask simple_of check each changes change table standing_in last_says pending apply_conf room enrol formed conf_formed log_formed memb above ascending insert_id insert_all remove_id minus ids track untrack
as_sets_lem = (refl, refl)

-- ** A restore that takes the learners first: what was written out does not come back

abbrev learners_first : ConfState → List Step
learners_first cs = one_by_one (all add_learner cs.learners ++ all add_node cs.voters)

-- voters (1), learners (2), written out and restored to fresh
pub learners-first : (restore (fresh 256) (to_conf_state s12).conf_state 77 ≡ record { verdict = ok; state = of (new 1 ∷ new 2 ∷ []) s12.conf })
    × (run 77 (fresh 256) (learners_first (to_conf_state s12).conf_state) ≡ record { verdict = fault 17 0; state = fresh 256 })
unfolding to_conf_state restore restore_step_by_step run restorable restore_steps one_by_one all ask simple_of check each changes change table standing_in last_says pending apply_conf room enrol formed conf_formed log_formed memb above ascending insert_id insert_all remove_id minus ids track untrack
learners-first = (refl, refl)

-- ** A restore that keeps the steps before a refused one, and a replay that counts them: document 02, g)

abbrev damaged : ConfState
damaged = lists (3 ∷ []) (1 ∷ 3 ∷ []) [] []

abbrev half : State
half = of (old 1 ∷ old 2 ∷ new 3 ∷ []) (conf (3 ∷ []) [] (1 ∷ 2 ∷ []) [])

-- voters (1), learners (2), restore voters (3), learners (1 3): the third step is refused. By `restore` nothing is left of the two before it, and
-- none counts: box 3 is as it was. Asked for step by step they stay and count, and box 3 is admitted.
pub half-kept : (restore s12 damaged 77 ≡ record { verdict = fault 17 0; state = s12 }) × (restore_step_by_step s12 damaged 77 ≡ record { verdict = fault 17 0; state = half })
    × (replay (events 256 3 (deeds_of s12 (restore_call damaged 77))) (box_of s12 3) ≡ record { standing = none; held = absent })
    × (replay (events 256 3 (deeds_of s12 (step_by_step_call damaged 77))) (box_of s12 3) ≡ box I 77)
    × (box_of s12 3 ≡ record { standing = none; held = absent }) × (box_of half 3 ≡ box I 77)
unfolding replay naming events deeds_of deeds_of_run in_turn perform record_of restore restore_step_by_step run restorable restore_steps one_by_one all ask simple_of check each changes change table standing_in last_says pending apply_conf room enrol formed conf_formed log_formed memb above ascending insert_id insert_all remove_id minus ids track untrack
half-kept = (refl, refl, refl, refl, refl, refl)
