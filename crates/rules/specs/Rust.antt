-- `make_voter`, `make_learner`, `remove` and the list of `apply` of changer.rs, line by line, on sets and the pending log. Assumes nothing.
use Rattle.std.specs.Prelude.{ℕ, Bool, true, false, ◌&&◌, not, cond, List, [], ◌∷◌, ◌++◌, eqb, leb, length}
use Rattle.rules.specs.Ids.{insert_id, memb, remove_id}
use Rattle.rules.specs.State.{Change, Conf, Entry, Kind, add, add_learner, add_node, remove, remove_node}
use Rattle.rules.specs.Changes.{Done, Work, and_then, done, full, pending, pending_tracked}

abbrev pub on_incoming : (List ℕ → List ℕ) → Conf → Conf
on_incoming f c = record { incoming = f c.incoming; outgoing = c.outgoing; learners = c.learners; staged = c.staged; auto_leave = c.auto_leave }

abbrev pub on_learners : (List ℕ → List ℕ) → Conf → Conf
on_learners f c = record { incoming = c.incoming; outgoing = c.outgoing; learners = f c.learners; staged = c.staged; auto_leave = c.auto_leave }

abbrev pub on_staged : (List ℕ → List ℕ) → Conf → Conf
on_staged f c = record { incoming = c.incoming; outgoing = c.outgoing; learners = c.learners; staged = f c.staged; auto_leave = c.auto_leave }

abbrev pub work : Conf → List Entry → Work
work c log = record { conf = c; log = log }

-- if !prs.contains(id) { init_progress(cfg, prs, id, false); return }
-- incoming.insert(id); learners.remove(id); learners_next.remove(id)
abbrev pub make_voter : Bool → ℕ → Work → Work
make_voter tracked x w =
    cond (not tracked)
    (work (on_incoming (insert_id x) w.conf) (w.log ++ (add x ∷ [])))
    (work (on_staged (remove_id x) (on_learners (remove_id x) (on_incoming (insert_id x) w.conf))) w.log)

-- if !prs.contains(id) { init_progress(cfg, prs, id, true); return }
-- if learners.contains(id) { return }
-- incoming.remove(id); learners.remove(id); learners_next.remove(id)
-- if outgoing.contains(id) { learners_next.insert(id) } else { learners.insert(id) }
abbrev pub make_learner : Bool → ℕ → Work → Work
make_learner tracked x w =
    cond (not tracked)
    (work (on_learners (insert_id x) w.conf) (w.log ++ (add x ∷ [])))
    (cond (memb x w.conf.learners) w
    (cond (memb x w.conf.outgoing)
    (work (on_staged (insert_id x) (on_staged (remove_id x) (on_learners (remove_id x) (on_incoming (remove_id x) w.conf)))) w.log)
    (work (on_learners (insert_id x) (on_staged (remove_id x) (on_learners (remove_id x) (on_incoming (remove_id x) w.conf)))) w.log)))

-- if !prs.contains(id) { return }
-- incoming.remove(id); learners.remove(id); learners_next.remove(id)
-- if !outgoing.contains(id) { changes.push((id, Remove)) }
abbrev pub remove_op : Bool → ℕ → Work → Work
remove_op tracked x w =
    cond (not tracked) w
    (work (on_staged (remove_id x) (on_learners (remove_id x) (on_incoming (remove_id x) w.conf))) (cond (memb x w.conf.outgoing) w.log (w.log ++ (remove x ∷ []))))

abbrev pub by_kind : Kind → Bool → ℕ → Work → Work
by_kind add_node = make_voter
by_kind add_learner = make_learner
by_kind remove_node = remove_op

-- ** A list

-- a change of this kind tracks an id that is not: `make_voter` and `make_learner` do, by `init_progress`, and `remove` does not
abbrev pub tracks : Kind → Bool
tracks add_node = true
tracks add_learner = true
tracks remove_node = false

-- if cc.node_id == 0 { continue; }
-- match cc.get_change_type() { AddNode => make_voter(..), AddLearnerNode => make_learner(..), RemoveNode => remove(..) }
-- The one rule that is added is 16, "an untracked id to be tracked while 64 are".
unfoldable pub rust_change : List ℕ → Change → Work → Done
rust_change base c w =
    cond (eqb c.id 0) (done w)
    (let tracked : Bool = pending_tracked base w.log c.id in
    cond (not tracked && tracks c.kind && leb 64 (length (pending w.log base))) (full c.id)
    (done (by_kind c.kind tracked c.id w)))

-- for cc in ccs { .. }, stopping at the first 16
unfoldable pub rust_changes : List ℕ → List Change → Work → Done
rust_changes base [] w = done w
rust_changes base (c ∷ cs) w = and_then (rust_change base c w) (λ v. rust_changes base cs v)
