-- What a restore to fresh makes: every record in it is fresh. Assumes nothing.
use Prim.Native.Nat.{ℕ}
use mathlib.Core.Path.{◌≡◌, refl, ap}
use mathlib.Core.Bool.{Bool, true, false, ◌&&◌, ◌||◌, not, cond, false≢true}
use mathlib.Core.List.{List, [], ◌∷◌}
use lib.Dec.{eqb}
use Rattle.progress.specs.declared.Progress.{Progress}
use Rattle.progress.specs.Record.{fresh_record}
use Rattle.rules.specs.Ids.{memb}
use Rattle.rules.specs.State.{Peer, State, ids, fresh, Change, ConfState}
use Rattle.rules.specs.Answers.{Verdict, ok, fault}
use Rattle.rules.specs.Table.{Standing, none, idle, I, L, O, IO, OS, Effect, stays, adds, removes, table}
use Rattle.rules.specs.Restore.{Step, simple_step, enter_step, leave_step, attempt, restorable, restore_steps, restore_step_by_step}
use Rattle.rules.specs.Sequences.{step_by_step_call, perform, if_ok, deeds_of_run, deeds_of}
use Rattle.rules.specs.Boxes.{Found, absent, found, record_of, Box, box_of, kept, change_box, enter_box, leave_record, named, replay, naming, step_events, events}
use Rattle.rules.proofs.Plain.{replay_append}
use Rattle.rules.proofs.Steps.{Ordered}
use Rattle.rules.proofs.Demand3.{call_leads}

-- no record but r
abbrev Only : Progress → Found → Type 0
Only r absent = Unit {0}
Only r (found q) = q ≡ r

only_kept : (r : Progress) (e : Effect) (f : Found) → Only r f → Only r (kept e r f)
only_kept r stays f h = h
only_kept r adds f h = refl
only_kept r removes f h = tt

only-left : (r : Progress) (st : Standing) (f : Found) → Only r f → Only r (leave_record st f)
only-left r none f h = h
only-left r idle f h = h
only-left r I f h = h
only-left r L f h = h
only-left r O f h = tt
only-left r IO f h = h
only-left r OS f h = h

only-naming : (r : Progress) (x : ℕ) (cs : List Change) (b : Box) → Only r b.held → Only r (replay (naming r x cs) b).held
unfolding replay naming
only-naming r x [] b h = h
only-naming r x (c ∷ cs) b h = go (eqb c.id x && not (eqb x 0)) (only-naming r x cs)
  where
    go : (t : Bool) → ((a : Box) → Only r a.held → Only r (replay (naming r x cs) a).held) → Only r (replay (cond t (named c.kind r ∷ naming r x cs) (naming r x cs)) b).held
    go true ih = ih (change_box r c.kind b) (only_kept r (table b.standing c.kind).1 b.held h)
    go false ih = ih b h

only_step : (r : Progress) (x : ℕ) (p : Step) (b : Box) → Only r b.held → Only r (replay (step_events r x p) b).held
unfolding replay
only_step r x (simple_step cs) b h = only-naming r x cs b h
only_step r x (enter_step a cs) b h = only-naming r x cs (enter_box b) h
only_step r x leave_step b h = only-left r b.standing b.held h

-- steps that all have the same `next_idx` make one kind of record
only-run : (m n x : ℕ) (ps : List Step) (s : State) (b : Box) → Only (fresh_record n m) b.held → Only (fresh_record n m) (replay (events m x (deeds_of_run n s ps)) b).held
unfolding replay events deeds_of_run
only-run m n x [] s b h = h
only-run m n x (p ∷ ps) s b h = go (attempt n s p).verdict (only-run m n x ps (attempt n s p).state)
  where
    go : (v : Verdict) → ((a : Box) → Only (fresh_record n m) a.held → Only (fresh_record n m) (replay (events m x (deeds_of_run n (attempt n s p).state ps)) a).held)
        → Only (fresh_record n m) (replay (events m x (if_ok v (record { step = p; next = n } ∷ deeds_of_run n (attempt n s p).state ps))) b).held
    go ok ih =
        rw (replay_append (step_events (fresh_record n m) x p) (events m x (deeds_of_run n (attempt n s p).state ps)) b)
        (ih (replay (step_events (fresh_record n m) x p) b) (only_step (fresh_record n m) x p b h))
    go (fault k y) ih = h

tracked-found : (x : ℕ) (ps : List Peer) (r : Progress) → memb x (ids ps) ≡ true → Only r (record_of x ps) → record_of x ps ≡ found r
unfolding memb ids record_of
tracked-found x [] r m h = absurd (false≢true m)
tracked-found x (p ∷ ps) r m h = go (eqb p.id x) m h (tracked-found x ps r)
  where
    go : (b : Bool) → b || memb x (ids ps) ≡ true → Only r (cond b (found p.progress) (record_of x ps)) → (memb x (ids ps) ≡ true → Only r (record_of x ps) → record_of x ps ≡ found r)
        → cond b (found p.progress) (record_of x ps) ≡ found r
    go true m h ih = ap found h
    go false m h ih = ih m h

-- who is tracked after a restore to fresh has a fresh record, made with its `next_idx` and the state's `max_inflight`
pub restored-records : (l n : ℕ) → Ordered (fresh l) → (cs : ConfState) (x : ℕ) → memb x (ids (restore_step_by_step (fresh l) cs n).state.peers) ≡ true
    → record_of x (restore_step_by_step (fresh l) cs n).state.peers ≡ found (fresh_record n l)
unfolding perform deeds_of record_of replay events
restored-records l n o cs x m =
    tracked-found x (restore_step_by_step (fresh l) cs n).state.peers (fresh_record n l) m (rw (ap (λ (b : Box). b.held) ((call_leads (fresh l) o (step_by_step_call cs n)).boxes x)) (go (restorable (fresh l) cs)))
  where
    none_yet : Only (fresh_record n l) (box_of (fresh l) x).held
    none_yet = tt

    go : (v : Verdict) → Only (fresh_record n l) (replay (events l x (if_ok v (deeds_of_run n (fresh l) (restore_steps cs)))) (box_of (fresh l) x)).held
    go ok = only-run l n x (restore_steps cs) (fresh l) (box_of (fresh l) x) none_yet
    go (fault k y) = none_yet
