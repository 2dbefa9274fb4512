-- A configuration in order that has an incoming voter or is empty, and so one that was reached from the fresh state, written out and restored to
-- fresh, comes back the same. Assumes nothing.
use Prim.Native.Nat.{ℕ, ◌≤◌}
use mathlib.Core.Path.{◌≡◌, refl, ap, ◌∙◌, sym}
use mathlib.Core.Bool.{Bool, true, false, ◌&&◌, ◌||◌, not, cond, true≢false, false≢true}
use mathlib.Core.List.{List, [], ◌∷◌, ◌++◌}
use native.Mathlib.Omega.{arith}
use borrow.Author.Tests.{ne_eqb, eqb-true, le-leb, not-true}
use lib.Dec.{eqb}
use lib.ListN.{length, length-append}
use Rattle.progress.specs.Record.{fresh_record}
use Rattle.progress.specs.declared.Progress.{Progress}
use Rattle.rules.specs.Ids.{apart, ascending, insert_all, is_empty, memb, same_ids}
use Rattle.rules.specs.State.{Change, Conf, ConfState, Kind, State, add_learner, add_node, conf_formed, formed, fresh, ids, no_conf, remove_node}
use Rattle.rules.specs.Answers.{Outcome, accepted, each, ok}
use Rattle.rules.specs.Check.{check, in_order, is_tracked, joint}
use Rattle.rules.specs.Table.{I, IO, L, O, OS, Places, Standing, idle, none, places_of, standing_in, table}
use Rattle.rules.specs.Changes.{Work, changes, done}
use Rattle.rules.specs.Calls.{enter_of, entering, start, with_auto}
use Rattle.rules.specs.Apply.{applied, enrol, to_conf_state}
use Rattle.rules.specs.Restore.{Step, all, ask, enter_step, go_on, one_by_one, restorable, restore_step_by_step, restore_steps, run, simple_step, wanted}
use Rattle.rules.specs.Sequences.{Call, after_calls, deeds, perform, step_by_step_call}
use Rattle.rules.specs.Boxes.{Box, Found, absent, box_of, change_box, enter_box, record_of}
use Rattle.rules.specs.Demands.{ComesBack}
use Rattle.rules.proofs.Sets.{ascending_ext, length_part, memb_head, or-true}
use Rattle.rules.proofs.Plain.{changes_box}
use Rattle.rules.proofs.Boxes.{Sound, box_at, spot}
use Rattle.rules.proofs.Changes.{After, changes-done, now}
use Rattle.rules.proofs.Check.{Passes, passes_of}
use Rattle.rules.proofs.Steps.{Ordered, Stepped, enter-box, is_idle, no_joint, ordered-checked}
use Rattle.rules.proofs.Order.{apply-ok, apply-ordered, asked, formed-of, ordered_of}
use Rattle.rules.proofs.Demand3.{Leads, Reached, calls_lead, length-of}
use Rattle.rules.proofs.Whole.{whole-accepted}
use Rattle.rules.proofs.Records.{restored-records}
use Rattle.rules.proofs.Accept.{Within, changes_fit, enter-accepted, fine_enter, inside}
use Rattle.rules.proofs.Singles.{Good, Ran, changes_append, incoming-of, learners-run, memb-some, ran_more, ran_none, run_append, voters-run}

-- ** What a list of changes of one kind does to one box

again : (r : Progress) (k : Kind) (st : Standing) (f : Found) → change_box r k (change_box r k (record { standing = st; held = f })) ≡ change_box r k (record { standing = st; held = f })
unfolding table
again r add_node none f = refl
again r add_node idle f = refl
again r add_node I f = refl
again r add_node L f = refl
again r add_node O f = refl
again r add_node IO f = refl
again r add_node OS f = refl
again r add_learner none f = refl
again r add_learner idle f = refl
again r add_learner I f = refl
again r add_learner L f = refl
again r add_learner O f = refl
again r add_learner IO f = refl
again r add_learner OS f = refl
again r remove_node none f = refl
again r remove_node idle f = refl
again r remove_node I f = refl
again r remove_node L f = refl
again r remove_node O f = refl
again r remove_node IO f = refl
again r remove_node OS f = refl

changes-all : (r : Progress) (y : ℕ) (k : Kind) (xs : List ℕ) → eqb y 0 ≡ false → (b : Box) → changes_box r y (all k xs) b ≡ cond (memb y xs) (change_box r k b) b
unfolding changes_box all memb
changes-all r y k [] z b = refl
changes-all r y k (x ∷ xs) z b = go (eqb x y) (changes-all r y k xs z)
  where
    twice : (m : Bool) → cond m (change_box r k (change_box r k b)) (change_box r k b) ≡ change_box r k b
    twice true = again r k b.standing b.held
    twice false = refl

    go : (e : Bool) → ((a : Box) → changes_box r y (all k xs) a ≡ cond (memb y xs) (change_box r k a) a)
        → changes_box r y (all k xs) (cond (e && not (eqb y 0)) (change_box r k b) b) ≡ cond (e || memb y xs) (change_box r k b) b
    go true ih = ap (λ (t : Bool). changes_box r y (all k xs) (cond (not t) (change_box r k b) b)) z ∙ ih (change_box r k b) ∙ twice (memb y xs)
    go false ih = ih b

abbrev nothing : Box
nothing = record { standing = none; held = absent }

abbrev on : Bool → Progress → Kind → Box → Box
on t r k b = cond t (change_box r k b) b

-- what restore's changes make of a box: p tells in which sets it is to be
abbrev alone : Progress → Places → Box
alone r p = on p.staged r add_learner (on p.learner r add_learner (on p.incoming r add_node nothing))

abbrev jointly : Progress → Progress → Places → Box
jointly r q p =
    on p.staged q add_learner (on p.learner q add_learner (on p.incoming q add_node (on p.outgoing q remove_node (enter_box (on p.outgoing r add_node nothing)))))

alone_same : (r : Progress) (st : Standing) → is_idle st ≡ false → (places_of st).outgoing ≡ false → (alone r (places_of st)).standing ≡ st
unfolding table
alone_same r none b o = refl
alone_same r idle b o = absurd (true≢false b)
alone_same r I b o = refl
alone_same r L b o = refl
alone_same r O b o = absurd (true≢false o)
alone_same r IO b o = absurd (true≢false o)
alone_same r OS b o = absurd (true≢false o)

jointly_same : (r q : Progress) (st : Standing) → is_idle st ≡ false → (jointly r q (places_of st)).standing ≡ st
unfolding table
jointly_same r q none b = refl
jointly_same r q idle b = absurd (true≢false b)
jointly_same r q I b = refl
jointly_same r q L b = refl
jointly_same r q O b = refl
jointly_same r q IO b = refl
jointly_same r q OS b = refl

-- ** Two states with the same standings have the same configuration

conf_path : (a b : Conf) → a.incoming ≡ b.incoming → a.outgoing ≡ b.outgoing → a.learners ≡ b.learners → a.staged ≡ b.staged → a.auto_leave ≡ b.auto_leave → a ≡ b
conf_path a b i o l g f = λ k. record { incoming = i k; outgoing = o k; learners = l k; staged = g k; auto_leave = f k }

module _ (s t : State) (v : Sound s.conf s.peers) (w : Sound t.conf t.peers) (h : (y : ℕ) → (box_of t y).standing ≡ (box_of s y).standing) where
  spots : (y : ℕ) → spot t.conf t.peers y ≡ spot s.conf s.peers y
  spots y = w.stands y ∙ ap places_of (h y) ∙ sym (v.stands y)

  same-conf : t.conf.auto_leave ≡ s.conf.auto_leave → t.conf ≡ s.conf
  same-conf e =
      conf_path t.conf s.conf
      (ascending_ext t.conf.incoming s.conf.incoming w.incoming↑ v.incoming↑ (λ y. ap (λ (p : Places). p.incoming) (spots y)))
      (ascending_ext t.conf.outgoing s.conf.outgoing w.outgoing↑ v.outgoing↑ (λ y. ap (λ (p : Places). p.outgoing) (spots y)))
      (ascending_ext t.conf.learners s.conf.learners w.learners↑ v.learners↑ (λ y. ap (λ (p : Places). p.learner) (spots y)))
      (ascending_ext t.conf.staged s.conf.staged w.staged↑ v.staged↑ (λ y. ap (λ (p : Places). p.staged) (spots y)))
      e

  same-tracked : ids t.peers ≡ ids s.peers
  same-tracked = ascending_ext (ids t.peers) (ids s.peers) w.ids↑ v.ids↑ (λ y. ap (λ (p : Places). p.tracked) (spots y))

-- ** The fresh state

pub fresh_in_order : (m : ℕ) → in_order (fresh m) ≡ true
unfolding in_order apart formed conf_formed ascending check each insert_all memb same_ids ids
fresh_in_order m = refl

fresh-box : (m y : ℕ) → box_of (fresh m) y ≡ nothing
unfolding memb ids standing_in record_of
fresh-box m y = refl

fresh_reached : (m : ℕ) → Reached (fresh m)
fresh_reached m e = refl

-- ** Restoring

not_both : (b : Bool) → (b ≡ true → ⊥) → b ≡ false
not_both true h = absurd (h refl)
not_both false h = refl

pub first : (xs : List ℕ) → is_empty xs ≡ false → (q : ℕ) × (memb q xs ≡ true)
first [] h = absurd (true≢false h)
first (x ∷ xs) h = (x, memb_head x xs)

one_append : (cs ds : List Change) → one_by_one (cs ++ ds) ≡ one_by_one cs ++ one_by_one ds
unfolding one_by_one
one_append [] ds = refl
one_append (c ∷ cs) ds = ap (λ (l : List Step). simple_step (c ∷ []) ∷ l) (one_append cs ds)

-- accepted, with the configuration and the tracked ids of s
record Same (s : State) (o : Outcome) : Type 0 where
  verdict : o.verdict ≡ ok
  conf : o.state.conf ≡ s.conf
  tracked : ids o.state.peers ≡ ids s.peers

module _ (s : State) (o : Ordered s) (k : Reached s) (m n : ℕ) where
  abbrev T : List ℕ
  T = ids s.peers

  abbrev T↑ : ascending T ≡ true
  T↑ = o.sound.ids↑

  abbrev f : State
  f = fresh m

  abbrev r : Progress
  r = fresh_record n m

  of : Ordered f
  of = ordered_of f (fresh_in_order m)

  p : Passes (is_tracked s) s.conf
  p = passes_of (is_tracked s) s.conf o.checked

  no_zero : memb 0 T ≡ false
  no_zero = ap (λ (q : Places). q.tracked) (o.sound.stands 0) ∙ ap (λ (t : Standing). (places_of t).tracked) o.zero

  good : (xs : List ℕ) → ((x : ℕ) → memb x xs ≡ true → memb x T ≡ true) → Good n T T↑ o.few xs
  good xs h x i = (h x i, ne_eqb x 0 (λ e. true≢false (sym (h x i) ∙ ap (λ (z : ℕ). memb z T) e ∙ no_zero)))

  nobody : (y : ℕ) → memb y (ids f.peers) ≡ true → memb y T ≡ true
  unfolding memb ids
  nobody y i = absurd (false≢true i)

  -- the standing of 0
  zero_same : (t : State) → Ordered t → (box_of t 0).standing ≡ (box_of s 0).standing
  zero_same t q = q.zero ∙ sym o.zero

  all_same : (t : State) → Ordered t → ((y : ℕ) → eqb y 0 ≡ false → (box_of t y).standing ≡ (box_of s y).standing) → (y : ℕ) → (box_of t y).standing ≡ (box_of s y).standing
  all_same t q h y = go (eqb y 0) refl
    where
      go : (b : Bool) → eqb y 0 ≡ b → (box_of t y).standing ≡ (box_of s y).standing
      go true e = rw (eqb-true y 0 e) (zero_same t q)
      go false e = h y e

  lists : ConfState
  lists = record { voters = s.conf.incoming; learners = s.conf.learners; voters_outgoing = s.conf.outgoing; learners_next = s.conf.staged; auto_leave = s.conf.auto_leave }

  abbrev inc : List ℕ
  inc = s.conf.incoming

  abbrev out : List ℕ
  out = s.conf.outgoing

  abbrev lrn : List ℕ
  lrn = s.conf.learners

  abbrev stg : List ℕ
  stg = s.conf.staged

  -- a state with the standings of s is s's configuration come back
  back-of : (t : State) → Ordered t → (u : Outcome) → u ≡ record { verdict = ok; state = t } → ((y : ℕ) → eqb y 0 ≡ false → (box_of t y).standing ≡ (box_of s y).standing)
      → t.conf.auto_leave ≡ s.conf.auto_leave → Same s u
  back-of t q u e h a =
      rw e (record { verdict = refl; conf = same-conf s t o.sound q.sound (all_same t q h) a; tracked = same-tracked s t o.sound q.sound (all_same t q h) })

  wanted-box : (q : Progress) (y : ℕ) → eqb y 0 ≡ false → (b : Box) → changes_box q y (wanted lists) b ≡ on (memb y stg) q add_learner (on (memb y lrn) q add_learner (on (memb y inc) q add_node b))
  unfolding lists
  wanted-box q y z b =
      changes_append q y (all add_node inc) (all add_learner lrn ++ all add_learner stg) b
      ∙ changes_append q y (all add_learner lrn) (all add_learner stg) (changes_box q y (all add_node inc) b)
      ∙ changes-all q y add_learner stg z (changes_box q y (all add_learner lrn) (changes_box q y (all add_node inc) b))
      ∙ ap (on (memb y stg) q add_learner) (changes-all q y add_learner lrn z (changes_box q y (all add_node inc) b) ∙ ap (on (memb y lrn) q add_learner) (changes-all q y add_node inc z b))

  -- ** Voters one by one, from fresh

  module _ (xs : List ℕ) (h : (x : ℕ) → memb x xs ≡ true → memb x T ≡ true) where
    added : Ran n T f (one_by_one (all add_node xs)) (all add_node xs)
    added = voters-run n T T↑ o.few xs (good xs h) f of refl nobody

    nonzero : (x : ℕ) → memb x xs ≡ true → eqb x 0 ≡ false
    nonzero x i = (good xs h x i).1

    added_box : (y : ℕ) → eqb y 0 ≡ false → box_of added.end y ≡ on (memb y xs) r add_node nothing
    added_box y z = added.boxes y ∙ changes-all r y add_node xs z (box_of f y) ∙ ap (on (memb y xs) r add_node) (fresh-box m y)

    added_in : (x : ℕ) → memb x xs ≡ true → memb x added.end.conf.incoming ≡ true
    unfolding table
    added_in x i =
        incoming-of added.end.conf added.end.peers added.ordered.sound x
        ∙ ap (λ (b : Box). (places_of b.standing).incoming) (added_box x (nonzero x i) ∙ ap (λ (t : Bool). on t r add_node nothing) i)

  -- ** Not joint

  module _ (j : joint s.conf ≡ false) where
    alone_spot : (y : ℕ) → (alone r (spot s.conf s.peers y)).standing ≡ (box_of s y).standing
    alone_spot y = go (box_of s y).standing (o.sound.stands y) (o.busy y)
      where
        go : (st : Standing) → spot s.conf s.peers y ≡ places_of st → is_idle st ≡ false → (alone r (spot s.conf s.peers y)).standing ≡ st
        go st q b = ap (λ (e : Places). (alone r e).standing) q ∙ alone_same r st b (sym (ap (λ (e : Places). e.outgoing) q) ∙ no_joint s.conf j y)

    single_ran : Ran n T f (one_by_one (wanted lists)) (wanted lists)
    unfolding lists all one_by_one
    single_ran = go (is_empty inc) refl
      where
        none_ran : s.conf ≡ no_conf → Ran n T f (one_by_one (all add_node inc ++ (all add_learner lrn ++ all add_learner stg))) (all add_node inc ++ (all add_learner lrn ++ all add_learner stg))
        none_ran e = rw (ap (λ (c : Conf). c.incoming) e, ap (λ (c : Conf). c.learners) e, ap (λ (c : Conf). c.staged) e) (ran_none n T T↑ o.few f of refl nobody)

        some_ran : (q : ℕ) × (memb q inc ≡ true) → Ran n T f (one_by_one (all add_node inc ++ (all add_learner lrn ++ all add_learner stg))) (all add_node inc ++ (all add_learner lrn ++ all add_learner stg))
        some_ran q =
            let A : Ran n T f (one_by_one (all add_node inc)) (all add_node inc) = added inc p.incoming-tracked in
            let a : memb q.0 A.end.conf.incoming ≡ true = added_in inc p.incoming-tracked q.0 q.1 in
            let ql : memb q.0 lrn ≡ false = not_both (memb q.0 lrn) (λ e. true≢false (sym q.1 ∙ p.learner-not-incoming q.0 e)) in
            let qg : memb q.0 stg ≡ false = not_both (memb q.0 stg) (λ e. true≢false (sym (p.staged-outgoing q.0 e) ∙ no_joint s.conf j q.0)) in
            let B : Ran n T A.end (one_by_one (all add_learner lrn)) (all add_learner lrn) =
            learners-run n T T↑ o.few q.0 lrn (good lrn p.learner-tracked) ql A.end A.ordered A.single A.within a in
            let b : memb q.0 B.end.conf.incoming ≡ true =
            incoming-of B.end.conf B.end.peers B.ordered.sound q.0
            ∙ ap (λ (x : Box). (places_of x.standing).incoming) (B.boxes q.0 ∙ changes-all (fresh_record n A.end.max_inflight) q.0 add_learner lrn (nonzero inc p.incoming-tracked q.0 q.1) (box_of A.end q.0) ∙ ap (λ (t : Bool). on t (fresh_record n A.end.max_inflight) add_learner (box_of A.end q.0)) ql)
            ∙ sym (incoming-of A.end.conf A.end.peers A.ordered.sound q.0) ∙ a in
            let C : Ran n T B.end (one_by_one (all add_learner stg)) (all add_learner stg) =
            learners-run n T T↑ o.few q.0 stg (good stg p.staged-tracked) qg B.end B.ordered B.single B.within b in
            rw (one_append (all add_node inc) (all add_learner lrn ++ all add_learner stg), one_append (all add_learner lrn) (all add_learner stg))
            (ran_more n T T↑ o.few f (one_by_one (all add_node inc)) (one_by_one (all add_learner lrn) ++ one_by_one (all add_learner stg)) (all add_node inc) (all add_learner lrn ++ all add_learner stg) A
            (ran_more n T T↑ o.few A.end (one_by_one (all add_learner lrn)) (one_by_one (all add_learner stg)) (all add_learner lrn) (all add_learner stg) B C))

        go : (b : Bool) → is_empty inc ≡ b → Ran n T f (one_by_one (all add_node inc ++ (all add_learner lrn ++ all add_learner stg))) (all add_node inc ++ (all add_learner lrn ++ all add_learner stg))
        go true e = none_ran (k e)
        go false e = some_ran (first inc e)

    single-back : Same s (run n f (one_by_one (wanted lists)))
    single-back =
        back-of single_ran.end single_ran.ordered (run n f (one_by_one (wanted lists))) single_ran.result
        (λ y z. ap (λ (b : Box). b.standing) (single_ran.boxes y ∙ wanted-box r y z (box_of f y) ∙ ap (λ (b : Box). on (memb y stg) r add_learner (on (memb y lrn) r add_learner (on (memb y inc) r add_node b))) (fresh-box m y)) ∙ alone_spot y)
        (quiet single_ran.end single_ran.ordered single_ran.single ∙ sym (quiet s o j))
      where
        quiet : (t : State) → Ordered t → joint t.conf ≡ false → t.conf.auto_leave ≡ false
        quiet t q e = ap (λ (b : Bool). not b && t.conf.auto_leave) (sym e) ∙ (passes_of (is_tracked t) t.conf q.checked).single_quiet

  -- ** Joint

  module _ (j : joint s.conf ≡ true) where
    abbrev cs : List Change
    cs = all remove_node out ++ wanted lists

    abbrev u : State
    u = (added out p.outgoing-tracked).end

    abbrev ou : Ordered u
    ou = (added out p.outgoing-tracked).ordered

    abbrev ju : joint u.conf ≡ false
    ju = (added out p.outgoing-tracked).single

    abbrev r' : Progress
    r' = fresh_record n u.max_inflight

    abbrev up' : ascending (ids u.peers) ≡ true
    up' = ou.sound.ids↑

    jointly_spot : (y : ℕ) → (jointly r r' (spot s.conf s.peers y)).standing ≡ (box_of s y).standing
    jointly_spot y = go (box_of s y).standing (o.sound.stands y) (o.busy y)
      where
        go : (st : Standing) → spot s.conf s.peers y ≡ places_of st → is_idle st ≡ false → (jointly r r' (spot s.conf s.peers y)).standing ≡ st
        go st q b = ap (λ (e : Places). (jointly r r' e).standing) q ∙ jointly_same r r' st b

    inside_all : (i : Kind) (xs : List ℕ) → ((x : ℕ) → memb x xs ≡ true → memb x T ≡ true) → (ds : List Change) → inside r' u.peers up' T T↑ o.few ds → inside r' u.peers up' T T↑ o.few (all i xs ++ ds)
    unfolding all memb
    inside_all i [] h ds d = d
    inside_all i (x ∷ xs) h ds d = (h x (memb_head x xs), inside_all i xs (λ y e. h y (or-true (eqb x y) (memb y xs) e)) ds d)

    inside_only : (i : Kind) (xs : List ℕ) → ((x : ℕ) → memb x xs ≡ true → memb x T ≡ true) → inside r' u.peers up' T T↑ o.few (all i xs)
    unfolding all memb
    inside_only i [] h = tt
    inside_only i (x ∷ xs) h = (h x (memb_head x xs), inside_only i xs (λ y e. h y (or-true (eqb x y) (memb y xs) e)))

    fit : (w : Work) × (changes (ids u.peers) cs (start (entering u.conf)) ≡ done w) × Within r' u.peers up' T T↑ o.few w
    unfolding lists enrol
    fit =
        changes_fit r' u.peers up' T T↑ o.few cs (start (entering u.conf)) (fine_enter u (ordered-checked u ou) r' ju) (added out p.outgoing-tracked).within
        (inside_all remove_node out p.outgoing-tracked (all add_node inc ++ (all add_learner lrn ++ all add_learner stg))
        (inside_all add_node inc p.incoming-tracked (all add_learner lrn ++ all add_learner stg) (inside_all add_learner lrn p.learner-tracked (all add_learner stg) (inside_only add_learner stg p.staged-tracked))))

    abbrev w : Work
    w = fit.0

    a : After r' u.peers up' cs (start (entering u.conf)) w
    a = changes-done r' u.peers up' cs (start (entering u.conf)) fit.0 fit.1 (fine_enter u (ordered-checked u ou) r' ju)

    joint-box : (y : ℕ) → eqb y 0 ≡ false → changes_box r' y cs (enter_box (on (memb y out) r add_node nothing)) ≡ jointly r r' (spot s.conf s.peers y)
    joint-box y z =
        changes_append r' y (all remove_node out) (wanted lists) (enter_box (on (memb y out) r add_node nothing))
        ∙ wanted-box r' y z (changes_box r' y (all remove_node out) (enter_box (on (memb y out) r add_node nothing)))
        ∙ ap (λ (b : Box). on (memb y stg) r' add_learner (on (memb y lrn) r' add_learner (on (memb y inc) r' add_node b))) (changes-all r' y remove_node out z (enter_box (on (memb y out) r add_node nothing)))

    w_box : (y : ℕ) → eqb y 0 ≡ false → (box_at w.conf (now r' u.peers up' w) y).standing ≡ (box_of s y).standing
    unfolding enrol
    w_box y z =
        ap (λ (b : Box). b.standing) (a.boxes y ∙ ap (changes_box r' y cs) (enter-box u.conf u.peers ou.sound ju y ∙ ap enter_box (added_box out p.outgoing-tracked y z)) ∙ joint-box y z) ∙ jointly_spot y

    voters : is_empty inc ≡ false
    voters = not_both (is_empty inc) (λ e. true≢false (sym j ∙ ap joint (k e)))

    left : is_empty u.conf.incoming ≡ false
    left = go (first out (not-true (is_empty out) j))
      where
        go : (q : ℕ) × (memb q out ≡ true) → is_empty u.conf.incoming ≡ false
        go q = memb-some q.0 u.conf.incoming (added_in out p.outgoing-tracked q.0 q.1)

    right : is_empty w.conf.incoming ≡ false
    right = go (first inc voters)
      where
        go : (q : ℕ) × (memb q inc ≡ true) → is_empty w.conf.incoming ≡ false
        go q =
            memb-some q.0 w.conf.incoming
            (incoming-of w.conf (now r' u.peers up' w) a.fine.sound q.0
            ∙ ap (λ (t : Standing). (places_of t).incoming) (w_box q.0 (nonzero inc p.incoming-tracked q.0 q.1))
            ∙ sym (incoming-of s.conf s.peers o.sound q.0) ∙ q.1)

    accepts : enter_of u s.conf.auto_leave cs ≡ accepted (with_auto s.conf.auto_leave w.conf) w.log
    accepts = enter-accepted u (ordered-checked u ou) r' ju cs w right s.conf.auto_leave left fit.1

    total : length cs ≤ 256
    unfolding lists
    total =
        let ni : length inc ≤ length T = length_part inc T o.sound.incoming↑ T↑ p.incoming-tracked in
        let no' : length out ≤ length T = length_part out T o.sound.outgoing↑ T↑ p.outgoing-tracked in
        let nl : length lrn ≤ length T = length_part lrn T o.sound.learners↑ T↑ p.learner-tracked in
        let ng : length stg ≤ length T = length_part stg T o.sound.staged↑ T↑ p.staged-tracked in
        let nt : length T ≤ 64 = o.few in
        simp (length-append, length-of) (omega arith)

    d : Stepped u r' (enter_step s.conf.auto_leave cs) (with_auto s.conf.auto_leave w.conf) w.log
    unfolding ask
    d = asked u ou r' (enter_step s.conf.auto_leave cs) total (with_auto s.conf.auto_leave w.conf) w.log accepts

    ends : run n f (one_by_one (all add_node out) ++ (enter_step s.conf.auto_leave cs ∷ [])) ≡ record { verdict = ok; state = applied u (with_auto s.conf.auto_leave w.conf) w.log n }
    unfolding run ask
    ends =
        run_append n T T↑ o.few (one_by_one (all add_node out)) (enter_step s.conf.auto_leave cs ∷ []) f
        ∙ ap (λ (e : Outcome). go_on e (λ t. run n t (enter_step s.conf.auto_leave cs ∷ []))) (added out p.outgoing-tracked).result
        ∙ rw (accepts, apply-ok u ou n (enter_step s.conf.auto_leave cs) (with_auto s.conf.auto_leave w.conf) w.log d)

    joint-back : Same s (run n f (one_by_one (all add_node out) ++ (enter_step s.conf.auto_leave cs ∷ [])))
    joint-back =
        back-of (applied u (with_auto s.conf.auto_leave w.conf) w.log n) (apply-ordered u ou n (enter_step s.conf.auto_leave cs) (with_auto s.conf.auto_leave w.conf) w.log d)
        (run n f (one_by_one (all add_node out) ++ (enter_step s.conf.auto_leave cs ∷ []))) ends w_box refl

  -- ** Either

  writes : to_conf_state s ≡ record { verdict = ok; conf_state = lists }
  unfolding to_conf_state lists
  writes = rw (formed-of s o)

  restores : restorable f lists ≡ ok
  unfolding restorable lists
  restores =
      let nt : length T ≤ 64 = o.few in
      let ni : length inc ≤ 64 = omega (arith, length_part inc T o.sound.incoming↑ T↑ p.incoming-tracked) in
      let no' : length out ≤ 64 = omega (arith, length_part out T o.sound.outgoing↑ T↑ p.outgoing-tracked) in
      let nl : length lrn ≤ 64 = omega (arith, length_part lrn T o.sound.learners↑ T↑ p.learner-tracked) in
      let ng : length stg ≤ 64 = omega (arith, length_part stg T o.sound.staged↑ T↑ p.staged-tracked) in
      rw (formed-of f of, le-leb (length inc) 64 ni, le-leb (length out) 64 no', le-leb (length lrn) 64 nl, le-leb (length stg) 64 ng)

  runs : Same s (run n f (restore_steps lists))
  unfolding restore_steps lists
  runs = go (is_empty out) refl
    where
      go : (b : Bool) → is_empty out ≡ b
          → Same s (run n f (cond b (one_by_one (wanted lists)) (one_by_one (all add_node out) ++ (enter_step s.conf.auto_leave (all remove_node out ++ wanted lists) ∷ []))))
      go true e = single-back (rw e)
      go false e = joint-back (rw e)

  still : (restore_step_by_step f lists n).state.max_inflight ≡ m
  unfolding after_calls perform
  still = (calls_lead (step_by_step_call lists n ∷ []) f of).inflight

  pub comes_back : ComesBack s m n
  unfolding restore_step_by_step
  comes_back =
      record {
        writes = rw writes;
        back = rw (writes, whole-accepted f lists n same.verdict)
            (record { verdict = same.verdict; conf = same.conf; tracked = same.tracked; records = restored-records m n of lists; inflight = still });
      }
    where
      same : Same s (restore_step_by_step f lists n)
      same = rw restores runs

-- ** The round trip

-- to fresh with any `max_inflight` l and any `next_idx` n: in order, with an incoming voter or empty
pub order_trip : (s : State) → in_order s ≡ true → is_empty s.conf.incoming ≡ false → (l n : ℕ) → ComesBack s l n
order_trip s h v = comes_back s (ordered_of s h) (λ e. absurd (true≢false (sym e ∙ v)))

pub empty_trip : (s : State) → in_order s ≡ true → s.conf ≡ no_conf → (l n : ℕ) → ComesBack s l n
empty_trip s h e = comes_back s (ordered_of s h) (λ i. e)

-- from any calls
pub round_trip : (m l n : ℕ) (cs : List Call) → ComesBack (after_calls (fresh m) cs) l n
round_trip m l n cs =
    let leads : Leads (fresh m) (after_calls (fresh m) cs) (deeds (fresh m) cs) = calls_lead cs (fresh m) (ordered_of (fresh m) (fresh_in_order m)) in
    comes_back (after_calls (fresh m) cs) leads.ordered (leads.reached (fresh_reached m)) l n
