-- Steps of one change each, as restore takes them. Assumes nothing.
use Prim.Native.Nat.{ℕ, ◌≤◌}
use mathlib.Core.Path.{◌≡◌, refl, ap, ◌∙◌, sym}
use mathlib.Core.Bool.{Bool, true, false, ◌&&◌, not, cond, false≢true}
use mathlib.Core.List.{List, [], ◌∷◌, ◌++◌}
use native.Mathlib.Omega.{arith}
use borrow.Author.Tests.{eq-eqb}
use lib.Dec.{eqb, leb}
use lib.ListN.{length}
use Rattle.progress.specs.Record.{fresh_record}
use Rattle.progress.specs.declared.Progress.{Progress}
use Rattle.rules.specs.Ids.{ascending, is_empty, memb}
use Rattle.rules.specs.State.{Change, Conf, Kind, Peer, State, add_learner, add_node, ids}
use Rattle.rules.specs.Answers.{Verdict, accepted, fault, ok}
use Rattle.rules.specs.Check.{joint}
use Rattle.rules.specs.Table.{I, IO, L, O, OS, Places, Standing, idle, none, places_of, table}
use Rattle.rules.specs.Changes.{Work, changes, done}
use Rattle.rules.specs.Calls.{difference, simple_of, start}
use Rattle.rules.specs.Apply.{applied, enrol}
use Rattle.rules.specs.Restore.{Step, all, ask, attempt, go_on, one_by_one, run, simple_step}
use Rattle.rules.specs.Boxes.{Box, box_of, change_box}
use Rattle.rules.proofs.Sets.{memb_head, or_left, or_right, or-true}
use Rattle.rules.proofs.Plain.{changes_box}
use Rattle.rules.proofs.Boxes.{Sound, box_at}
use Rattle.rules.proofs.Changes.{After, Fine, changes-done, named, now}
use Rattle.rules.proofs.Steps.{Checked, Ordered, Stepped, ordered-checked}
use Rattle.rules.proofs.Order.{apply-ok, apply-ordered, asked}
use Rattle.rules.proofs.Accept.{Within, changes_fit, fine_start, simple-accepted}
use Rattle.rules.proofs.Near.{near}

-- ** Who is incoming after a change

pub memb-some : (x : ℕ) (xs : List ℕ) → memb x xs ≡ true → is_empty xs ≡ false
unfolding memb
memb-some x [] m = absurd (false≢true m)
memb-some x (y ∷ ys) m = refl

pub incoming-of : (c : Conf) (ps : List Peer) → Sound c ps → (y : ℕ) → memb y c.incoming ≡ (places_of (box_at c ps y).standing).incoming
incoming-of c ps s y = ap (λ (p : Places). p.incoming) (s.stands y)

module _ (r : Progress) (ps : List Peer) (up : ascending (ids ps) ≡ true) (c : Change) (w v : Work) (f : Fine r ps up w) (a : After r ps up (c ∷ []) w v) (z : eqb c.id 0 ≡ false) where
  pub incoming-after : (y : ℕ) → memb y v.conf.incoming ≡ cond (eqb c.id y) (places_of (table (box_at w.conf (now r ps up w) y).standing c.kind).0).incoming (memb y w.conf.incoming)
  unfolding changes_box
  incoming-after y =
      incoming-of v.conf (now r ps up v) a.fine.sound y
      ∙ ap (λ (b : Box). (places_of b.standing).incoming) (a.boxes y ∙ ap (λ (t : Bool). cond t (change_box r c.kind (box_at w.conf (now r ps up w) y)) (box_at w.conf (now r ps up w) y)) (named c.id y z))
      ∙ go (eqb c.id y)
    where
      go : (e : Bool) → (places_of (cond e (change_box r c.kind (box_at w.conf (now r ps up w) y)) (box_at w.conf (now r ps up w) y)).standing).incoming
          ≡ cond e (places_of (table (box_at w.conf (now r ps up w) y).standing c.kind).0).incoming (memb y w.conf.incoming)
      go true = refl
      go false = sym (incoming-of w.conf (now r ps up w) f.sound y)

  pub few_differ : leb 2 (difference v.conf.incoming w.conf.incoming) ≡ false
  few_differ = near c.id v.conf.incoming w.conf.incoming a.fine.sound.incoming↑ f.sound.incoming↑ (λ y e. incoming-after y ∙ rw e)

voter_row_lem : (st : Standing) → (places_of (table st add_node).0).incoming ≡ true
unfolding table
voter_row_lem none = refl
voter_row_lem idle = refl
voter_row_lem I = refl
voter_row_lem L = refl
voter_row_lem O = refl
voter_row_lem IO = refl
voter_row_lem OS = refl

learner-row : (st : Standing) → (places_of (table st add_learner).0).incoming ≡ false
unfolding table
learner-row none = refl
learner-row idle = refl
learner-row I = refl
learner-row L = refl
learner-row O = refl
learner-row IO = refl
learner-row OS = refl

pub changes_append : (r : Progress) (y : ℕ) (cs ds : List Change) (b : Box) → changes_box r y (cs ++ ds) b ≡ changes_box r y ds (changes_box r y cs b)
unfolding changes_box
changes_append r y [] ds b = refl
changes_append r y (c ∷ cs) ds b = changes_append r y cs ds (cond (eqb c.id y && not (eqb y 0)) (change_box r c.kind b) b)

-- ** One step of one change, and a run of them

pub record Ran (n : ℕ) (T : List ℕ) (u : State) (ps : List Step) (cs : List Change) : Type 0 where
  pub end : State
  pub result : run n u ps ≡ record { verdict = ok; state = end }
  pub ordered : Ordered end
  pub single : joint end.conf ≡ false
  pub within : (y : ℕ) → memb y (ids end.peers) ≡ true → memb y T ≡ true
  pub inflight : end.max_inflight ≡ u.max_inflight
  pub boxes : (y : ℕ) → box_of end y ≡ changes_box (fresh_record n u.max_inflight) y cs (box_of u y)

module _ (n : ℕ) (T : List ℕ) (T↑ : ascending T ≡ true) (T64 : length T ≤ 64) where
  module _ (u : State) (o : Ordered u) (j : joint u.conf ≡ false) (i : (y : ℕ) → memb y (ids u.peers) ≡ true → memb y T ≡ true) where
    abbrev r : Progress
    r = fresh_record n u.max_inflight

    abbrev up : ascending (ids u.peers) ≡ true
    up = o.sound.ids↑

    abbrev oc : Checked u
    oc = ordered-checked u o

    one-step : (c : Change) → memb c.id T ≡ true → eqb c.id 0 ≡ false
        → ((v : Work) → After r u.peers up (c ∷ []) (start u.conf) v → is_empty v.conf.incoming ≡ false) → Ran n T u (simple_step (c ∷ []) ∷ []) (c ∷ [])
    unfolding run enrol ask
    one-step c m z k =
        record {
          end = applied u v.conf v.log n;
          result = rw (acc, apply-ok u o n (simple_step (c ∷ [])) v.conf v.log d);
          ordered = apply-ordered u o n (simple_step (c ∷ [])) v.conf v.log d;
          single = rw a.outgoing j;
          within = fit.2;
          inflight = refl;
          boxes = d.boxes;
        }
      where
        fit : (v : Work) × (changes (ids u.peers) (c ∷ []) (start u.conf) ≡ done v) × Within r u.peers up T T↑ T64 v
        fit = changes_fit r u.peers up T T↑ T64 (c ∷ []) (start u.conf) (fine_start u oc r j) i (m, tt)

        v : Work
        v = fit.0

        a : After r u.peers up (c ∷ []) (start u.conf) v
        a = changes-done r u.peers up (c ∷ []) (start u.conf) v fit.1 (fine_start u oc r j)

        acc : simple_of u (c ∷ []) ≡ accepted v.conf v.log
        acc = simple-accepted u oc r j (c ∷ []) v (k v a) fit.1 (few_differ r u.peers up c (start u.conf) v (fine_start u oc r j) a z)

        d : Stepped u r (simple_step (c ∷ [])) v.conf v.log
        d = asked u o r (simple_step (c ∷ [])) (omega arith) v.conf v.log acc

    voter_step : (x : ℕ) → memb x T ≡ true → eqb x 0 ≡ false → Ran n T u (simple_step (record { kind = add_node; id = x } ∷ []) ∷ []) (record { kind = add_node; id = x } ∷ [])
    voter_step x m z =
        one-step (record { kind = add_node; id = x }) m z (λ v a. memb-some x v.conf.incoming
        (incoming-after r u.peers up (record { kind = add_node; id = x }) (start u.conf) v (fine_start u oc r j) a z x ∙ rw (eq-eqb x x refl) (voter_row_lem (box_at u.conf (enrol r [] u.peers) x).standing)))

    learner-step : (x q : ℕ) → memb x T ≡ true → eqb x 0 ≡ false → memb q u.conf.incoming ≡ true → eqb x q ≡ false
        → Ran n T u (simple_step (record { kind = add_learner; id = x } ∷ []) ∷ []) (record { kind = add_learner; id = x } ∷ [])
    learner-step x q m z h e =
        one-step (record { kind = add_learner; id = x }) m z (λ v a. memb-some q v.conf.incoming
        (incoming-after r u.peers up (record { kind = add_learner; id = x }) (start u.conf) v (fine_start u oc r j) a z q ∙ rw e h))

  pub ran_none : (u : State) → Ordered u → joint u.conf ≡ false → ((y : ℕ) → memb y (ids u.peers) ≡ true → memb y T ≡ true) → Ran n T u [] []
  unfolding run changes_box
  ran_none u o j i = record { end = u; result = refl; ordered = o; single = j; within = i; inflight = refl; boxes = λ y. refl }

  pub run_append : (ps qs : List Step) (u : State) → run n u (ps ++ qs) ≡ go_on (run n u ps) (λ t. run n t qs)
  unfolding run
  run_append [] qs u = refl
  run_append (p ∷ ps) qs u = go (attempt n u p).verdict (attempt n u p).state (run_append ps qs)
    where
      go : (v : Verdict) (t : State) → ((t : State) → run n t (ps ++ qs) ≡ go_on (run n t ps) (λ t. run n t qs))
          → go_on (record { verdict = v; state = t }) (λ t. run n t (ps ++ qs)) ≡ go_on (go_on (record { verdict = v; state = t }) (λ t. run n t ps)) (λ t. run n t qs)
      go ok t ih = ih t
      go (fault m x) t ih = refl

  pub ran_more : (u : State) (ps qs : List Step) (cs ds : List Change) (p : Ran n T u ps cs) → Ran n T p.end qs ds → Ran n T u (ps ++ qs) (cs ++ ds)
  ran_more u ps qs cs ds p q =
      record {
        end = q.end;
        result = run_append ps qs u ∙ rw p.result q.result;
        ordered = q.ordered;
        single = q.single;
        within = q.within;
        inflight = q.inflight ∙ p.inflight;
        boxes = λ y. q.boxes y ∙ rw (p.inflight, p.boxes y) (sym (changes_append (fresh_record n u.max_inflight) y cs ds (box_of u y)));
      }

  -- all of them have a place, and none is 0
  abbrev pub Good : List ℕ → Type 0
  Good xs = (x : ℕ) → memb x xs ≡ true → (memb x T ≡ true) × (eqb x 0 ≡ false)

  good_tail : (x : ℕ) (xs : List ℕ) → Good (x ∷ xs) → Good xs
  unfolding memb
  good_tail x xs g y m = g y (or-true (eqb x y) (memb y xs) m)

  pub voters-run : (xs : List ℕ) → Good xs → (u : State) → Ordered u → joint u.conf ≡ false → ((y : ℕ) → memb y (ids u.peers) ≡ true → memb y T ≡ true)
      → Ran n T u (one_by_one (all add_node xs)) (all add_node xs)
  unfolding one_by_one all
  voters-run [] g u o j i = ran_none u o j i
  voters-run (x ∷ xs) g u o j i =
      let p : Ran n T u (simple_step (record { kind = add_node; id = x } ∷ []) ∷ []) (record { kind = add_node; id = x } ∷ []) = voter_step u o j i x (g x (memb_head x xs)).0 (g x (memb_head x xs)).1 in
      ran_more u (simple_step (record { kind = add_node; id = x } ∷ []) ∷ []) (one_by_one (all add_node xs)) (record { kind = add_node; id = x } ∷ []) (all add_node xs) p
      (voters-run xs (good_tail x xs g) p.end p.ordered p.single p.within)

  -- q is a voter all the while
  stays_voter : (u : State) (x q : ℕ) (k : Kind) → Ordered u → eqb x q ≡ false → memb q u.conf.incoming ≡ true
      → (p : Ran n T u (simple_step (record { kind = k; id = x } ∷ []) ∷ []) (record { kind = k; id = x } ∷ [])) → memb q p.end.conf.incoming ≡ true
  unfolding changes_box
  stays_voter u x q k o e m p =
      incoming-of p.end.conf p.end.peers p.ordered.sound q
      ∙ ap (λ (b : Box). (places_of b.standing).incoming) (p.boxes q ∙ ap (λ (t : Bool). cond (t && not (eqb q 0)) (change_box (fresh_record n u.max_inflight) k (box_of u q)) (box_of u q)) e)
      ∙ sym (incoming-of u.conf u.peers o.sound q)
      ∙ m

  pub learners-run : (q : ℕ) (xs : List ℕ) → Good xs → memb q xs ≡ false → (u : State) → Ordered u → joint u.conf ≡ false → ((y : ℕ) → memb y (ids u.peers) ≡ true → memb y T ≡ true)
      → memb q u.conf.incoming ≡ true → Ran n T u (one_by_one (all add_learner xs)) (all add_learner xs)
  unfolding one_by_one all memb
  learners-run q [] g f u o j i m = ran_none u o j i
  learners-run q (x ∷ xs) g f u o j i m =
      let e : eqb x q ≡ false = or_left (eqb x q) (memb q xs) f in
      let p : Ran n T u (simple_step (record { kind = add_learner; id = x } ∷ []) ∷ []) (record { kind = add_learner; id = x } ∷ []) = learner-step u o j i x q (g x (memb_head x xs)).0 (g x (memb_head x xs)).1 m e in
      ran_more u (simple_step (record { kind = add_learner; id = x } ∷ []) ∷ []) (one_by_one (all add_learner xs)) (record { kind = add_learner; id = x } ∷ []) (all add_learner xs) p
      (learners-run q xs (good_tail x xs g) (or_right (eqb x q) (memb q xs) f) p.end p.ordered p.single p.within (stays_voter u x q add_learner o e m p))
