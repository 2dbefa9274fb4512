-- Demand 3, and document 02's i): what holds at each accepted step of any sequence of calls. Assumes nothing.
use Prim.Native.Nat.{ℕ, suc, ◌≤◌}
use mathlib.Core.Path.{◌≡◌, refl, ap, ◌∙◌, subst, sym}
use mathlib.Core.Bool.{Bool, true, false, ◌&&◌, ◌||◌, not, cond}
use mathlib.Core.List.{List, [], ◌∷◌, ◌++◌, append-nil}
use native.Mathlib.Omega.{arith}
use borrow.Author.Tests.{leb-true, ltb-false, not-false}
use lib.Dec.{eqb, ltb}
use lib.ListN.{length, length-append}
use Rattle.progress.specs.Record.{fresh_record}
use Rattle.progress.specs.declared.Progress.{Progress}
use Rattle.rules.specs.Ids.{is_empty}
use Rattle.rules.specs.State.{Change, Conf, ConfState, Entry, Kind, State, add_learner, add_node, formed, no_conf, remove_node}
use Rattle.rules.specs.Answers.{Answer, Outcome, Verdict, ◌⇒◌, ◌▸◌, accepted, each, fault, ok, refuse, refused, settle}
use Rattle.rules.specs.Check.{in_order}
use Rattle.rules.specs.Calls.{enter_joint, leave_joint, leave_of, list_of, readable, simple}
use Rattle.rules.specs.Apply.{applied}
use Rattle.rules.specs.Restore.{Step, all, apply_answer, ask, attempt, enter_step, go_on, guarded, leave_step, one_by_one, restorable, restore, restore_step_by_step, restore_steps, run, short, simple_step, wanted}
use Rattle.rules.specs.Sequences.{Call, Deed, after_calls, after_deeds, deeds, deeds_of, deeds_of_run, enter_call, if_ok, in_turn, leave_call, perform, restore_call, simple_call, step_by_step_call}
use Rattle.rules.specs.Boxes.{Event, box_of, events, named, naming, replay}
use Rattle.rules.specs.Quorum.{CallsShare, EachStepShares, Neighbours, SequenceShares}
use Rattle.rules.specs.Demands.{Kept}
use Rattle.rules.proofs.Sets.{and_left, and_right, or_right}
use Rattle.rules.proofs.Plain.{events_append, replay_append, replay-step}
use Rattle.rules.proofs.Check.{refuse-ok, then_left, then_right}
use Rattle.rules.proofs.Steps.{Ordered, Stepped}
use Rattle.rules.proofs.Means.{given-ok, given_then}
use Rattle.rules.proofs.Whole.{steps-counted}
use Rattle.rules.proofs.Applied.{asked-from}
use Rattle.rules.proofs.Order.{apply-ok, apply-ordered, asked, asked-checked, in_order_lem, ordered_of, step_short, tracked-members}

-- ** Every list of a call can be read

abbrev pub all_short : List Step → Type 0
all_short [] = Unit {0}
all_short (p ∷ ps) = step_short p × all_short ps

pub length_list : (xs ks : List ℕ) → length (list_of xs ks) ≤ length xs
unfolding list_of
length_list [] ks = omega arith
length_list (x ∷ xs) [] = omega arith
length_list (x ∷ xs) (k ∷ ks) = omega (arith, length_list xs ks)

pub read_short : (xs ks : List ℕ) → readable xs ks ≡ ok → length (list_of xs ks) ≤ 256
unfolding readable
read_short xs ks h =
    let e : not (eqb (length xs) (length ks)) || ltb 256 (length xs) ≡ false =
    refuse-ok (not (eqb (length xs) (length ks)) || ltb 256 (length xs)) 2 0 (then_left (refuse (not (eqb (length xs) (length ks)) || ltb 256 (length xs)) 2 0) (each (λ k. refuse (ltb 2 k) 3 0) ks) h) in
    omega (arith, length_list xs ks, ltb-false 256 (length xs) (or_right (not (eqb (length xs) (length ks))) (ltb 256 (length xs)) e))

one-short : (cs : List Change) (ps : List Step) → all_short ps → all_short (one_by_one cs ++ ps)
unfolding one_by_one
one-short [] ps h = h
one-short (c ∷ cs) ps h = (omega arith, one-short cs ps h)

one_only : (cs : List Change) → all_short (one_by_one cs)
unfolding one_by_one
one_only [] = tt
one_only (c ∷ cs) = (omega arith, one_only cs)

pub length-of : (k : Kind) (xs : List ℕ) → length (all k xs) ≡ length xs
unfolding all
length-of k [] = refl
length-of k (x ∷ xs) = ap suc (length-of k xs)

pub restore-short : (s : State) (cs : ConfState) → restorable s cs ≡ ok → all_short (restore_steps cs)
unfolding restorable restore_steps
restore-short s cs h = go (is_empty cs.voters_outgoing)
  where
    v : Bool
    v = short cs.voters

    l : Bool
    l = short cs.learners

    o : Bool
    o = short cs.voters_outgoing

    g : Bool
    g = short cs.learners_next

    fit : v && l && o && g ≡ true
    fit = not-false (v && l && o && g) (refuse-ok (not (v && l && o && g)) 2 0 (then_right (refuse (not (formed s)) 1 0) (refuse (not (v && l && o && g)) 2 0) h))

    vlo : v && l && o ≡ true
    vlo = and_left (v && l && o) g fit

    vl : v && l ≡ true
    vl = and_left (v && l) o vlo

    total : length (all remove_node cs.voters_outgoing ++ (all add_node cs.voters ++ (all add_learner cs.learners ++ all add_learner cs.learners_next))) ≤ 256
    total =
        let nv : length cs.voters ≤ 64 = leb-true (length cs.voters) 64 (and_left v l vl) in
        let nl : length cs.learners ≤ 64 = leb-true (length cs.learners) 64 (and_right v l vl) in
        let no' : length cs.voters_outgoing ≤ 64 = leb-true (length cs.voters_outgoing) 64 (and_right (v && l) o vlo) in
        let ng : length cs.learners_next ≤ 64 = leb-true (length cs.learners_next) 64 (and_right (v && l && o) g fit) in
        simp (length-append, length-of) (omega arith)

    go : (b : Bool) → all_short (cond b (one_by_one (wanted cs)) (one_by_one (all add_node cs.voters_outgoing) ++ (enter_step cs.auto_leave (all remove_node cs.voters_outgoing ++ wanted cs) ∷ [])))
    go true = one_only (wanted cs)
    go false = one-short (all add_node cs.voters_outgoing) (enter_step cs.auto_leave (all remove_node cs.voters_outgoing ++ wanted cs) ∷ []) (total, tt)

-- ** An accepted call is an accepted step, of a well-formed state and with a list that can be read

pub record Taken (s : State) (p : Step) (c : Conf) (log : List Entry) : Type 0 where
  pub well : formed s ≡ true
  pub short : step_short p
  pub step : ask s p ≡ accepted c log

module _ (s : State) (c : Conf) (log : List Entry) where
  abbrev ill : Verdict
  ill = refuse (not (formed s)) 1 0

  well_of : ill ≡ ok → formed s ≡ true
  well_of h = not-false (formed s) (refuse-ok (not (formed s)) 1 0 h)

  -- a step that goes by a list
  listed : (xs ks : List ℕ) (p : Step) → (length (list_of xs ks) ≤ 256 → step_short p) → ill ▸ readable xs ks ⇒ ask s p ≡ accepted c log → Taken s p c log
  listed xs ks p fits h =
      let k : ill ▸ readable xs ks ≡ ok = given-ok c log (ill ▸ readable xs ks) (ask s p) h in
      record {
        well = well_of (then_left ill (readable xs ks) k);
        short = fits (read_short xs ks (then_right ill (readable xs ks) k));
        step = given_then c log (ill ▸ readable xs ks) (ask s p) h;
      }

  pub simple-taken : (xs ks : List ℕ) → simple s xs ks ≡ accepted c log → Taken s (simple_step (list_of xs ks)) c log
  unfolding simple ask
  simple-taken xs ks = listed xs ks (simple_step (list_of xs ks)) (λ k. k)

  pub enter-taken : (auto : Bool) (xs ks : List ℕ) → enter_joint s auto xs ks ≡ accepted c log → Taken s (enter_step auto (list_of xs ks)) c log
  unfolding enter_joint ask
  enter-taken auto xs ks = listed xs ks (enter_step auto (list_of xs ks)) (λ k. k)

  pub leave-taken : leave_joint s ≡ accepted c log → Taken s leave_step c log
  unfolding leave_joint ask
  leave-taken h = record { well = well_of (given-ok c log ill (leave_of s) h); short = tt; step = given_then c log ill (leave_of s) h }

-- ** From s to t by the accepted steps ds

-- what holds besides of a state that calls lead to from the fresh one: there is a voter or nothing
abbrev pub Reached : State → Type 0
Reached s = is_empty s.conf.incoming ≡ true → s.conf ≡ no_conf

pub record Leads (s t : State) (ds : List Deed) : Type 0 where
  pub ordered : Ordered t
  pub inflight : t.max_inflight ≡ s.max_inflight
  pub boxes : (x : ℕ) → box_of t x ≡ replay (events s.max_inflight x ds) (box_of s x)
  pub reached : Reached s → Reached t
  pub shares : EachStepShares s ds
  pub end : after_deeds s ds ≡ t

leads_none : (s : State) → Ordered s → Leads s s []
unfolding replay events EachStepShares after_deeds
leads_none s o = record { ordered = o; inflight = refl; boxes = λ x. refl; reached = λ r. r; shares = tt; end = refl }

shares_more : (s : State) (ds es : List Deed) → EachStepShares s ds → EachStepShares (after_deeds s ds) es → EachStepShares s (ds ++ es)
unfolding EachStepShares after_deeds
shares_more s [] es a b = b
shares_more s (d ∷ ds) es a b = (a.0, shares_more (attempt d.next s d.step).state ds es a.1 b)

after_more : (s : State) (ds es : List Deed) → after_deeds s (ds ++ es) ≡ after_deeds (after_deeds s ds) es
unfolding after_deeds
after_more s [] es = refl
after_more s (d ∷ ds) es = after_more (attempt d.next s d.step).state ds es

leads_more : (s t u : State) (ds es : List Deed) → Leads s t ds → Leads t u es → Leads s u (ds ++ es)
leads_more s t u ds es a b =
    record {
      ordered = b.ordered;
      inflight = b.inflight ∙ a.inflight;
      boxes = λ x. b.boxes x ∙ rw (a.inflight, a.boxes x) (sym (ap (λ (l : List Event). replay l (box_of s x)) (events_append s.max_inflight x ds es) ∙ replay_append (events s.max_inflight x ds) (events s.max_inflight x es) (box_of s x)));
      reached = λ r. b.reached (a.reached r);
      shares = shares_more s ds es a.shares (rw a.end b.shares);
      end = after_more s ds es ∙ ap (λ (v : State). after_deeds v es) a.end ∙ b.end;
    }

-- one accepted step
module _ (s : State) (o : Ordered s) (n : ℕ) (p : Step) (h : step_short p) (c : Conf) (log : List Entry) (e : ask s p ≡ accepted c log) where
  stepped : Stepped s (fresh_record n s.max_inflight) p c log
  stepped = asked s o (fresh_record n s.max_inflight) p h c log e

  attempted : attempt n s p ≡ record { verdict = ok; state = applied s c log n }
  attempted = ap (apply_answer s n) e ∙ apply-ok s o n p c log stepped

  next : Ordered (applied s c log n)
  next = apply-ordered s o n p c log stepped

  one_leads : Leads s (applied s c log n) (record { step = p; next = n } ∷ [])
  unfolding events EachStepShares after_deeds
  one_leads =
      record {
        ordered = next;
        inflight = refl;
        boxes = λ x. stepped.boxes x ∙ rw append-nil (sym (replay-step (fresh_record n s.max_inflight) x p (box_of s x)));
        reached = stepped.voters;
        shares = (record { taken = rw attempted; before = in_order_lem s o; after = rw attempted (in_order_lem (applied s c log n) next); neighbours = rw attempted stepped.neighbours }, tt);
        end = ap (λ (o : Outcome). o.state) attempted;
      }

  leads_step : (u : State) (ds : List Deed) → (Ordered (applied s c log n) → Leads (applied s c log n) u ds) → Leads s u (record { step = p; next = n } ∷ ds)
  leads_step u ds k = leads_more s (applied s c log n) u (record { step = p; next = n } ∷ []) ds one_leads (k one_leads.ordered)

run_leads : (n : ℕ) (ps : List Step) → all_short ps → (s : State) → Ordered s → Leads s (run n s ps).state (deeds_of_run n s ps)
unfolding run deeds_of_run
run_leads n [] h s o = leads_none s o
run_leads n (p ∷ ps) h s o = go (ask s p) refl (run_leads n ps h.1)
  where
    go : (a : Answer) → ask s p ≡ a → ((t : State) → Ordered t → Leads t (run n t ps).state (deeds_of_run n t ps))
        → Leads s (go_on (apply_answer s n a) (λ t. run n t ps)).state
        (if_ok (apply_answer s n a).verdict (record { step = p; next = n } ∷ deeds_of_run n (apply_answer s n a).state ps))
    go (accepted c log) e ih =
        rw (apply-ok s o n p c log (stepped s o n p h.0 c log e))
        (leads_step s o n p h.0 c log e (run n (applied s c log n) ps).state (deeds_of_run n (applied s c log n) ps) (ih (applied s c log n)))
    go (refused m x) e ih = leads_none s o

answer_leads : (s : State) → Ordered s → (n : ℕ) (p : Step) (a : Answer) → ((c : Conf) (log : List Entry) → a ≡ accepted c log → Taken s p c log)
    → Leads s (apply_answer s n a).state (if_ok (apply_answer s n a).verdict (record { step = p; next = n } ∷ []))
answer_leads s o n p (accepted c log) h =
    let k : Taken s p c log = h c log refl in
    rw (apply-ok s o n p c log (stepped s o n p k.short c log k.step)) (one_leads s o n p k.short c log k.step)
answer_leads s o n p (refused m x) h = leads_none s o

-- a restore, step by step
steps_lead : (s : State) → Ordered s → (cs : ConfState) (n : ℕ) → Leads s (restore_step_by_step s cs n).state (if_ok (restorable s cs) (deeds_of_run n s (restore_steps cs)))
unfolding restore_step_by_step
steps_lead s o cs n = go (restorable s cs) refl
  where
    go : (v : Verdict) → restorable s cs ≡ v → Leads s (guarded v s (run n s (restore_steps cs))).state (if_ok v (deeds_of_run n s (restore_steps cs)))
    go ok e = run_leads n (restore_steps cs) (restore-short s cs e) s o
    go (fault m x) e = leads_none s o

pub call_leads : (s : State) → Ordered s → (c : Call) → Leads s (perform s c).state (deeds_of s c)
unfolding perform deeds_of restore
call_leads s o (simple_call xs ks n) = answer_leads s o n (simple_step (list_of xs ks)) (simple s xs ks) (λ c log. simple-taken s c log xs ks)
call_leads s o (enter_call auto xs ks n) = answer_leads s o n (enter_step auto (list_of xs ks)) (enter_joint s auto xs ks) (λ c log. enter-taken s c log auto xs ks)
call_leads s o (leave_call n) = answer_leads s o n leave_step (leave_joint s) (λ c log. leave-taken s c log)
call_leads s o (restore_call cs n) = go (restore_step_by_step s cs n).verdict refl
  where
    go : (v : Verdict) → (restore_step_by_step s cs n).verdict ≡ v
        → Leads s (settle v s (restore_step_by_step s cs n).state).state (if_ok (settle v s (restore_step_by_step s cs n).state).verdict (in_turn n (restore_steps cs)))
    go ok e = subst (Leads s (restore_step_by_step s cs n).state) (steps-counted s cs n e) (steps_lead s o cs n)
    go (fault m x) e = leads_none s o
call_leads s o (step_by_step_call cs n) = steps_lead s o cs n

pub calls_lead : (cs : List Call) (s : State) → Ordered s → Leads s (after_calls s cs) (deeds s cs)
unfolding after_calls deeds
calls_lead [] s o = leads_none s o
calls_lead (c ∷ cs) s o =
    let l : Leads s (perform s c).state (deeds_of s c) = call_leads s o c in
    leads_more s (perform s c).state (after_calls (perform s c).state cs) (deeds_of s c) (deeds (perform s c).state cs) l (calls_lead cs (perform s c).state l.ordered)

-- ** Demand 3

pub demand_3 : (s : State) → in_order s ≡ true → (cs : List Call) → Kept s cs
demand_3 s h cs =
    let l : Leads s (after_calls s cs) (deeds s cs) = calls_lead cs s (ordered_of s h) in
    record {
      ordered = in_order_lem (after_calls s cs) l.ordered;
      tracked = tracked-members (after_calls s cs) l.ordered;
      standing = l.ordered.sound.stands;
      boxes = l.boxes;
    }

-- ** Document 02, i)

pub sequence_shares : (s : State) → in_order s ≡ true → (cs : List Call) → SequenceShares s cs
sequence_shares s h cs =
    let l : Leads s (after_calls s cs) (deeds s cs) = calls_lead cs s (ordered_of s h) in
    record { steps = l.shares; end = l.end }

-- an accepted call, of any state
taken_shares : (s : State) (p : Step) (c : Conf) (log : List Entry) → Taken s p c log → Neighbours s.conf c
taken_shares s p c log k = (asked-checked s (asked-from s k.well p c log k.step) (fresh_record 0 0) p k.short c log k.step).neighbours

pub calls_share : (s : State) → CallsShare s
calls_share s =
    record {
      simple = λ xs ks c log e. taken_shares s (simple_step (list_of xs ks)) c log (simple-taken s c log xs ks e);
      enter = λ auto xs ks c log e. taken_shares s (enter_step auto (list_of xs ks)) c log (enter-taken s c log auto xs ks e);
      leave = λ c log e. taken_shares s leave_step c log (leave-taken s c log e);
    }

-- ** Other boxes

-- in a list, changes that name other boxes are no event of this one
pub others_alter_nothing : (r : Progress) (x : ℕ) (cs ds : List Change) (c : Change) → eqb c.id x ≡ false → naming r x (cs ++ (c ∷ ds)) ≡ naming r x (cs ++ ds)
unfolding naming
others_alter_nothing r x [] ds c e = rw e
others_alter_nothing r x (d ∷ cs) ds c e =
    ap (λ (l : List Event). cond (eqb d.id x && not (eqb x 0)) (named d.kind r ∷ l) l) (others_alter_nothing r x cs ds c e)
