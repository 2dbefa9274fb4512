-- What the rules answer of a state and a list whose numbers are below 2 ^ 64: verdicts, configurations, logs and states with such numbers too.
-- Assumes nothing.
use Prim.Native.Nat.{ℕ}
use mathlib.Core.Bool.{Bool, true, false, ◌&&◌, ◌||◌, not, cond}
use mathlib.Core.List.{List, [], ◌∷◌}
use native.Mathlib.Omega.{arith}
use lib.Dec.{eqb, ltb, leb}
use lib.ListN.{length}
use Rattle.progress.specs.declared.Progress.{Progress}
use Rattle.progress.specs.Record.{fresh_record}
use Rattle.rules.specs.Ids.{insert_all, insert_id, is_empty, memb, minus, remove_id}
use Rattle.rules.specs.State.{Change, Conf, ConfState, Entry, Kind, Peer, State, add, add_learner, add_node, conf_formed, formed, ids, log_formed, remove, remove_node}
use Rattle.rules.specs.Answers.{Answer, Outcome, Verdict, ◌⇒◌, ◌▸◌, accepted, each, fault, ok, refuse, refused, settle}
use Rattle.rules.specs.Check.{check, check_state, is_tracked, joint}
use Rattle.rules.specs.Table.{Effect, Standing, adds, place, places_of, put, removes, stays, table}
use Rattle.rules.specs.Changes.{Done, Work, and_then, change, changes, done, full, logged, pending, pending_tracked, standing_now}
use Rattle.rules.specs.Calls.{afterwards, difference, enter_joint, enter_of, gone, leave_joint, leave_of, leaving, list_of, readable, removals, simple, simple_of, with_auto}
use Rattle.rules.specs.Apply.{apply_conf, enrol, room, track, untrack}
use Rattle.rules.specs.Restore.{Step, all, apply_answer, ask, attempt, enter_step, go_on, guarded, leave_step, one_by_one, restorable, restore, restore_step_by_step, restore_steps, run, short, simple_step, wanted}
use Rattle.calls.proofs.Typed.{U64, Each, none, more, each_append, TypedRecord}

-- what holds of both branches holds of the one taken
pub either : {A : Type 0} (Q : A → Type 0) (b : Bool) {x y : A} → Q x → Q y → Q (cond b x y)
either Q true p q = p
either Q false p q = q

-- ** Ids

insert_u64 : {x : ℕ} {ys : List ℕ} → U64 x → Each U64 ys → Each U64 (insert_id x ys)
unfolding insert_id
insert_u64 h none = more h none
insert_u64 {x} {ys = y ∷ ys} h (more k ks) = either (Each U64) (ltb y x) (more k (insert_u64 h ks)) (either (Each U64) (eqb y x) (more k ks) (more h (more k ks)))

all_u64 : {xs ys : List ℕ} → Each U64 xs → Each U64 ys → Each U64 (insert_all xs ys)
unfolding insert_all
all_u64 none q = q
all_u64 (more h p) q = insert_u64 h (all_u64 p q)

remove_u64 : (x : ℕ) {ys : List ℕ} → Each U64 ys → Each U64 (remove_id x ys)
unfolding remove_id
remove_u64 x none = none
remove_u64 x {ys = y ∷ ys} (more k ks) = either (Each U64) (eqb y x) ks (more k (remove_u64 x ks))

minus_u64 : {xs : List ℕ} (ys : List ℕ) → Each U64 xs → Each U64 (minus xs ys)
unfolding minus
minus_u64 ys none = none
minus_u64 {xs = x ∷ xs} ys (more h p) = either (Each U64) (memb x ys) (minus_u64 ys p) (more h (minus_u64 ys p))

pub record U64Conf (c : Conf) : Type 0 where
  pub incoming : Each U64 c.incoming
  pub outgoing : Each U64 c.outgoing
  pub learners : Each U64 c.learners
  pub staged : Each U64 c.staged

-- ** Verdicts

-- number and id
pub data Said : Verdict → Type 0 where
  passed : Said ok
  faulted : {n x : ℕ} → U64 n → U64 x → Said (fault n x)

refuse-said : (b : Bool) (n x : ℕ) → U64 n → U64 x → Said (refuse b n x)
refuse-said true n x h k = faulted h k
refuse-said false n x h k = passed

then_said : {u v : Verdict} → Said u → Said v → Said (u ▸ v)
then_said passed q = q
then_said (faulted h k) q = faulted h k

each-said : (f : ℕ → Verdict) {xs : List ℕ} → ((x : ℕ) → U64 x → Said (f x)) → Each U64 xs → Said (each f xs)
unfolding each
each-said f g none = passed
each-said f g (more h p) = then_said (g _ h) (each-said f g p)

check-said : (t : ℕ → Bool) {c : Conf} → U64Conf c → Said (check t c)
unfolding check
check-said t {c} z =
    then_said (each-said _ (λ x h. refuse-said (not (t x)) 7 x (omega arith) h) (all_u64 z.incoming z.outgoing))
    (then_said
    (each-said _ (λ x h. then_said (refuse-said (not (t x)) 8 x (omega arith) h)
    (then_said (refuse-said (memb x c.outgoing) 9 x (omega arith) h) (refuse-said (memb x c.incoming) 10 x (omega arith) h))) z.learners)
    (then_said
    (each-said _ (λ x h. then_said (refuse-said (not (t x)) 11 x (omega arith) h) (refuse-said (not (memb x c.outgoing)) 12 x (omega arith) h)) z.staged)
    (then_said (refuse-said (not (joint c) && not (is_empty c.staged)) 13 0 (omega arith) (omega arith)) (refuse-said (not (joint c) && c.auto_leave) 14 0 (omega arith) (omega arith)))))

-- ** Changes

pub data U64Entry : Entry → Type 0 where
  adding : {x : ℕ} → U64 x → U64Entry (add x)
  removing : {x : ℕ} → U64 x → U64Entry (remove x)

record U64Change (c : Change) : Type 0 where
  id : U64 c.id

record U64Work (w : Work) : Type 0 where
  conf : U64Conf w.conf
  log : Each U64Entry w.log

-- what a list of changes comes to
data Carried : Done → Type 0 where
  carried : {w : Work} → U64Work w → Carried (done w)
  stopped : {x : ℕ} → U64 x → Carried (full x)

put_u64 : (b : Bool) {x : ℕ} {xs : List ℕ} → U64 x → Each U64 xs → Each U64 (put b x xs)
put_u64 true h p = insert_u64 h p
put_u64 false {x} h p = remove_u64 x p

place_u64 : (st : Standing) {x : ℕ} {c : Conf} → U64 x → U64Conf c → U64Conf (place x st c)
place_u64 st h z =
    record {
      incoming = put_u64 (places_of st).incoming h z.incoming;
      outgoing = z.outgoing;
      learners = put_u64 (places_of st).learner h z.learners;
      staged = put_u64 (places_of st).staged h z.staged;
    }

logged_u64 : (e : Effect) (base : List ℕ) {x : ℕ} {c : Conf} {log : List Entry} → U64 x → U64Conf c → Each U64Entry log → Carried (logged e base x c log)
logged_u64 stays base h z l = carried (record { conf = z; log = l })
logged_u64 adds base {log = log} h z l = either Carried (leb 64 (length (pending log base))) (stopped h) (carried (record { conf = z; log = each_append l (more (adding h) none) }))
logged_u64 removes base h z l = carried (record { conf = z; log = each_append l (more (removing h) none) })

change_u64 : (base : List ℕ) {c : Change} {w : Work} → U64Change c → U64Work w → Carried (change base c w)
unfolding change
change_u64 base {c} {w} h z =
    let to : Standing × Effect = table (standing_now base w c.id) c.kind in
    either Carried (eqb c.id 0) (carried z) (logged_u64 to.1 base h.id (place_u64 to.0 h.id z.conf) z.log)

on_u64 : {d : Done} {k : Work → Done} → Carried d → ((w : Work) → U64Work w → Carried (k w)) → Carried (and_then d k)
on_u64 (carried z) f = f _ z
on_u64 (stopped h) f = stopped h

changes_u64 : (base : List ℕ) {cs : List Change} {w : Work} → Each U64Change cs → U64Work w → Carried (changes base cs w)
unfolding changes
changes_u64 base none z = carried z
changes_u64 base (more h hs) z = on_u64 (change_u64 base h z) (λ v y. changes_u64 base hs y)

-- ** Answers

pub data Answered : Answer → Type 0 where
  answered : {c : Conf} {log : List Entry} → U64Conf c → Each U64Entry log → Answered (accepted c log)
  declined : {n x : ℕ} → U64 n → U64 x → Answered (refused n x)

given_u64 : {v : Verdict} {a : Answer} → Said v → Answered a → Answered (v ⇒ a)
given_u64 passed q = q
given_u64 (faulted h k) q = declined h k

after_u64 : {d : Done} {k : Work → Answer} → Carried d → ((w : Work) → U64Work w → Answered (k w)) → Answered (afterwards d k)
after_u64 (carried z) f = f _ z
after_u64 (stopped h) f = declined {n = 16} (omega arith) h

removals_u64 : {xs : List ℕ} → Each U64 xs → Each U64Entry (removals xs)
unfolding removals
removals_u64 none = none
removals_u64 (more h p) = more (removing h) (removals_u64 p)

data U64Step : Step → Type 0 where
  by_simple : {cs : List Change} → Each U64Change cs → U64Step (simple_step cs)
  by_enter : {a : Bool} {cs : List Change} → Each U64Change cs → U64Step (enter_step a cs)
  by_leave : U64Step leave_step

asked_u64 : (s : State) {p : Step} → U64Conf s.conf → U64Step p → Answered (ask s p)
unfolding ask simple_of enter_of leave_of
asked_u64 s z (by_simple hs) =
    given_u64 (then_said (refuse-said (joint s.conf) 6 0 (omega arith) (omega arith)) (check-said (is_tracked s) z))
    (after_u64 (changes_u64 (ids s.peers) hs (record { conf = z; log = none })) (λ w y.
    given_u64
    (then_said (refuse-said (is_empty w.conf.incoming) 17 0 (omega arith) (omega arith))
    (then_said (refuse-said (leb 2 (difference w.conf.incoming s.conf.incoming)) 18 0 (omega arith) (omega arith))
    (check-said (pending_tracked (ids s.peers) w.log) y.conf)))
    (answered y.conf y.log)))
asked_u64 s z (by_enter {a} hs) =
    given_u64
    (then_said (refuse-said (joint s.conf) 4 0 (omega arith) (omega arith))
    (then_said (check-said (is_tracked s) z) (refuse-said (is_empty s.conf.incoming) 15 0 (omega arith) (omega arith))))
    (after_u64 (changes_u64 (ids s.peers) hs (record { conf = record { incoming = z.incoming; outgoing = z.incoming; learners = z.learners; staged = z.staged }; log = none })) (λ w y.
    let v : U64Conf (with_auto a w.conf) = record { incoming = y.conf.incoming; outgoing = y.conf.outgoing; learners = y.conf.learners; staged = y.conf.staged } in
    given_u64
    (then_said (refuse-said (is_empty w.conf.incoming) 17 0 (omega arith) (omega arith)) (check-said (pending_tracked (ids s.peers) w.log) v))
    (answered v y.log)))
asked_u64 s z by_leave =
    let v : U64Conf (leaving s.conf) = record { incoming = z.incoming; outgoing = none; learners = all_u64 z.staged z.learners; staged = none } in
    given_u64
    (then_said (refuse-said (not (joint s.conf)) 5 0 (omega arith) (omega arith))
    (then_said (check-said (is_tracked s) z) (check-said (pending_tracked (ids s.peers) (removals (gone s.conf))) v)))
    (answered v (removals_u64 (minus_u64 (leaving s.conf).learners (minus_u64 s.conf.incoming z.outgoing))))

-- ** The calls

list_u64 : {xs : List ℕ} (ks : List ℕ) → Each U64 xs → Each U64Change (list_of xs ks)
unfolding list_of
list_u64 ks none = none
list_u64 [] (more h p) = none
list_u64 (k ∷ ks) (more h p) = more (record { id = h }) (list_u64 ks p)

kinds-said : (ks : List ℕ) → Said (each (λ k. refuse (ltb 2 k) 3 0) ks)
unfolding each
kinds-said [] = passed
kinds-said (k ∷ ks) = then_said (refuse-said (ltb 2 k) 3 0 (omega arith) (omega arith)) (kinds-said ks)

readable-said : (xs ks : List ℕ) → Said (readable xs ks)
unfolding readable
readable-said xs ks = then_said (refuse-said (not (eqb (length xs) (length ks)) || ltb 256 (length xs)) 2 0 (omega arith) (omega arith)) (kinds-said ks)

module _ (s : State) (z : U64Conf s.conf) where
  ill_said : Said (refuse (not (formed s)) 1 0)
  ill_said = refuse-said (not (formed s)) 1 0 (omega arith) (omega arith)

  pub checked-said : Said (check_state s)
  unfolding check_state
  checked-said = then_said ill_said (check-said (is_tracked s) z)

  pub simple_u64 : {xs : List ℕ} (ks : List ℕ) → Each U64 xs → Answered (simple s xs ks)
  unfolding simple ask
  simple_u64 {xs} ks p = given_u64 (then_said ill_said (readable-said xs ks)) (asked_u64 s z (by_simple (list_u64 ks p)))

  pub enter_u64 : (auto : Bool) {xs : List ℕ} (ks : List ℕ) → Each U64 xs → Answered (enter_joint s auto xs ks)
  unfolding enter_joint ask
  enter_u64 auto {xs} ks p = given_u64 (then_said ill_said (readable-said xs ks)) (asked_u64 s z (by_enter (list_u64 ks p)))

  pub leave_u64 : Answered (leave_joint s)
  unfolding leave_joint ask
  leave_u64 = given_u64 ill_said (asked_u64 s z by_leave)

-- ** States

pub record U64Peer (p : Peer) : Type 0 where
  pub id : U64 p.id
  pub progress : TypedRecord p.progress

pub record U64State (s : State) : Type 0 where
  pub conf : U64Conf s.conf
  pub peers : Each U64Peer s.peers
  pub max_inflight : U64 s.max_inflight

pub record U64Outcome (o : Outcome) : Type 0 where
  pub verdict : Said o.verdict
  pub state : U64State o.state

track_u64 : {x : ℕ} {r : Progress} {ps : List Peer} → U64 x → TypedRecord r → Each U64Peer ps → Each U64Peer (track x r ps)
unfolding track
track_u64 h z none = more (record { id = h; progress = z }) none
track_u64 {x} {ps = p ∷ ps} h z (more k ks) =
    either (Each U64Peer) (ltb p.id x) (more k (track_u64 h z ks))
    (either (Each U64Peer) (eqb p.id x) (more (record { id = h; progress = z }) ks) (more (record { id = h; progress = z }) (more k ks)))

untrack_u64 : (x : ℕ) {ps : List Peer} → Each U64Peer ps → Each U64Peer (untrack x ps)
unfolding untrack
untrack_u64 x none = none
untrack_u64 x {ps = p ∷ ps} (more k ks) = either (Each U64Peer) (eqb p.id x) ks (more k (untrack_u64 x ks))

enrol_u64 : {r : Progress} {log : List Entry} {ps : List Peer} → TypedRecord r → Each U64Entry log → Each U64Peer ps → Each U64Peer (enrol r log ps)
unfolding enrol
enrol_u64 z none q = q
enrol_u64 z (more (adding h) l) q = enrol_u64 z l (track_u64 h z q)
enrol_u64 z (more (removing h) l) q = enrol_u64 z l (untrack_u64 _ q)

room-said : {log : List Entry} (base : List ℕ) → Each U64Entry log → Said (room log base)
unfolding room
room-said base none = passed
room-said base (more (adding {x} h) l) = then_said (refuse-said (not (memb x base) && leb 64 (length base)) 16 x (omega arith) h) (room-said (insert_id x base) l)
room-said base (more (removing {x} h) l) = room-said (remove_id x base) l

fresh_typed : {next inflight : ℕ} → U64 next → U64 inflight → TypedRecord (fresh_record next inflight)
fresh_typed h k =
    record {
      matched = omega arith;
      next_idx = h;
      pending_snapshot = omega arith;
      pending_request_snapshot = omega arith;
      max_inflight = k;
      commit_group_id = omega arith;
      committed_index = omega arith;
    }

settle_u64 : {v : Verdict} {s t : State} → Said v → U64State s → U64State t → U64Outcome (settle v s t)
settle_u64 passed z y = record { verdict = passed; state = y }
settle_u64 (faulted h k) z y = record { verdict = faulted h k; state = z }

module _ {next : ℕ} (n : U64 next) where
  pub applied_u64 : {s : State} {c : Conf} {log : List Entry} → U64State s → U64Conf c → Each U64Entry log → U64Outcome (apply_conf s c log next)
  unfolding apply_conf
  applied_u64 {s} {c} {log} z y l =
      settle_u64 (then_said (refuse-said (not (formed s) || not (conf_formed c) || not (log_formed log)) 1 0 (omega arith) (omega arith)) (room-said (ids s.peers) l))
      z (record { conf = y; peers = enrol_u64 (fresh_typed n z.max_inflight) l z.peers; max_inflight = z.max_inflight })

  answer_u64 : {s : State} {a : Answer} → U64State s → Answered a → U64Outcome (apply_answer s next a)
  answer_u64 z (answered y l) = applied_u64 z y l
  answer_u64 z (declined h k) = record { verdict = faulted h k; state = z }

  run_u64 : {ps : List Step} → Each U64Step ps → (s : State) → U64State s → U64Outcome (run next s ps)
  unfolding run
  run_u64 none s z = record { verdict = passed; state = z }
  run_u64 {ps = p ∷ ps} (more h hs) s z =
      let o : U64Outcome (attempt next s p) = answer_u64 z (asked_u64 s z.conf h) in
      go (attempt next s p).verdict (attempt next s p).state o.verdict o.state (run_u64 hs)
    where
      go : (v : Verdict) (u : State) → Said v → U64State u → ((u : State) → U64State u → U64Outcome (run next u ps)) → U64Outcome (go_on (record { verdict = v; state = u }) (λ u. run next u ps))
      go ok u y w k = k u w
      go (fault m x) u y w k = record { verdict = y; state = w }

-- ** restore

pub record U64Lists (k : ConfState) : Type 0 where
  pub voters : Each U64 k.voters
  pub learners : Each U64 k.learners
  pub voters_outgoing : Each U64 k.voters_outgoing
  pub learners_next : Each U64 k.learners_next

every_u64 : (k : Kind) {xs : List ℕ} → Each U64 xs → Each U64Change (all k xs)
unfolding all
every_u64 k none = none
every_u64 k (more h p) = more (record { id = h }) (every_u64 k p)

one_u64 : {cs : List Change} → Each U64Change cs → Each U64Step (one_by_one cs)
unfolding one_by_one
one_u64 none = none
one_u64 (more h hs) = more (by_simple (more h none)) (one_u64 hs)

steps_u64 : {k : ConfState} → U64Lists k → Each U64Step (restore_steps k)
unfolding restore_steps
steps_u64 {k} z =
    let w : Each U64Change (wanted k) = each_append (every_u64 add_node z.voters) (each_append (every_u64 add_learner z.learners) (every_u64 add_learner z.learners_next)) in
    either (Each U64Step) (is_empty k.voters_outgoing) (one_u64 w)
    (each_append (one_u64 (every_u64 add_node z.voters_outgoing)) (more (by_enter (each_append (every_u64 remove_node z.voters_outgoing) w)) none))

guarded_u64 : {v : Verdict} {s : State} {o : Outcome} → Said v → U64State s → U64Outcome o → U64Outcome (guarded v s o)
guarded_u64 passed z q = q
guarded_u64 (faulted h k) z q = record { verdict = faulted h k; state = z }

settled_u64 : {v : Verdict} {s u : State} → Said v → U64State s → U64State u → U64Outcome (settle v s u)
settled_u64 passed z q = record { verdict = passed; state = q }
settled_u64 (faulted h k) z q = record { verdict = faulted h k; state = z }

pub steps_restored_u64 : {next : ℕ} → U64 next → {s : State} {k : ConfState} → U64State s → U64Lists k → U64Outcome (restore_step_by_step s k next)
unfolding restore_step_by_step restorable
steps_restored_u64 n {s} {k} z y =
    guarded_u64
    (then_said (refuse-said (not (formed s)) 1 0 (omega arith) (omega arith))
    (refuse-said (not (short k.voters && short k.learners && short k.voters_outgoing && short k.learners_next)) 2 0 (omega arith) (omega arith)))
    z (run_u64 n (steps_u64 y) s z)

pub restore_u64 : {next : ℕ} → U64 next → {s : State} {k : ConfState} → U64State s → U64Lists k → U64Outcome (restore s k next)
unfolding restore
restore_u64 n z y =
    let o = steps_restored_u64 n z y in
    settled_u64 o.verdict z o.state
