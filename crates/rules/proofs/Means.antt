-- What it means that a call is accepted: the tests that it passed, and the work that it did. Assumes nothing.
use Prim.Native.Nat.{ℕ}
use mathlib.Core.Path.{◌≡◌, refl, ◌∙◌}
use mathlib.Core.Bool.{Bool, true, false, not}
use mathlib.Core.List.{List}
use native.Mathlib.Omega.{arith}
use borrow.Author.Tests.{not-false}
use lib.Dec.{leb}
use Rattle.rules.specs.Ids.{is_empty}
use Rattle.rules.specs.State.{Conf, State, ids, Change, Entry}
use Rattle.rules.specs.Answers.{Verdict, ok, fault, Answer, accepted, refuse, ◌▸◌, ◌⇒◌}
use Rattle.rules.specs.Check.{joint, check, is_tracked}
use Rattle.rules.specs.Changes.{pending_tracked, Work, Done, done, full, changes}
use Rattle.rules.specs.Calls.{start, afterwards, difference, simple_of, entering, with_auto, enter_of, leaving, gone, removals, leave_of}
use Rattle.rules.specs.Restore.{Step, simple_step, enter_step, leave_step, ask}
use Rattle.rules.proofs.Sets.{memb-all}
use Rattle.rules.proofs.Check.{Apart, then_left, then_right, passes_of, refuse-ok, single-apart}

-- ** Reading an accepted answer

module _ (c : Conf) (log : List Entry) where
  pub given-ok : (v : Verdict) (a : Answer) → v ⇒ a ≡ accepted c log → v ≡ ok
  given-ok ok a h = refl
  given-ok (fault n x) a h = absurd (let z : ◌≡◌ {A = ℕ} 0 1 = cc in omega arith)

  pub given_then : (v : Verdict) (a : Answer) → v ⇒ a ≡ accepted c log → a ≡ accepted c log
  given_then ok a h = h
  given_then (fault n x) a h = absurd (let z : ◌≡◌ {A = ℕ} 0 1 = cc in omega arith)

  worked : (d : Done) (k : Work → Answer) → afterwards d k ≡ accepted c log → (w : Work) × (d ≡ done w) × (k w ≡ accepted c log)
  worked (done w) k h = (w, refl, h)
  worked (full x) k h = absurd (let z : ◌≡◌ {A = ℕ} 0 1 = cc in omega arith)

-- ** The three calls

-- simple, on the list cs
pub record Simple (s : State) (cs : List Change) (c : Conf) (log : List Entry) : Type 0 where
  pub single : joint s.conf ≡ false
  pub checked : check (is_tracked s) s.conf ≡ ok
  pub work : Work
  pub does : changes (ids s.peers) cs (start s.conf) ≡ done work
  pub voter : is_empty work.conf.incoming ≡ false
  pub near : leb 2 (difference work.conf.incoming s.conf.incoming) ≡ false
  pub again : check (pending_tracked (ids s.peers) work.log) work.conf ≡ ok
  pub conf : work.conf ≡ c
  pub logs : work.log ≡ log

-- enter_joint, with the flag
pub record Enter (s : State) (auto : Bool) (cs : List Change) (c : Conf) (log : List Entry) : Type 0 where
  pub single : joint s.conf ≡ false
  pub checked : check (is_tracked s) s.conf ≡ ok
  pub before : is_empty s.conf.incoming ≡ false
  pub work : Work
  pub does : changes (ids s.peers) cs (start (entering s.conf)) ≡ done work
  pub voter : is_empty work.conf.incoming ≡ false
  pub again : check (pending_tracked (ids s.peers) work.log) (with_auto auto work.conf) ≡ ok
  pub conf : with_auto auto work.conf ≡ c
  pub logs : work.log ≡ log

pub record Leave (s : State) (c : Conf) (log : List Entry) : Type 0 where
  pub jointly : joint s.conf ≡ true
  pub checked : check (is_tracked s) s.conf ≡ ok
  pub again : check (pending_tracked (ids s.peers) (removals (gone s.conf))) (leaving s.conf) ≡ ok
  pub conf : leaving s.conf ≡ c
  pub logs : removals (gone s.conf) ≡ log

module _ (s : State) (c : Conf) (log : List Entry) where
  abbrev passed : Verdict
  passed = check (is_tracked s) s.conf

  pub simple_means : (cs : List Change) → simple_of s cs ≡ accepted c log → Simple s cs c log
  unfolding simple_of
  simple_means cs h = go (worked c log (changes (ids s.peers) cs (start s.conf)) rest (given_then c log pre (afterwards (changes (ids s.peers) cs (start s.conf)) rest) h))
    where
      pre : Verdict
      pre = refuse (joint s.conf) 6 0 ▸ passed

      near : Work → Verdict
      near w = refuse (leb 2 (difference w.conf.incoming s.conf.incoming)) 18 0

      again : Work → Verdict
      again w = check (pending_tracked (ids s.peers) w.log) w.conf

      tests : Work → Verdict
      tests w = refuse (is_empty w.conf.incoming) 17 0 ▸ near w ▸ again w

      rest : Work → Answer
      rest w = tests w ⇒ accepted w.conf w.log

      pre_ok : pre ≡ ok
      pre_ok = given-ok c log pre (afterwards (changes (ids s.peers) cs (start s.conf)) rest) h

      go : (w : Work) × (changes (ids s.peers) cs (start s.conf) ≡ done w) × (rest w ≡ accepted c log) → Simple s cs c log
      go t =
          let w : Work = t.0 in
          let e : accepted w.conf w.log ≡ accepted c log = given_then c log (tests w) (accepted w.conf w.log) t.2 in
          let k : tests w ≡ ok = given-ok c log (tests w) (accepted w.conf w.log) t.2 in
          let k2 : near w ▸ again w ≡ ok = then_right (refuse (is_empty w.conf.incoming) 17 0) (near w ▸ again w) k in
          record {
            single = refuse-ok (joint s.conf) 6 0 (then_left (refuse (joint s.conf) 6 0) passed pre_ok);
            checked = then_right (refuse (joint s.conf) 6 0) passed pre_ok;
            work = w;
            does = t.1;
            voter = refuse-ok (is_empty w.conf.incoming) 17 0 (then_left (refuse (is_empty w.conf.incoming) 17 0) (near w ▸ again w) k);
            near = refuse-ok (leb 2 (difference w.conf.incoming s.conf.incoming)) 18 0 (then_left (near w) (again w) k2);
            again = then_right (near w) (again w) k2;
            conf = cc;
            logs = cc;
          }

  pub enter_means : (auto : Bool) (cs : List Change) → enter_of s auto cs ≡ accepted c log → Enter s auto cs c log
  unfolding enter_of
  enter_means auto cs h = go (worked c log (changes (ids s.peers) cs (start (entering s.conf))) rest (given_then c log pre (afterwards (changes (ids s.peers) cs (start (entering s.conf))) rest) h))
    where
      voters : Verdict
      voters = refuse (is_empty s.conf.incoming) 15 0

      pre : Verdict
      pre = refuse (joint s.conf) 4 0 ▸ passed ▸ voters

      again : Work → Verdict
      again w = check (pending_tracked (ids s.peers) w.log) (with_auto auto w.conf)

      tests : Work → Verdict
      tests w = refuse (is_empty w.conf.incoming) 17 0 ▸ again w

      rest : Work → Answer
      rest w = tests w ⇒ accepted (with_auto auto w.conf) w.log

      pre_ok : pre ≡ ok
      pre_ok = given-ok c log pre (afterwards (changes (ids s.peers) cs (start (entering s.conf))) rest) h

      pre2 : passed ▸ voters ≡ ok
      pre2 = then_right (refuse (joint s.conf) 4 0) (passed ▸ voters) pre_ok

      go : (w : Work) × (changes (ids s.peers) cs (start (entering s.conf)) ≡ done w) × (rest w ≡ accepted c log) → Enter s auto cs c log
      go t =
          let w : Work = t.0 in
          let e : accepted (with_auto auto w.conf) w.log ≡ accepted c log = given_then c log (tests w) (accepted (with_auto auto w.conf) w.log) t.2 in
          let k : tests w ≡ ok = given-ok c log (tests w) (accepted (with_auto auto w.conf) w.log) t.2 in
          record {
            single = refuse-ok (joint s.conf) 4 0 (then_left (refuse (joint s.conf) 4 0) (passed ▸ voters) pre_ok);
            checked = then_left passed voters pre2;
            before = refuse-ok (is_empty s.conf.incoming) 15 0 (then_right passed voters pre2);
            work = w;
            does = t.1;
            voter = refuse-ok (is_empty w.conf.incoming) 17 0 (then_left (refuse (is_empty w.conf.incoming) 17 0) (again w) k);
            again = then_right (refuse (is_empty w.conf.incoming) 17 0) (again w) k;
            conf = cc;
            logs = cc;
          }

  pub leave_means : leave_of s ≡ accepted c log → Leave s c log
  unfolding leave_of
  leave_means h =
      let e : accepted (leaving s.conf) (removals (gone s.conf)) ≡ accepted c log = given_then c log pre (accepted (leaving s.conf) (removals (gone s.conf))) h in
      let k : pre ≡ ok = given-ok c log pre (accepted (leaving s.conf) (removals (gone s.conf))) h in
      let k2 : passed ▸ second ≡ ok = then_right (refuse (not (joint s.conf)) 5 0) (passed ▸ second) k in
      record {
        jointly = not-false (joint s.conf) (refuse-ok (not (joint s.conf)) 5 0 (then_left (refuse (not (joint s.conf)) 5 0) (passed ▸ second) k));
        checked = then_left passed second k2;
        again = then_right passed second k2;
        conf = cc;
        logs = cc;
      }
    where
      second : Verdict
      second = check (pending_tracked (ids s.peers) (removals (gone s.conf))) (leaving s.conf)

      pre : Verdict
      pre = refuse (not (joint s.conf)) 5 0 ▸ passed ▸ second

-- the state of an accepted call passed the check
pub asked-passes : (s : State) (p : Step) (c : Conf) (log : List Entry) → ask s p ≡ accepted c log → check (is_tracked s) s.conf ≡ ok
unfolding ask
asked-passes s (simple_step cs) c log h = (simple_means s c log cs h).checked
asked-passes s (enter_step auto cs) c log h = (enter_means s c log auto cs h).checked
asked-passes s leave_step c log h = (leave_means s c log h).checked

-- and no staged id of it is an incoming voter: there are none, or they would now be learners
pub asked-apart : (s : State) (p : Step) (c : Conf) (log : List Entry) → ask s p ≡ accepted c log → Apart s.conf
unfolding ask
asked-apart s (simple_step cs) c log h =
    let m : Simple s cs c log = simple_means s c log cs h in
    single-apart (is_tracked s) s.conf (passes_of (is_tracked s) s.conf m.checked) m.single
asked-apart s (enter_step auto cs) c log h =
    let m : Enter s auto cs c log = enter_means s c log auto cs h in
    single-apart (is_tracked s) s.conf (passes_of (is_tracked s) s.conf m.checked) m.single
asked-apart s leave_step c log h =
    λ x m. (passes_of (pending_tracked (ids s.peers) (removals (gone s.conf))) (leaving s.conf) (leave_means s c log h).again).learner-not-incoming x
    (memb-all x s.conf.staged s.conf.learners ∙ rw m)
