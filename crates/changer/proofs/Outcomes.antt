-- simple and enter_joint on structs, once the tests before have passed: what the rules answer then. Assumes nothing.
use Prim.Native.Nat.{ℕ, ◌≤◌}
use mathlib.Core.Path.{◌≡◌, refl, ap}
use mathlib.Core.Bool.{Bool, true, false, cond}
use mathlib.Core.List.{List}
use native.Mathlib.Omega.{arith}
use lib.Dec.{leb}
use lib.ListN.{length}
use Rattle.progress.specs.Record.{unused_record}
use Rattle.rules.specs.Ids.{is_empty}
use Rattle.rules.specs.State.{Conf, State, ids}
use Rattle.rules.specs.Answers.{accepted, refuse, ◌▸◌, ◌⇒◌}
use Rattle.rules.specs.Apply.{enrol, room}
use Rattle.rules.specs.Changes.{Work, changes, pending, pending_tracked}
use Rattle.rules.specs.Check.{check, joint}
use Rattle.rules.specs.Calls.{afterwards, difference, entering, list_of, start, with_auto}
use Rattle.rules.specs.Idle.{idles}
use Rattle.rules.proofs.Changes.{After}
use Rattle.rules.proofs.Demand3.{length_list}
use Rattle.rules.proofs.Formed.{Sets, of-sets}
use Rattle.rules.proofs.Steps.{Checked, enter_sound}
use Rattle.idset.specs.Places.{two_apart}
use Rattle.idset.specs.Set.{held, set_of}
use Rattle.idset.specs.declared.IdSet.{IdSet}
use Rattle.idset.proofs.Bridge.{held-set, walk_decides}
use Rattle.tracker.specs.Bridge.{configuration_of, change_log_of}
use Rattle.tracker.specs.declared.Configuration.{Configuration}
use Rattle.changes.proofs.Rules.{fine_sets}
use Rattle.changer.specs.Calls.{Answer, answer_of}
use Rattle.changer.specs.Stages.{accepted_in, again_in, carried_in, entering_in, refused_in, then_on, with_auto_in}
use Rattle.changer.proofs.Pending.{again_same}
use Rattle.changer.proofs.Carried.{list_same}

-- a state that passed the check, as structs, and a list of its changes
module _ (s : State) (o : Checked s) (tracked : IdSet) (m : tracked ≡ set_of (ids s.peers)) (given : Configuration) (e : given ≡ configuration_of s.conf)
    (xs ks : List ℕ) (short : length xs ≤ 256) where
  -- how many entries did nothing
  abbrev pub idle_simple : ℕ
  idle_simple = idles (ids s.peers) (list_of xs ks) (start s.conf)

  abbrev pub idle_enter : ℕ
  idle_enter = idles (ids s.peers) (list_of xs ks) (start (entering s.conf))

  -- the check again, once the list is carried out from c
  again_after : (c : Conf) (v : Work) → After unused_record s.peers o.sound.ids↑ (list_of xs ks) (start c) v → (d : Conf) → Sets d → (i : ℕ)
      → again_in tracked given (accepted_in (configuration_of d) (change_log_of v.log) i) ≡ answer_of given i (check (pending_tracked (ids s.peers) v.log) d ⇒ accepted d v.log)
  again_after c v a d f i =
      again_same tracked (ids s.peers) m (record { rises = o.sound.ids↑; few = o.few }) d (of-sets d f) v.log (omega (arith, a.short, length_list xs ks)) a.fine.fits given i

  pub simple_on_lem : Sets s.conf
      → (let a : Answer = carried_in tracked given xs ks in
      then_on given a (cond (two_apart false (held a.conf.incoming) (held given.incoming)) (refused_in given 18 0) (again_in tracked given a)))
      ≡ answer_of given idle_simple (afterwards (changes (ids s.peers) (list_of xs ks) (start s.conf)) (λ v.
      refuse (is_empty v.conf.incoming) 17 0
      ▸ refuse (leb 2 (difference v.conf.incoming s.conf.incoming)) 18 0
      ▸ check (pending_tracked (ids s.peers) v.log) v.conf
      ⇒ accepted v.conf v.log))
  unfolding enrol pending room
  simple_on_lem g =
      list_same s.conf (record { sound = o.sound; fits = refl; few = o.few }) given e tracked m xs ks short given
      (λ a. cond (two_apart false (held a.conf.incoming) (held given.incoming)) (refused_in given 18 0) (again_in tracked given a))
      (λ v. refuse (leb 2 (difference v.conf.incoming s.conf.incoming)) 18 0 ▸ check (pending_tracked (ids s.peers) v.log) v.conf)
      (λ v. accepted v.conf v.log)
      (λ v a. on v a (fine_sets a.fine))
    where
      on : (v : Work) → After unused_record s.peers o.sound.ids↑ (list_of xs ks) (start s.conf) v → Sets v.conf
          → cond (two_apart false (held (set_of v.conf.incoming)) (held given.incoming)) (refused_in given 18 0) (again_in tracked given (accepted_in (configuration_of v.conf) (change_log_of v.log) idle_simple))
          ≡ answer_of given idle_simple ((refuse (leb 2 (difference v.conf.incoming s.conf.incoming)) 18 0 ▸ check (pending_tracked (ids s.peers) v.log) v.conf) ⇒ accepted v.conf v.log)
      on v a f =
          rw (apart, again_after s.conf v a v.conf f idle_simple) (go (leb 2 (difference v.conf.incoming s.conf.incoming)))
        where
          apart : two_apart false (held (set_of v.conf.incoming)) (held given.incoming) ≡ leb 2 (difference v.conf.incoming s.conf.incoming)
          apart =
              rw (e, held-set v.conf.incoming f.incoming.few, held-set s.conf.incoming g.incoming.few)
              (walk_decides v.conf.incoming s.conf.incoming f.incoming.rises g.incoming.rises)

          go : (b : Bool) → cond b (refused_in given 18 0) (answer_of given idle_simple (check (pending_tracked (ids s.peers) v.log) v.conf ⇒ accepted v.conf v.log))
              ≡ answer_of given idle_simple ((refuse b 18 0 ▸ check (pending_tracked (ids s.peers) v.log) v.conf) ⇒ accepted v.conf v.log)
          go true = refl
          go false = refl

  pub enter_on : joint s.conf ≡ false → (auto : Bool)
      → (let a : Answer = carried_in tracked (entering_in given) xs ks in
      then_on given a (again_in tracked given (with_auto_in auto a)))
      ≡ answer_of given idle_enter (afterwards (changes (ids s.peers) (list_of xs ks) (start (entering s.conf))) (λ v.
      refuse (is_empty v.conf.incoming) 17 0
      ▸ check (pending_tracked (ids s.peers) v.log) (with_auto auto v.conf)
      ⇒ accepted (with_auto auto v.conf) v.log))
  unfolding enrol pending room
  enter_on j auto =
      list_same (entering s.conf) (record { sound = enter_sound s.conf s.peers o.sound j; fits = refl; few = o.few }) (entering_in given) (ap entering_in e) tracked m xs ks short given
      (λ a. again_in tracked given (with_auto_in auto a))
      (λ v. check (pending_tracked (ids s.peers) v.log) (with_auto auto v.conf))
      (λ v. accepted (with_auto auto v.conf) v.log)
      (λ v a.
      let f : Sets v.conf = fine_sets a.fine in
      again_after (entering s.conf) v a (with_auto auto v.conf) (record { incoming = f.incoming; outgoing = f.outgoing; learners = f.learners; staged = f.staged }) idle_enter)
