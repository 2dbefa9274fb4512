-- What each accepted step does to each box; and the configurations before and after it are neighbours. Assumes nothing.
use Prim.Native.Nat.{ℕ, suc, ◌≤◌}
use mathlib.Core.Path.{◌≡◌, refl, ap, ◌∙◌, sym}
use mathlib.Core.Bool.{Bool, true, false, ◌&&◌, ◌||◌, not, cond, true≢false}
use mathlib.Core.List.{List, [], ◌∷◌}
use native.Mathlib.Omega.{arith}
use borrow.Author.Tests.{not-false}
use lib.Dec.{eqb, leb}
use lib.ListN.{length}
use Rattle.progress.specs.declared.Progress.{Progress}
use Rattle.rules.specs.Ids.{ascending, insert_all, is_empty, memb, minus, remove_id}
use Rattle.rules.specs.State.{Change, Conf, Entry, Peer, State, ids, no_conf}
use Rattle.rules.specs.Answers.{accepted, ok}
use Rattle.rules.specs.Check.{check, is_tracked, joint}
use Rattle.rules.specs.Table.{I, IO, L, O, OS, Places, Standing, idle, none, places, places_of, standing_in}
use Rattle.rules.specs.Changes.{Work, pending, pending_tracked}
use Rattle.rules.specs.Calls.{difference, enter_of, entering, gone, leave_of, leaving, removals, simple_of, start, with_auto}
use Rattle.rules.specs.Apply.{enrol, room, untrack}
use Rattle.rules.specs.Restore.{Step, enter_step, leave_step, simple_step}
use Rattle.rules.specs.Quorum.{Neighbours}
use Rattle.rules.specs.Boxes.{Found, absent, enter_box, enter_standing, leave_box, leave_record, leave_standing, record_of}
use Rattle.rules.proofs.Sets.{ascending-all, ascending_remove, empty_none, length_part, length_remove_le, memb-all, memb-minus, memb_remove}
use Rattle.rules.proofs.Peers.{ids-untrack, record_untrack}
use Rattle.rules.proofs.Plain.{changes_box, step_box}
use Rattle.rules.proofs.Boxes.{Sound, box_at, spot, standing-places}
use Rattle.rules.proofs.Changes.{After, Fine, changes-done, now}
use Rattle.rules.proofs.Means.{Simple, simple_means, Enter, enter_means, Leave, leave_means}
use Rattle.rules.proofs.Check.{passes_of}
use Rattle.rules.proofs.Near.{near_itself}
use Rattle.rules.proofs.Quorum.{by-incoming, by-outgoing}

abbrev pub is_idle : Standing → Bool
is_idle none = false
is_idle idle = true
is_idle I = false
is_idle L = false
is_idle O = false
is_idle IO = false
is_idle OS = false

-- what `in_order` says, by parts
pub record Ordered (s : State) : Type 0 where
  pub sound : Sound s.conf s.peers
  pub few : length (ids s.peers) ≤ 64
  pub checked : check (is_tracked s) s.conf ≡ ok
  pub zero : standing_in (spot s.conf s.peers 0) ≡ none
  pub busy : (y : ℕ) → is_idle (standing_in (spot s.conf s.peers y)) ≡ false

-- what the check gives of a well-formed state in which no box is both staged and an incoming voter, in order or not
pub record Checked (s : State) : Type 0 where
  pub sound : Sound s.conf s.peers
  pub few : length (ids s.peers) ≤ 64
  pub checked : check (is_tracked s) s.conf ≡ ok

abbrev pub ordered-checked : (s : State) → Ordered s → Checked s
ordered-checked s o = record { sound = o.sound; few = o.few; checked = o.checked }

-- what an accepted step answers
pub record Stepped (s : State) (r : Progress) (p : Step) (c : Conf) (log : List Entry) : Type 0 where
  pub sound : Sound c (enrol r log s.peers)
  pub fits : room log (ids s.peers) ≡ ok
  pub few : length (pending log (ids s.peers)) ≤ 64
  pub short : length log ≤ 256
  pub checked : check (pending_tracked (ids s.peers) log) c ≡ ok
  pub boxes : (y : ℕ) → box_at c (enrol r log s.peers) y ≡ step_box r y p (box_at s.conf s.peers y)
  pub voters : (is_empty s.conf.incoming ≡ true → s.conf ≡ no_conf) → is_empty c.incoming ≡ true → c ≡ no_conf
  pub neighbours : Neighbours s.conf c

pub no_joint : (c : Conf) → joint c ≡ false → (x : ℕ) → memb x c.outgoing ≡ false
no_joint c h x = empty_none c.outgoing (not-false (is_empty c.outgoing) h) x

-- ** Entering

enter-places : (st : Standing) → (places_of st).outgoing ≡ false
    → places (places_of st).tracked (places_of st).incoming (places_of st).incoming (places_of st).learner (places_of st).staged ≡ places_of (enter_standing st)
enter-places none h = refl
enter-places idle h = refl
enter-places I h = refl
enter-places L h = refl
enter-places O h = absurd (true≢false h)
enter-places IO h = absurd (true≢false h)
enter-places OS h = absurd (true≢false h)

module _ (c : Conf) (ps : List Peer) (s : Sound c ps) (h : joint c ≡ false) where
  enter_spot : (y : ℕ) (st : Standing) → spot c ps y ≡ places_of st → spot (entering c) ps y ≡ places_of (enter_standing st)
  enter_spot y st q =
      rw (ap (λ (p : Places). p.tracked) q, ap (λ (p : Places). p.incoming) q, ap (λ (p : Places). p.learner) q, ap (λ (p : Places). p.staged) q)
      (enter-places st (sym (ap (λ (p : Places). p.outgoing) q) ∙ no_joint c h y))

  pub enter-box : (y : ℕ) → box_at (entering c) ps y ≡ enter_box (box_at c ps y)
  enter-box y = rw (enter_spot y (standing_in (spot c ps y)) (s.stands y), standing-places (enter_standing (standing_in (spot c ps y))))

  pub enter_sound : Sound (entering c) ps
  enter_sound =
      record {
        incoming↑ = s.incoming↑;
        outgoing↑ = s.incoming↑;
        learners↑ = s.learners↑;
        staged↑ = s.staged↑;
        ids↑ = s.ids↑;
        stands = λ y. rw (enter_spot y (standing_in (spot c ps y)) (s.stands y), standing-places (enter_standing (standing_in (spot c ps y))));
      }

pub auto_sound : (a : Bool) (c : Conf) (ps : List Peer) → Sound c ps → Sound (with_auto a c) ps
auto_sound a c ps s =
    record {
      incoming↑ = s.incoming↑;
      outgoing↑ = s.outgoing↑;
      learners↑ = s.learners↑;
      staged↑ = s.staged↑;
      ids↑ = s.ids↑;
      stands = s.stands;
    }

-- ** Leaving

and-not : (e t m : Bool) → (not e && t) && not m ≡ t && not (e || m)
and-not true true m = refl
and-not true false m = refl
and-not false t m = refl

memb-removals : (r : Progress) (xs : List ℕ) (ps : List Peer) (y : ℕ) → ascending (ids ps) ≡ true → memb y (ids (enrol r (removals xs) ps)) ≡ memb y (ids ps) && not (memb y xs)
unfolding removals enrol memb
memb-removals r [] ps y a = go (memb y (ids ps))
  where
    go : (b : Bool) → b ≡ b && true
    go true = refl
    go false = refl
memb-removals r (x ∷ xs) ps y a =
    memb-removals r xs (untrack x ps) y (rw (ids-untrack x ps) (ascending_remove x (ids ps) a))
    ∙ rw (ids-untrack x ps, memb_remove x y (ids ps) a) (and-not (eqb x y) (memb y (ids ps)) (memb y xs))

ascending-removals : (r : Progress) (xs : List ℕ) (ps : List Peer) → ascending (ids ps) ≡ true → ascending (ids (enrol r (removals xs) ps)) ≡ true
unfolding removals enrol
ascending-removals r [] ps a = a
ascending-removals r (x ∷ xs) ps a = ascending-removals r xs (untrack x ps) (rw (ids-untrack x ps) (ascending_remove x (ids ps) a))

record_removals : (r : Progress) (xs : List ℕ) (ps : List Peer) (y : ℕ) → ascending (ids ps) ≡ true → record_of y (enrol r (removals xs) ps) ≡ cond (memb y xs) absent (record_of y ps)
unfolding removals enrol memb
record_removals r [] ps y a = refl
record_removals r (x ∷ xs) ps y a =
    record_removals r xs (untrack x ps) y (rw (ids-untrack x ps) (ascending_remove x (ids ps) a))
    ∙ rw (record_untrack x y ps a) (go (eqb x y) (memb y xs))
  where
    go : (e m : Bool) → cond m absent (cond e absent (record_of y ps)) ≡ cond (e || m) absent (record_of y ps)
    go true true = refl
    go true false = refl
    go false m = refl

pub room-removals : (xs base : List ℕ) → room (removals xs) base ≡ ok
unfolding removals room
room-removals [] base = refl
room-removals (x ∷ xs) base = room-removals xs (remove_id x base)

few-removals : (xs base : List ℕ) → length (pending (removals xs) base) ≤ length base
unfolding removals pending
few-removals [] base = omega arith
few-removals (x ∷ xs) base = omega (arith, few-removals xs (remove_id x base), length_remove_le x base)

pub length-removals : (xs : List ℕ) → length (removals xs) ≡ length xs
unfolding removals
length-removals [] = refl
length-removals (x ∷ xs) = ap suc (length-removals xs)

pub length-minus : (xs ys : List ℕ) → length (minus xs ys) ≤ length xs
unfolding minus
length-minus [] ys = omega arith
length-minus (x ∷ xs) ys = go (memb x ys) (length-minus xs ys)
  where
    go : (b : Bool) → length (minus xs ys) ≤ length xs → length (cond b (minus xs ys) (x ∷ minus xs ys)) ≤ suc (length xs)
    go true h = omega arith
    go false h = omega arith

-- what becomes of the places: t is tracked, g is gone
abbrev is_gone : Places → Bool
is_gone p = p.outgoing && not p.incoming && not (p.staged || p.learner)

leave-places : (st : Standing)
    → places ((places_of st).tracked && not (is_gone (places_of st))) (places_of st).incoming false ((places_of st).staged || (places_of st).learner) false ≡ places_of (leave_standing st)
leave-places none = refl
leave-places idle = refl
leave-places I = refl
leave-places L = refl
leave-places O = refl
leave-places IO = refl
leave-places OS = refl

leave_record_lem : (st : Standing) (f : Found)
    → cond (is_gone (places_of st)) absent f ≡ leave_record st f
leave_record_lem none f = refl
leave_record_lem idle f = refl
leave_record_lem I f = refl
leave_record_lem L f = refl
leave_record_lem O f = refl
leave_record_lem IO f = refl
leave_record_lem OS f = refl

pub memb-gone : (c : Conf) (y : ℕ) → memb y (gone c) ≡ memb y c.outgoing && not (memb y c.incoming) && not (memb y c.staged || memb y c.learners)
memb-gone c y = rw (memb-minus y (minus c.outgoing c.incoming) (insert_all c.staged c.learners), memb-minus y c.outgoing c.incoming, memb-all y c.staged c.learners)

module _ (r : Progress) (c : Conf) (ps : List Peer) (s : Sound c ps) where
  abbrev ps' : List Peer
  ps' = enrol r (removals (gone c)) ps

  pub leave_spot : (y : ℕ) (st : Standing) → spot c ps y ≡ places_of st → spot (leaving c) ps' y ≡ places_of (leave_standing st)
  unfolding memb
  leave_spot y st q =
      rw (
        memb-removals r (gone c) ps y s.ids↑,
        memb-gone c y,
        memb-all y c.staged c.learners,
        ap (λ (p : Places). p.tracked) q,
        ap (λ (p : Places). p.incoming) q,
        ap (λ (p : Places). p.outgoing) q,
        ap (λ (p : Places). p.learner) q,
        ap (λ (p : Places). p.staged) q,
      )
      (leave-places st)

  leave-rec : (y : ℕ) (st : Standing) → spot c ps y ≡ places_of st → record_of y ps' ≡ leave_record st (record_of y ps)
  leave-rec y st q =
      rw (
        record_removals r (gone c) ps y s.ids↑,
        memb-gone c y,
        ap (λ (p : Places). p.incoming) q,
        ap (λ (p : Places). p.outgoing) q,
        ap (λ (p : Places). p.learner) q,
        ap (λ (p : Places). p.staged) q,
      )
      (leave_record_lem st (record_of y ps))

  pub leave-box : (y : ℕ) → box_at (leaving c) ps' y ≡ leave_box (box_at c ps y)
  leave-box y =
      rw (leave_spot y (standing_in (spot c ps y)) (s.stands y), standing-places (leave_standing (standing_in (spot c ps y))), leave-rec y (standing_in (spot c ps y)) (s.stands y))

  pub leave_sound : Sound (leaving c) ps'
  unfolding ascending
  leave_sound =
      record {
        incoming↑ = s.incoming↑;
        outgoing↑ = refl;
        learners↑ = ascending-all c.staged c.learners s.learners↑;
        staged↑ = refl;
        ids↑ = ascending-removals r (gone c) ps s.ids↑;
        stands = λ y. rw (leave_spot y (standing_in (spot c ps y)) (s.stands y), standing-places (leave_standing (standing_in (spot c ps y))));
      }

-- ** The three calls

stepped_at : (s : State) (r : Progress) (p : Step) {c d : Conf} {log es : List Entry} → c ≡ d → log ≡ es → Stepped s r p c log → Stepped s r p d es
stepped_at s r p e f a = rw (← e, ← f) a

module _ (s : State) (o : Checked s) (r : Progress) where
  module _ (cs : List Change) (short : length cs ≤ 256) where
    simple-from : (w : Work) → After r s.peers o.sound.ids↑ cs (start s.conf) w → check (pending_tracked (ids s.peers) w.log) w.conf ≡ ok → is_empty w.conf.incoming ≡ false
        → leb 2 (difference w.conf.incoming s.conf.incoming) ≡ false → Stepped s r (simple_step cs) w.conf w.log
    unfolding enrol
    simple-from w a k v near =
        record {
          sound = a.fine.sound;
          fits = a.fine.fits;
          few = a.fine.few;
          short = omega (arith, a.short);
          checked = k;
          boxes = a.boxes;
          voters = λ f e. absurd (true≢false (sym e ∙ v));
          neighbours = by-incoming s.conf w.conf (λ b. v) o.sound.incoming↑ a.fine.sound.incoming↑ near;
        }

    pub simple_stepped : (c : Conf) (log : List Entry) → simple_of s cs ≡ accepted c log → Stepped s r (simple_step cs) c log
    unfolding enrol pending room
    simple_stepped c log h =
        let m : Simple s cs c log = simple_means s c log cs h in
        let f : Fine r s.peers o.sound.ids↑ (start s.conf) = record { sound = o.sound; fits = refl; few = o.few } in
        stepped_at s r (simple_step cs) m.conf m.logs (simple-from m.work (changes-done r s.peers o.sound.ids↑ cs (start s.conf) m.work m.does f) m.again m.voter m.near)

    enter-from : (auto : Bool) (w : Work) → joint s.conf ≡ false → is_empty s.conf.incoming ≡ false → After r s.peers o.sound.ids↑ cs (start (entering s.conf)) w
        → check (pending_tracked (ids s.peers) w.log) (with_auto auto w.conf) ≡ ok → is_empty w.conf.incoming ≡ false → Stepped s r (enter_step auto cs) (with_auto auto w.conf) w.log
    unfolding enrol
    enter-from auto w j b a k v =
        record {
          sound = auto_sound auto w.conf (now r s.peers o.sound.ids↑ w) a.fine.sound;
          fits = a.fine.fits;
          few = a.fine.few;
          short = omega (arith, a.short);
          checked = k;
          boxes = λ y. a.boxes y ∙ ap (changes_box r y cs) (enter-box s.conf s.peers o.sound j y);
          voters = λ f e. absurd (true≢false (sym e ∙ v));
          neighbours = by-outgoing s.conf (with_auto auto w.conf) (λ i. v) o.sound.incoming↑ b a.outgoing;
        }

    pub enter_stepped : (auto : Bool) (c : Conf) (log : List Entry) → enter_of s auto cs ≡ accepted c log → Stepped s r (enter_step auto cs) c log
    unfolding enrol pending room
    enter_stepped auto c log h =
        let m : Enter s auto cs c log = enter_means s c log auto cs h in
        let f : Fine r s.peers o.sound.ids↑ (start (entering s.conf)) = record { sound = enter_sound s.conf s.peers o.sound m.single; fits = refl; few = o.few } in
        stepped_at s r (enter_step auto cs) m.conf m.logs (enter-from auto m.work m.single m.before (changes-done r s.peers o.sound.ids↑ cs (start (entering s.conf)) m.work m.does f) m.again m.voter)

  pub leave_stepped : (c : Conf) (log : List Entry) → leave_of s ≡ accepted c log → Stepped s r leave_step c log
  leave_stepped c log h =
      let m : Leave s c log = leave_means s c log h in
      stepped_at s r leave_step m.conf m.logs (from m.jointly m.again)
    where
      outs : length s.conf.outgoing ≤ length (ids s.peers)
      outs = length_part s.conf.outgoing (ids s.peers) o.sound.outgoing↑ o.sound.ids↑ (passes_of (is_tracked s) s.conf o.checked).outgoing-tracked

      from : joint s.conf ≡ true → check (pending_tracked (ids s.peers) (removals (gone s.conf))) (leaving s.conf) ≡ ok → Stepped s r leave_step (leaving s.conf) (removals (gone s.conf))
      from j k =
          record {
            sound = leave_sound r s.conf s.peers o.sound;
            fits = room-removals (gone s.conf) (ids s.peers);
            few = omega (arith, few-removals (gone s.conf) (ids s.peers), o.few);
            short = omega (arith, length-removals (gone s.conf), length-minus (minus s.conf.outgoing s.conf.incoming) (leaving s.conf).learners, length-minus s.conf.outgoing s.conf.incoming, outs, o.few);
            checked = k;
            boxes = leave-box r s.conf s.peers o.sound;
            voters = λ f e. absurd (true≢false (sym j ∙ ap joint (f e)));
            neighbours = by-incoming s.conf (leaving s.conf) (λ v. v) o.sound.incoming↑ o.sound.incoming↑ (near_itself s.conf.incoming o.sound.incoming↑);
          }
