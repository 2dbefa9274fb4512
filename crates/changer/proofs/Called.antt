-- The calls as the code makes them, one stage after the other: at each place where the code returns, what it returns is what the call answers.
-- Assumes nothing.
use Prim.Native.Nat.{ℕ}
use mathlib.Core.Path.{◌≡◌, refl, ap, ◌∙◌}
use mathlib.Core.Bool.{Bool, true, false, cond}
use mathlib.Core.List.{List}
use Rattle.std.specs.Prelude.{Ok, Err}
use Rattle.idset.specs.Places.{two_apart}
use Rattle.idset.specs.Set.{held}
use Rattle.rules.specs.Answers as rules
use Rattle.tracker.specs.Apply.{Verdict, verdict_of}
use Rattle.tracker.specs.Bridge.{conf_of, log_of}
use Rattle.tracker.specs.Refusals.{fault_of}
use Rattle.tracker.specs.declared.Configuration.{Configuration}
use Rattle.tracker.specs.declared.Tracker.{Tracker}
use Rattle.tracker.specs.declared.refusal.Refusal.{Refusal}
use Rattle.invariants.specs.Check.{check_walk}
use Rattle.changer.specs.Calls.{Answer, answered, enter_answer, leave_answer, simple_answer}
use Rattle.changer.specs.Before.{may_enter, may_leave, may_simple}
use Rattle.changer.specs.Stages.{again_in, carried_in, enter_in, entering_in, given, leave_in, leaving_in, pending_in, refused_in, simple_in, then_on, with_auto, with_auto_in}
use Rattle.changer.specs.declared.Changed.{Changed}
use Rattle.changer.proofs.Answered.{refused_number}
use Rattle.changer.proofs.Same.{enter-same, leave_same, simple-same}

-- ** Refused, or on

module _ (c : Configuration) (a : Answer) {v : Verdict} where
  given-stops : (q : Refusal) → verdict_of (fault_of q) ≡ v → answered c (Err q) ≡ given v c a
  given-stops q e = rw (← e, refused_number q)

  given_goes : verdict_of rules.ok ≡ v → {r : Answer} → r ≡ a → r ≡ given v c a
  given_goes e k = k ∙ rw (← e)

module _ (c k : Configuration) (on : Answer → Answer) {u : Answer} where
  on_stops : (q : Refusal) → answered k (Err q) ≡ u → answered c (Err q) ≡ then_on c u (on u)
  on_stops q e = rw (← e, refused_number q)

  on_goes : {w : Changed} → answered k (Ok w) ≡ u → {r : Answer} → r ≡ on (answered k (Ok w)) → r ≡ then_on c u (on u)
  on_goes e h = h ∙ rw (← e)

-- the check of what is answered
abbrev pub checks_again : Tracker → Changed → rules.Verdict
checks_again t w = check_walk (held (pending_in (log_of w.log) t.ids)) (conf_of w.conf)

again_stops : (t : Tracker) (w : Changed) (q : Refusal) → fault_of q ≡ checks_again t w → answered t.conf (Err q) ≡ again_in t.ids t.conf (answered t.conf (Ok w))
again_stops t w q e = given-stops t.conf _ q (ap verdict_of e)

again_goes : (t : Tracker) (w : Changed) → rules.ok ≡ checks_again t w → answered t.conf (Ok w) ≡ again_in t.ids t.conf (answered t.conf (Ok w))
again_goes t w e = given_goes t.conf _ (ap verdict_of e) refl

-- ** simple

-- after the list
abbrev simple_on : Tracker → Answer → Answer
simple_on t a = cond (two_apart false (held a.conf.incoming) (held t.conf.incoming)) (refused_in t.conf 18 0) (again_in t.ids t.conf a)

module _ (t : Tracker) (xs ks : List ℕ) where
  pub simple-stops : (q : Refusal) → verdict_of (fault_of q) ≡ may_simple t xs ks → answered t.conf (Err q) ≡ simple_answer t xs ks
  unfolding simple_in
  simple-stops q e = given-stops t.conf _ q e ∙ simple-same t xs ks

  module _ (e : verdict_of rules.ok ≡ may_simple t xs ks) where
    pub simple_list : (q : Refusal) → answered t.conf (Err q) ≡ carried_in t.ids t.conf xs ks → answered t.conf (Err q) ≡ simple_answer t xs ks
    unfolding simple_in
    simple_list q f = given_goes t.conf _ e (on_stops t.conf t.conf (simple_on t) q f) ∙ simple-same t xs ks

    module _ {w : Changed} (f : answered t.conf (Ok w) ≡ carried_in t.ids t.conf xs ks) where
      simple_after : {r : Answer} → r ≡ simple_on t (answered t.conf (Ok w)) → r ≡ simple_answer t xs ks
      unfolding simple_in
      simple_after k = given_goes t.conf _ e (on_goes t.conf t.conf (simple_on t) f k) ∙ simple-same t xs ks

      pub simple-apart : true ≡ two_apart false (held w.conf.incoming) (held t.conf.incoming) → refused_in t.conf 18 0 ≡ simple_answer t xs ks
      simple-apart d = simple_after (rw (← d))

      module _ (d : false ≡ two_apart false (held w.conf.incoming) (held t.conf.incoming)) where
        pub simple-faulty : (q : Refusal) → fault_of q ≡ checks_again t w → answered t.conf (Err q) ≡ simple_answer t xs ks
        simple-faulty q h = simple_after (again_stops t w q h ∙ rw (← d))

        pub simple_passes : rules.ok ≡ checks_again t w → answered t.conf (Ok w) ≡ simple_answer t xs ks
        simple_passes h = simple_after (again_goes t w h ∙ rw (← d))

-- ** enter_joint

-- what is answered, with this flag
abbrev pub flagged : Bool → Changed → Changed
flagged auto w = record { conf = with_auto auto w.conf; log = w.log; idle = w.idle }

module _ (t : Tracker) (auto : Bool) (xs ks : List ℕ) where
  pub enter-stops : (q : Refusal) → verdict_of (fault_of q) ≡ may_enter t xs ks → answered t.conf (Err q) ≡ enter_answer t auto xs ks
  unfolding enter_in
  enter-stops q e = given-stops t.conf _ q e ∙ enter-same t auto xs ks

  module _ (e : verdict_of rules.ok ≡ may_enter t xs ks) {c : Configuration} (d : c ≡ entering_in t.conf) where
    abbrev enter_on : Answer → Answer
    enter_on a = again_in t.ids t.conf (with_auto_in auto a)

    pub enter_list : (q : Refusal) → answered c (Err q) ≡ carried_in t.ids c xs ks → answered t.conf (Err q) ≡ enter_answer t auto xs ks
    unfolding enter_in
    enter_list q f = given_goes t.conf _ e (on_stops t.conf (entering_in t.conf) enter_on q (rw d at f)) ∙ enter-same t auto xs ks

    module _ {w : Changed} (f : answered c (Ok w) ≡ carried_in t.ids c xs ks) where
      enter_after : {r : Answer} → r ≡ again_in t.ids t.conf (answered t.conf (Ok (flagged auto w))) → r ≡ enter_answer t auto xs ks
      unfolding enter_in
      enter_after k = given_goes t.conf _ e (on_goes t.conf (entering_in t.conf) enter_on (rw d at f) k) ∙ enter-same t auto xs ks

      pub enter-faulty : (q : Refusal) → fault_of q ≡ checks_again t (flagged auto w) → answered t.conf (Err q) ≡ enter_answer t auto xs ks
      enter-faulty q h = enter_after (again_stops t (flagged auto w) q h)

      pub enter_passes : rules.ok ≡ checks_again t (flagged auto w) → answered t.conf (Ok (flagged auto w)) ≡ enter_answer t auto xs ks
      enter_passes h = enter_after (again_goes t (flagged auto w) h)

-- ** leave_joint

module _ (t : Tracker) where
  pub leave-stops : (q : Refusal) → verdict_of (fault_of q) ≡ may_leave t → answered t.conf (Err q) ≡ leave_answer t
  unfolding leave_in
  leave-stops q e = given-stops t.conf _ q e ∙ leave_same t

  module _ (e : verdict_of rules.ok ≡ may_leave t) {w : Changed} (f : answered t.conf (Ok w) ≡ leaving_in t.conf) where
    leave_after : {r : Answer} → r ≡ again_in t.ids t.conf (answered t.conf (Ok w)) → r ≡ leave_answer t
    unfolding leave_in
    leave_after k = given_goes t.conf _ e (k ∙ ap (again_in t.ids t.conf) f) ∙ leave_same t

    pub leave-faulty : (q : Refusal) → fault_of q ≡ checks_again t w → answered t.conf (Err q) ≡ leave_answer t
    leave-faulty q h = leave_after (again_stops t w q h)

    pub leave_passes : rules.ok ≡ checks_again t w → answered t.conf (Ok w) ≡ leave_answer t
    leave_passes h = leave_after (again_goes t w h)
