-- An answer applied to a well-formed struct is the rules' answer applied to its state, and the tracker left is well formed. Assumes nothing.
use Prim.Native.Nat.{ℕ}
use mathlib.Core.Path.{◌≡◌, refl, ap, ◌∙◌}
use mathlib.Core.Bool.{Bool, true, false, not}
use mathlib.Core.List.{List}
use lib.Dec.{eqb}
use Rattle.rules.specs.State.{State, formed}
use Rattle.rules.specs.Answers.{Answer, Verdict, accepted, fault, ok, refuse, refused, ◌▸◌, ◌⇒◌}
use Rattle.rules.specs.Calls.{enter_joint, enter_of, leave_joint, leave_of, list_of, readable, simple, simple_of}
use Rattle.rules.specs.Idle.{enter_idles, simple_idles}
use Rattle.rules.specs.Restore.{Step, apply_answer, ask, enter_step, leave_step, simple_step}
use Rattle.rules.proofs.Applied.{Applied, any_applied}
use Rattle.rules.proofs.Check.{then_right}
use Rattle.rules.proofs.Demand3.{read_short}
use Rattle.rules.proofs.Order.{step_short}
use Rattle.rules.proofs.Numbers.{Numbered, NumberedAnswer, readable-numbered, refuse-numbered, then_numbered}
use Rattle.tracker.specs.Apply.{Outcome, apply_of, outcome_of}
use Rattle.tracker.specs.Bridge.{state_of}
use Rattle.tracker.specs.Form.{tracker_well_formed}
use Rattle.tracker.specs.declared.Tracker.{Tracker}
use Rattle.tracker.proofs.Bridge.{conf-back, conf_well, log_back, log_well, tracker_formed, tracker_well, unit_tracker}
use Rattle.changer.specs.Calls.{answer_of, enter_answer, leave_answer, simple_answer}
use Rattle.restore.specs.Restore.{applied_to}
use Rattle.restore.proofs.Marked.{Answered, Marked, NotZero, asked-answered}

-- an accepted answer is applied to the state, and a refusal's number is not 0
unfoldable pub Fits : State → ℕ → Answer → Type 0
Fits s next (accepted c log) = Applied s next c log
Fits s next (refused n x) = eqb n 0 ≡ false

-- ** What fits

module _ (s : State) (next : ℕ) where
  -- what comes after tests fits where it does once they are passed
  given-fits : (v : Verdict) (a : Answer) → Marked v → (v ≡ ok → Fits s next a) → Fits s next (v ⇒ a)
  unfolding Fits Numbered
  given-fits ok a h k = k refl
  given-fits (fault n x) a h k = h

  module _ (f : formed s ≡ true) where
    pub asked-fits : (p : Step) → step_short p → Fits s next (ask s p)
    unfolding Fits NumberedAnswer
    asked-fits p h = go (ask s p) refl (asked-answered s p)
      where
        go : (a : Answer) → ask s p ≡ a → Answered a → Fits s next a
        go (accepted c log) e m = any_applied s f next p h c log e
        go (refused n x) e m = m

    abbrev ill : Verdict
    ill = refuse (not (formed s)) 1 0

    marked_ill : Marked ill
    marked_ill = refuse-numbered NotZero (not (formed s)) 1 0 refl

    marked_before : (xs ks : List ℕ) → Marked (ill ▸ readable xs ks)
    marked_before xs ks = then_numbered NotZero ill (readable xs ks) marked_ill (readable-numbered NotZero refl refl xs ks)

    pub simple-fits : (xs ks : List ℕ) → Fits s next (simple s xs ks)
    unfolding simple ask
    simple-fits xs ks =
        given-fits (ill ▸ readable xs ks) (simple_of s (list_of xs ks)) (marked_before xs ks)
        (λ e. asked-fits (simple_step (list_of xs ks)) (read_short xs ks (then_right ill (readable xs ks) e)))

    pub enter-fits : (auto : Bool) (xs ks : List ℕ) → Fits s next (enter_joint s auto xs ks)
    unfolding enter_joint ask
    enter-fits auto xs ks =
        given-fits (ill ▸ readable xs ks) (enter_of s auto (list_of xs ks)) (marked_before xs ks)
        (λ e. asked-fits (enter_step auto (list_of xs ks)) (read_short xs ks (then_right ill (readable xs ks) e)))

    pub leave_fits : Fits s next (leave_joint s)
    unfolding leave_joint ask
    leave_fits = given-fits ill (leave_of s) marked_ill (λ e. asked-fits leave_step tt)

    -- the state left is well formed
    pub applied-formed : (a : Answer) → Fits s next a → formed (apply_answer s next a).state ≡ true
    unfolding Fits
    applied-formed (accepted c log) h = rw h.done h.formed-after
    applied-formed (refused n x) h = f

  pub applied_marked : (a : Answer) → Fits s next a → Marked (apply_answer s next a).verdict
  unfolding Fits Numbered
  applied_marked (accepted c log) h = rw h.done tt
  applied_marked (refused n x) h = h

-- ** The structs: how many entries did nothing is not asked

module _ (t : Tracker) (w : tracker_well_formed t ≡ true) (next : ℕ) where
  pub applied-same : (i : ℕ) (a : Answer) → Fits (state_of t) next a → applied_to t (answer_of t.conf i a) next ≡ outcome_of (apply_answer (state_of t) next a)
  unfolding applied_to apply_of Fits
  applied-same i (accepted c log) h = rw (w, conf_well c h.fits, log_well log h.short, conf-back c h.fits, log_back log h.short)
  applied-same i (refused n x) h = rw (h, unit_tracker t w)

  pub outcome-formed : (i : ℕ) (a : Answer) → Fits (state_of t) next a → tracker_well_formed (applied_to t (answer_of t.conf i a) next).tracker ≡ true
  outcome-formed i a h =
      ap (λ (o : Outcome). tracker_well_formed o.tracker) (applied-same i a h)
      ∙ tracker_well (apply_answer (state_of t) next a).state (applied-formed (state_of t) next (tracker_formed t w) a h)

  pub simple-applied : (xs ks : List ℕ) → applied_to t (simple_answer t xs ks) next ≡ outcome_of (apply_answer (state_of t) next (simple (state_of t) xs ks))
  unfolding simple_answer
  simple-applied xs ks = rw w (applied-same (simple_idles (state_of t) xs ks) (simple (state_of t) xs ks) (simple-fits (state_of t) next (tracker_formed t w) xs ks))

  pub enter-applied : (auto : Bool) (xs ks : List ℕ) → applied_to t (enter_answer t auto xs ks) next ≡ outcome_of (apply_answer (state_of t) next (enter_joint (state_of t) auto xs ks))
  unfolding enter_answer
  enter-applied auto xs ks = rw w (applied-same (enter_idles (state_of t) auto xs ks) (enter_joint (state_of t) auto xs ks) (enter-fits (state_of t) next (tracker_formed t w) auto xs ks))

  pub leave-applied : applied_to t (leave_answer t) next ≡ outcome_of (apply_answer (state_of t) next (leave_joint (state_of t)))
  unfolding leave_answer
  leave-applied = rw w (applied-same 0 (leave_joint (state_of t)) (leave_fits (state_of t) next (tracker_formed t w)))
