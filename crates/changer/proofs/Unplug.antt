-- Whether a box can be unplugged is told by the tests alone: of every state, malformed ones included, number and id are those of `simple` with that
-- single removal. Assumes nothing.
use Prim.Native.Nat.{ℕ}
use mathlib.Core.Path.{◌≡◌, refl, ap, ◌∙◌}
use mathlib.Core.Bool.{Bool, true, false, not, cond}
use mathlib.Core.List.{[], ◌∷◌}
use Rattle.rules.specs.Answers as rules
use Rattle.rules.specs.Answers.{accepted, fault, refused, refuse, ◌▸◌}
use Rattle.rules.specs.Check.{joint}
use Rattle.rules.specs.State.{State}
use Rattle.rules.specs.Calls.{simple}
use Rattle.rules.specs.Idle.{simple_idles}
use Rattle.rules.specs.Unplug.{straight, unplug, verdict_in, voter_left}
use Rattle.rules.proofs.Theorems.{unplug-is-told}
use Rattle.tracker.specs.Bridge.{state_of}
use Rattle.tracker.specs.Apply.{Verdict, verdict_of}
use Rattle.tracker.specs.Form.{tracker_well_formed}
use Rattle.tracker.specs.declared.Configuration.{Configuration}
use Rattle.tracker.specs.declared.Tracker.{Tracker}
use Rattle.tracker.proofs.Bridge.{tracker_formed}
use Rattle.changer.specs.Before.{may_unplug, own_check}
use Rattle.changer.specs.Calls.{answer_of, simple_answer, unplug_of}
use Rattle.changer.proofs.Same.{own_check_lem}

-- number and id of an answer's struct are those of the answer
told : (c : Configuration) (i : ℕ) (a : rules.Answer) → ◌≡◌ {A = Verdict} (record { number = (answer_of c i a).number; id = (answer_of c i a).id }) (verdict_of (verdict_in a))
told c i (accepted d log) = refl
told c i (refused n y) = refl

module _ (t : Tracker) (x : ℕ) where
  abbrev s : State
  s = state_of t

  abbrev after : rules.Verdict
  after = refuse (joint s.conf) 6 0 ▸ own_check t ▸ refuse (not (voter_left x s.conf.incoming)) 17 0

  -- of a well-formed state, what the rules say
  pub unplug_rules : tracker_well_formed t ≡ true → unplug_of t x ≡ verdict_of (unplug s x)
  unfolding unplug_of simple_answer unplug
  unplug_rules w = rw w (told t.conf (simple_idles s (x ∷ []) (1 ∷ [])) (simple s (x ∷ []) (1 ∷ [])))

  pub unplug_ill : tracker_well_formed t ≡ false → unplug_of t x ≡ verdict_of (fault 1 0)
  unfolding unplug_of simple_answer
  unplug_ill w = rw w

  tested : tracker_well_formed t ≡ true → unplug s x ≡ after
  unfolding straight
  tested w = unplug-is-told s x ∙ rw (tracker_formed t w, ← own_check_lem t w)

  pub unplug-told : unplug_of t x ≡ may_unplug t x
  unplug-told = go (tracker_well_formed t) refl
    where
      go : (b : Bool) → tracker_well_formed t ≡ b → unplug_of t x ≡ cond b (verdict_of after) (verdict_of (fault 1 0))
      go true w = unplug_rules w ∙ ap verdict_of (tested w)
      go false w = unplug_ill w
