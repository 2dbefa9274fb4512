-- A list of changes of a tracker that passes the check and is not joint: as the Rust has it, and each change alters only its own id. Assumes nothing.
use mathlib.Core.Path.{◌≡◌, refl}
use mathlib.Core.Bool.{Bool, true, false, not, cond}
use mathlib.Core.List.{List}
use native.Mathlib.Omega.{arith}
use borrow.Author.Tests.{eqb-false, ltb-true, ne_eqb}
use Rattle.rules.specs.State.{Change, State, formed}
use Rattle.rules.specs.Answers.{Verdict, ◌▸◌, fault, ok, refuse}
use Rattle.rules.specs.Check.{check, check_state, is_tracked, joint}
use Rattle.rules.specs.Demands.{AltersItsOwn, AsTheRust}
use Rattle.rules.proofs.Numbers.{Numbered, check-numbered}
use Rattle.rules.proofs.Theorems as rules
use Rattle.tracker.specs.Apply.{number_of, verdict_of}
use Rattle.tracker.specs.Bridge.{conf_of, state_of}
use Rattle.tracker.specs.Form.{tracker_well_formed}
use Rattle.tracker.specs.declared.Tracker.{Tracker}
use Rattle.tracker.proofs.Bridge.{tracker_formed}
use Rattle.invariants.specs.Check.{check_of}
use Rattle.restore.proofs.Marked.{Marked, NotZero}

module _ (t : Tracker) (h : (check_of t).number ≡ 0) where
  abbrev s : State
  s = state_of t

  abbrev own : Verdict
  own = check (is_tracked s) s.conf

  -- number 0 is told of a tracker that is well formed and in which the check finds nothing
  passed : (formed s ≡ true) × (own ≡ ok)
  unfolding check_of check_state Numbered
  passed = go (tracker_well_formed t) refl h
    where
      marked : Marked own
      marked = check-numbered NotZero (λ n k. ne_eqb n 0 (λ e. omega (arith, ltb-true 6 n k))) (is_tracked s) s.conf

      none : (v : Verdict) → Marked v → number_of v ≡ 0 → v ≡ ok
      none ok m e = refl
      none (fault n x) m e = absurd (eqb-false n 0 m e)

      go : (b : Bool) → tracker_well_formed t ≡ b → (cond b (verdict_of (refuse (not (formed s)) 1 0 ▸ own)) (verdict_of (fault 1 0))).number ≡ 0 → (formed s ≡ true) × (own ≡ ok)
      go true w e = (tracker_formed t w, none own marked (rw (tracker_formed t w) at e))
      go false w e = absurd (omega arith)

  module _ (j : joint (conf_of t.conf) ≡ false) (cs : List Change) where
    pub listed : AsTheRust s cs
    listed = rules.list_is_the_rust s passed.0 passed.1 j cs

    pub own_altered : AltersItsOwn s cs
    own_altered = rules.list_alters_only_its_own s passed.0 passed.1 j cs
