-- Can this box be unplugged?: document 02, d), of every tracker, and through both entries. Assumes nothing.
use Prim.Native.Nat.{ℕ}
use mathlib.Core.Path.{◌≡◌, refl, ap, sym, ◌∙◌}
use mathlib.Core.Bool.{false}
use mathlib.Core.List.{List}
use native.Mathlib.Nat.{zero-add}
use lib.Dec.{eqb}
use lib.ListN.{length}
use Rattle.rules.specs.Check.{in_order}
use Rattle.rules.proofs.Sets.{and_left, and_right}
use Rattle.rules.proofs.Theorems.{unplug-is-quick, unplug-is-told}
use Rattle.tracker.specs.Apply.{verdict_of}
use Rattle.tracker.specs.Bridge.{state_of}
use Rattle.tracker.specs.Form.{tracker_well_formed}
use Rattle.tracker.specs.declared.Tracker.{Tracker}
use Rattle.invariants.specs.Check.{in_order_of}
use Rattle.changer.specs.Calls.{unplug_of}
use Rattle.changer.proofs.Unplug.{unplug_ill, unplug_rules}
use Rattle.calls.specs.Call.{reply_to}
use Rattle.unplug.specs.Words.{at}
use Rattle.calls.specs.Layout.{state_at}
use Rattle.calls.specs.Unplugs.{unplug_answer, unplug_leaves}
use Rattle.unplug.specs.Unplugs.{state_in}
use Rattle.unplug.proofs.SameState.{state_alike}
use Rattle.demands.specs.Demands.{Unplugged}
use Rattle.demands.specs.Statements.{AsksSimple, OneAnswer}

pub unplugged : (t : Tracker) (x : ℕ) → Unplugged t x
unfolding unplug_of in_order_of
unplugged t x =
    record {
      number = refl;
      id = refl;
      in_order = λ h. unplug_rules t x (and_left (tracker_well_formed t) (in_order (state_of t)) h) ∙ ap verdict_of (unplug-is-quick (state_of t) (and_right (tracker_well_formed t) (in_order (state_of t)) h) x);
      well_formed = λ w. unplug_rules t x w ∙ ap verdict_of (unplug-is-told (state_of t) x);
      malformed = unplug_ill t x;
    }

pub no_unplug : (state verdict : List ℕ) (x : ℕ) → eqb (unplug_answer state (length verdict)) 0 ≡ false → unplug_leaves state x verdict ≡ verdict
unfolding unplug_leaves
no_unplug state verdict x h = rw h

-- ** Both entries

pub one_answer : (request state : List ℕ) (x : ℕ) → AsksSimple request state x → OneAnswer request state x
unfolding reply_to unplug_of
one_answer request state x a =
    let e : state_at request 1 ≡ state_in state = state_alike (record { same = λ i h. a.words i h ∙ ap (at state) (sym (zero-add i)) }) in
    (rw (a.call, a.ids, a.kinds, e), rw (a.call, a.ids, a.kinds, e))
