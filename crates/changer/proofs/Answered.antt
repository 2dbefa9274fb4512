-- An answer is known by what it says: no refusal has number 0. Assumes nothing.
use mathlib.Core.Path.{◌≡◌, refl, ap, sym, ◌∙◌}
use mathlib.Core.Bool.{false, true≢false}
use lib.Dec.{eqb}
use Rattle.std.specs.Prelude.{Result, Ok, Err}
use Rattle.tracker.specs.Refusals.{number_at}
use Rattle.tracker.specs.declared.Configuration.{Configuration}
use Rattle.tracker.specs.declared.refusal.Refusal.{Refusal}
use Rattle.tracker.specs.declared.refusal.Refusal.TheVariants.{Malformed, ListTooLong, KindAbove2, AlreadyJoint, NotJoint, SimpleWhileJoint, VoterNotTracked, LearnerNotTracked, LearnerIsOutgoing, LearnerIsIncoming, StagedNotTracked, StagedNotOutgoing, StagedWhileNotJoint, AutoLeaveWhileNotJoint, EnterWithoutVoter, NoRoom, NoVoterLeft, TwoVotersChanged}
use Rattle.tracker.proofs.Refusals.{refusal_once}
use Rattle.changer.specs.Calls.{Answer, answered}
use Rattle.changer.specs.declared.Changed.{Changed}

pub refused_number : (q : Refusal) → eqb (number_at q) 0 ≡ false
refused_number Malformed = refl
refused_number ListTooLong = refl
refused_number KindAbove2 = refl
refused_number AlreadyJoint = refl
refused_number NotJoint = refl
refused_number SimpleWhileJoint = refl
refused_number (VoterNotTracked x) = refl
refused_number (LearnerNotTracked x) = refl
refused_number (LearnerIsOutgoing x) = refl
refused_number (LearnerIsIncoming x) = refl
refused_number (StagedNotTracked x) = refl
refused_number (StagedNotOutgoing x) = refl
refused_number StagedWhileNotJoint = refl
refused_number AutoLeaveWhileNotJoint = refl
refused_number EnterWithoutVoter = refl
refused_number (NoRoom x) = refl
refused_number NoVoterLeft = refl
refused_number TwoVotersChanged = refl

-- two results that answer alike are equal
pub answered_once : (g : Configuration) (z y : Result Changed Refusal) {v : Answer} → answered g z ≡ v → answered g y ≡ v → z ≡ y
answered_once g (Ok a) (Ok b) h k = ap (λ (w : Answer). Ok (record { conf = w.conf; log = w.log; idle = w.idle })) (h ∙ sym k)
answered_once g (Ok a) (Err q) h k = absurd (true≢false (ap (λ (w : Answer). eqb w.number 0) (h ∙ sym k) ∙ refused_number q))
answered_once g (Err r) (Ok b) h k = absurd (true≢false (ap (λ (w : Answer). eqb w.number 0) (k ∙ sym h) ∙ refused_number r))
answered_once g (Err r) (Err q) h k =
    let e : answered g (Err r) ≡ answered g (Err q) = h ∙ sym k in
    ap Err (refusal_once r q (ap (λ (w : Answer). w.number) e) (ap (λ (w : Answer). w.id) e))
