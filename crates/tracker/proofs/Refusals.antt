-- A refusal is told by its number and id: no two have both in common. So an answer is known by what it says. Assumes nothing.
use Rattle.std.proofs.Common.{◌≡◌, ℕ, cond, eqb, true, refl, ap, sym, ◌∙◌, Result, Ok, Err}
use mathlib.Core.Bool.{true≢false}
use Rattle.rules.specs.Answers as rules
use Rattle.rules.specs.Answers.{ok, fault}
use Rattle.tracker.specs.declared.refusal.Refusal.{Refusal}
use Rattle.tracker.specs.declared.refusal.Refusal.TheVariants.{Malformed, ListTooLong, KindAbove2, AlreadyJoint, NotJoint, SimpleWhileJoint, VoterNotTracked, LearnerNotTracked, LearnerIsOutgoing, LearnerIsIncoming, StagedNotTracked, StagedNotOutgoing, StagedWhileNotJoint, AutoLeaveWhileNotJoint, EnterWithoutVoter, NoRoom, NoVoterLeft, TwoVotersChanged}
use Rattle.tracker.specs.Apply.{Verdict, Outcome, number_of, id_of, verdict_of, outcome_left}
use Rattle.tracker.specs.ConfStates.{Written, written_told}
use Rattle.tracker.specs.Refusals.{number_at, id_at, said}
use Rattle.tracker.specs.declared.ConfState.{ConfState}
use Rattle.tracker.specs.declared.Tracker.{Tracker}

-- the refusal of a number and an id
refusal_at : ℕ → ℕ → Refusal
refusal_at n x =
    cond (eqb n 1) Malformed (cond (eqb n 2) ListTooLong (cond (eqb n 3) KindAbove2 (cond (eqb n 4) AlreadyJoint (cond (eqb n 5) NotJoint
    (cond (eqb n 6) SimpleWhileJoint (cond (eqb n 7) (VoterNotTracked x) (cond (eqb n 8) (LearnerNotTracked x) (cond (eqb n 9) (LearnerIsOutgoing x)
    (cond (eqb n 10) (LearnerIsIncoming x) (cond (eqb n 11) (StagedNotTracked x) (cond (eqb n 12) (StagedNotOutgoing x)
    (cond (eqb n 13) StagedWhileNotJoint (cond (eqb n 14) AutoLeaveWhileNotJoint (cond (eqb n 15) EnterWithoutVoter
    (cond (eqb n 16) (NoRoom x) (cond (eqb n 17) NoVoterLeft TwoVotersChanged))))))))))))))))

told_back : (r : Refusal) → refusal_at (number_at r) (id_at r) ≡ r
unfolding refusal_at
told_back Malformed = refl
told_back ListTooLong = refl
told_back KindAbove2 = refl
told_back AlreadyJoint = refl
told_back NotJoint = refl
told_back SimpleWhileJoint = refl
told_back (VoterNotTracked x) = refl
told_back (LearnerNotTracked x) = refl
told_back (LearnerIsOutgoing x) = refl
told_back (LearnerIsIncoming x) = refl
told_back (StagedNotTracked x) = refl
told_back (StagedNotOutgoing x) = refl
told_back StagedWhileNotJoint = refl
told_back AutoLeaveWhileNotJoint = refl
told_back EnterWithoutVoter = refl
told_back (NoRoom x) = refl
told_back NoVoterLeft = refl
told_back TwoVotersChanged = refl

-- no two refusals have number and id in common
pub refusal_once : (r q : Refusal) → number_at r ≡ number_at q → id_at r ≡ id_at q → r ≡ q
refusal_once r q n x = sym (told_back r) ∙ rw (n, x) (told_back q)

number_in : rules.Verdict → ℕ
number_in ok = 0
number_in (fault n x) = n

id_in : rules.Verdict → ℕ
id_in ok = 0
id_in (fault n x) = x

-- an answer without a value is known by what it says
pub said_once : {A : Type 0} (one : (a b : A) → a ≡ b) (z y : Result A Refusal) {v : rules.Verdict} → said z ≡ v → said y ≡ v → z ≡ y
unfolding number_in id_in
said_once one (Ok a) (Ok b) h k = ap Ok (one a b)
said_once one (Ok a) (Err q) h k = cc
said_once one (Err r) (Ok b) h k = cc
said_once {A = A} one (Err r) (Err q) h k =
    let e : said {A = A} (Err r) ≡ said {A = A} (Err q) = h ∙ sym k in
    ap Err (refusal_once r q (ap number_in e) (ap id_in e))

-- ** By number and id

-- no refusal has the number 0, which says accepted
pub number_some : (r : Refusal) → number_at r ≡ 0 → ⊥
number_some r h = go r (ap (λ n. eqb n 0) h)
  where
    go : (r : Refusal) → eqb (number_at r) 0 ≡ true → ⊥
    go Malformed e = true≢false (sym e)
    go ListTooLong e = true≢false (sym e)
    go KindAbove2 e = true≢false (sym e)
    go AlreadyJoint e = true≢false (sym e)
    go NotJoint e = true≢false (sym e)
    go SimpleWhileJoint e = true≢false (sym e)
    go (VoterNotTracked x) e = true≢false (sym e)
    go (LearnerNotTracked x) e = true≢false (sym e)
    go (LearnerIsOutgoing x) e = true≢false (sym e)
    go (LearnerIsIncoming x) e = true≢false (sym e)
    go (StagedNotTracked x) e = true≢false (sym e)
    go (StagedNotOutgoing x) e = true≢false (sym e)
    go StagedWhileNotJoint e = true≢false (sym e)
    go AutoLeaveWhileNotJoint e = true≢false (sym e)
    go EnterWithoutVoter e = true≢false (sym e)
    go (NoRoom x) e = true≢false (sym e)
    go NoVoterLeft e = true≢false (sym e)
    go TwoVotersChanged e = true≢false (sym e)

-- an answer without a value is known by its number and id
pub numbers_once : {A : Type 0} (one : (a b : A) → a ≡ b) (z y : Result A Refusal) → number_of (said z) ≡ number_of (said y) → id_of (said z) ≡ id_of (said y) → z ≡ y
numbers_once one (Ok a) (Ok b) n x = ap Ok (one a b)
numbers_once one (Ok a) (Err q) n x = absurd (number_some q (sym n))
numbers_once one (Err r) (Ok b) n x = absurd (number_some r n)
numbers_once one (Err r) (Err q) n x = ap Err (refusal_once r q n x)

pub verdict_once : {A : Type 0} (one : (a b : A) → a ≡ b) (z y : Result A Refusal) {v : Verdict} → verdict_of (said z) ≡ v → verdict_of (said y) ≡ v → z ≡ y
verdict_once one z y h k =
    let e : verdict_of (said z) ≡ verdict_of (said y) = h ∙ sym k in
    numbers_once one z y (ap (λ (w : Verdict). w.number) e) (ap (λ (w : Verdict). w.id) e)

-- and so is what a call leaves
pub left_once : {A : Type 0} (one : (a b : A) → a ≡ b) (z y : Result A Refusal) {t u : Tracker} {v : Outcome} → outcome_left t z ≡ v → outcome_left u y ≡ v → (z ≡ y) × (t ≡ u)
left_once one z y {t} {u} h k =
    let e : outcome_left t z ≡ outcome_left u y = h ∙ sym k in
    (numbers_once one z y (ap (λ (w : Outcome). w.number) e) (ap (λ (w : Outcome). w.id) e), ap (λ (w : Outcome). w.tracker) e)

pub written_once : (z y : Result ConfState Refusal) {v : Written} → written_told z ≡ v → written_told y ≡ v → z ≡ y
written_once (Ok a) (Ok b) h k = ap Ok (ap (λ (w : Written). w.conf_state) (h ∙ sym k))
written_once (Ok a) (Err q) h k = absurd (number_some q (ap (λ (w : Written). w.number) (k ∙ sym h)))
written_once (Err r) (Ok b) h k = absurd (number_some r (ap (λ (w : Written). w.number) (h ∙ sym k)))
written_once (Err r) (Err q) h k =
    let e : written_told (Err r) ≡ written_told (Err q) = h ∙ sym k in
    ap Err (refusal_once r q (ap (λ (w : Written). w.number) e) (ap (λ (w : Written). w.id) e))

-- there is one value of the unit type
pub unit_once : (a b : Unit {0}) → a ≡ b
unit_once a b = refl
