-- Of each public contract of the crates up to restore and unplug, two results that it allows are equal, and so is what it leaves of a value that is
-- lent: a line for each public function. `Learnt` is Rattle's own reading of the `ensures` in src/, what a caller learns of arguments and result.
-- Assumes nothing.
use Prim.Native.Nat.{ℕ}
use denote.RattleType.{RattleType}
use denote.Param.Laws.{Laws, IsCopy}
use mir.Syntax.{Dict}
use mathlib.Core.Path.{◌≡◌, refl, ap, ◌∙◌, sym}
use mathlib.Core.Bool.{Bool, true≢false}
use Rattle.std.specs.declared.clone.Clone.{Ghosts}
use Rattle.std.specs.Prelude.{Result, Ok, Err}
use Rattle.rules.specs.Answers as rules
use Rattle.idset.specs.Set.{Inserted, Removed, United, inserted, removed, united}
use Rattle.idset.specs.declared.IdSet.{IdSet}
use Rattle.idset.specs.declared.Full.{Full}
use Rattle.tracker.specs.Apply.{Verdict, Outcome, verdict_of, outcome_left}
use Rattle.tracker.specs.Refusals.{said}
use Rattle.tracker.specs.declared.Tracker.{Tracker}
use Rattle.tracker.specs.declared.refusal.Refusal.{Refusal}
use Rattle.tracker.proofs.Refusals.{said_once, verdict_once, left_once, written_once, unit_once}
use Rattle.unplug.specs.Unplugs.{answered as told-unplug}
use Rattle.unplug.specs.declared.Unfit.{Unfit}
use Rattle.changer.proofs.Answered.{answered_once}
use Rattle.progress.proofs.Progress.fresh.Reads as progress-fresh
use Rattle.progress.proofs.Progress.unused.Reads as progress-unused
use Rattle.progress.proofs.Progress.is_unused.Reads as progress-is-unused
use Rattle.progress.proofs.ProgressState.is_default.Reads as progress-is-default
use Rattle.idset.proofs.IdSet.new.Reads as idset-new
use Rattle.idset.proofs.IdSet.is_malformed.Reads as idset-is-malformed
use Rattle.idset.proofs.IdSet.as_slice.Reads as idset-as-slice
use Rattle.idset.proofs.IdSet.is_empty.Reads as idset-is-empty
use Rattle.idset.proofs.IdSet.contains.Reads as idset-contains
use Rattle.idset.proofs.IdSet.insert.Reads as idset-insert
use Rattle.idset.proofs.IdSet.remove.Reads as idset-remove
use Rattle.idset.proofs.IdSet.union.Reads as idset-union
use Rattle.idset.proofs.contains_in.Reads as idset-contains-in
use Rattle.idset.proofs.slices.insert_at.Reads as idset-insert-at
use Rattle.idset.proofs.slices.remove_at.Reads as idset-remove-at
use Rattle.idset.proofs.malformed_in.Reads as idset-malformed-in
use Rattle.idset.proofs.zero_from.Reads as idset-zero-from
use Rattle.idset.proofs.seek.Reads as idset-seek
use Rattle.idset.proofs.stands_at.Reads as idset-stands-at
use Rattle.idset.proofs.next_of.Reads as idset-next-of
use Rattle.idset.proofs.two_apart.Reads as idset-two-apart
use Rattle.idset.proofs.dimecandle_two_apart.Reads as idset-dimecandle-two-apart
use Rattle.tracker.proofs.Configuration.new.Reads as tracker-configuration-new
use Rattle.tracker.proofs.ChangeLog.new.Reads as tracker-log-new
use Rattle.tracker.proofs.ConfState.new.Reads as tracker-conf-state-new
use Rattle.tracker.proofs.Tracker.new.Reads as tracker-tracker-new
use Rattle.tracker.proofs.Configuration.is_malformed.Reads as tracker-configuration-is-malformed
use Rattle.tracker.proofs.ChangeLog.is_malformed.Reads as tracker-log-is-malformed
use Rattle.tracker.proofs.Tracker.is_malformed.Reads as tracker-tracker-is-malformed
use Rattle.tracker.proofs.MapChange.is_blank.Reads as tracker-is-blank
use Rattle.tracker.proofs.apply.apply_conf.Reads as tracker-apply-conf
use Rattle.tracker.proofs.Tracker.to_conf_state.Reads as tracker-to-conf-state
use Rattle.tracker.proofs.conf_state.ConfStateFromConfiguration.from.Reads as tracker-conf-state-from
use Rattle.tracker.proofs.conf_state.IdListFromIdSet.from.Reads as tracker-list-from
use Rattle.tracker.proofs.refusal.Refusal.number.Reads as tracker-number
use Rattle.tracker.proofs.refusal.Refusal.id.Reads as tracker-id
use Rattle.invariants.proofs.joint.Reads as invariants-joint
use Rattle.invariants.proofs.check_invariants.Reads as invariants-check-invariants
use Rattle.invariants.proofs.check_voters.Reads as invariants-check-voters
use Rattle.invariants.proofs.check_learners.Reads as invariants-check-learners
use Rattle.invariants.proofs.check_staged.Reads as invariants-check-staged
use Rattle.invariants.proofs.first_where.Reads as invariants-first-where
use Rattle.invariants.proofs.check.Reads as invariants-check
use Rattle.invariants.proofs.in_order.Reads as invariants-in-order
use Rattle.changes.proofs.apply.Reads as changes-apply
use Rattle.changes.proofs.change.Reads as changes-change
use Rattle.changes.proofs.push.Reads as changes-push
use Rattle.changes.proofs.pending.is_tracked.Reads as changes-is-tracked
use Rattle.changes.proofs.pending.tracked_in.Reads as changes-tracked-in
use Rattle.changes.proofs.table.KindFromU8.from.Reads as changes-kind-from
use Rattle.changes.proofs.table.Standing.of.Reads as changes-of
use Rattle.changes.proofs.table.Standing.next_move.Reads as changes-next-move
use Rattle.changes.proofs.table.Standing.is_incoming.Reads as changes-is-incoming
use Rattle.changes.proofs.table.Standing.is_learner.Reads as changes-is-learner
use Rattle.changes.proofs.table.Standing.is_staged.Reads as changes-is-staged
use Rattle.changer.proofs.simple.Reads as changer-simple
use Rattle.changer.proofs.enter_joint.Reads as changer-enter-joint
use Rattle.changer.proofs.leave_joint.Reads as changer-leave-joint
use Rattle.restore.proofs.restore.Reads as restore-restore
use Rattle.restore.proofs.restore_step_by_step.Reads as restore-restore-step-by-step
use Rattle.restore.proofs.apply_answer.Reads as restore-apply-answer
use Rattle.restore.proofs.to_conf_change_single.Reads as restore-to-conf-change-single
use Rattle.unplug.specs.contracts.at_most as at-most
use Rattle.unplug.specs.contracts.at_most.F-Fn as at-most-word
use Rattle.unplug.proofs.at_most.Reads as unplug-at-most
use Rattle.unplug.proofs.unplug.Reads as unplug-unplug
use Rattle.demands.proofs.Walked.{contains_says, view_says}

-- P is a contract: it speaks of lifetimes, arguments, the result, and the parameters at exit. Of the same arguments it allows one result.
abbrev pub Settles : {K : Type 0} {A Z E : K → Type 0} → ((κs : K) → A κs → Z κs → E κs → Type 0) → Type 0
Settles {K} {A} {Z} {E} P = (κs : K) (a : A κs) (z y : Z κs) (e d : E κs) → P κs a z e → P κs a y d → z ≡ y

-- and one value that is left of what is lent; `left` finds it among the parameters at exit
abbrev pub SettlesLeft : {K : Type 0} {A Z E : K → Type 0} {B : Type 0} → ((κs : K) → A κs → Z κs → E κs → Type 0) → ((κs : K) → E κs → B) → Type 0
SettlesLeft {K} {A} {Z} {E} P left = (κs : K) (a : A κs) (z y : Z κs) (e d : E κs) → P κs a z e → P κs a y d → (z ≡ y) × (left κs e ≡ left κs d)

-- an equation allows one result
pub equation : {A : Type 0} {v : A} (z y : A) → z ≡ v → y ≡ v → z ≡ y
equation z y h k = h ∙ sym k

-- ** progress

pub record Progresses : Type 0 where
  pub fresh : Settles progress-fresh.Learnt
  pub unused : Settles progress-unused.Learnt
  pub is_unused : Settles progress-is-unused.Learnt
  pub is_default : Settles progress-is-default.Learnt

pub progress : Progresses
progress = search equation

-- ** idset

-- an answer and the set that is left are known by what they say together
inserts : (z y : Result Bool Full) {s t : IdSet} {v : Inserted} → inserted s z ≡ v → inserted t y ≡ v → (z ≡ y) × (s ≡ t)
inserts (Ok b) (Ok c) h k = let e = h ∙ sym k in (ap (λ (i : Inserted). Ok i.changed) e, ap (λ (i : Inserted). i.set) e)
inserts (Ok b) (Err g) h k = absurd (true≢false (sym (ap (λ (i : Inserted). i.full) (h ∙ sym k))))
inserts (Err f) (Ok c) h k = absurd (true≢false (ap (λ (i : Inserted). i.full) (h ∙ sym k)))
inserts (Err f) (Err g) h k = (refl, ap (λ (i : Inserted). i.set) (h ∙ sym k))

removes : (z y : Bool) {s t : IdSet} {v : Removed} → removed s z ≡ v → removed t y ≡ v → (z ≡ y) × (s ≡ t)
removes z y h k = let e = h ∙ sym k in (ap (λ (i : Removed). i.changed) e, ap (λ (i : Removed). i.set) e)

unites : (s : IdSet) (z y : Result IdSet Full) {v : United} → united s z ≡ v → united s y ≡ v → z ≡ y
unites s (Ok b) (Ok c) h k = ap (λ (i : United). Ok i.set) (h ∙ sym k)
unites s (Ok b) (Err g) h k = absurd (true≢false (sym (ap (λ (i : United). i.full) (h ∙ sym k))))
unites s (Err f) (Ok c) h k = absurd (true≢false (ap (λ (i : United). i.full) (h ∙ sym k)))
unites s (Err f) (Err g) h k = refl

pub record Sets : Type 0 where
  pub new : Settles idset-new.Learnt
  pub is-malformed : Settles idset-is-malformed.Learnt
  -- two slices with the same ids; where they stand is not said
  pub as-slice : (κs : _) (a : _) (z y : _) (e d : _) → idset-as-slice.Learnt κs a z e → idset-as-slice.Learnt κs a y d → z.now ≡ y.now
  pub is_empty : Settles idset-is-empty.Learnt
  pub contains : Settles idset-contains.Learnt
  pub insert : SettlesLeft idset-insert.Learnt (λ κs e. e.0.now)
  pub remove : SettlesLeft idset-remove.Learnt (λ κs e. e.0.now)
  pub union : Settles idset-union.Learnt
  pub contains_in : Settles idset-contains-in.Learnt
  pub malformed_in : Settles idset-malformed-in.Learnt
  pub zero_from : Settles idset-zero-from.Learnt
  pub seek : Settles idset-seek.Learnt
  pub stands_at : Settles idset-stands-at.Learnt
  pub next_of : Settles idset-next-of.Learnt
  pub two_apart : Settles idset-two-apart.Learnt
  pub dimecandle_two_apart : Settles idset-dimecandle-two-apart.Learnt

pub idset : Sets
idset = search (equation, inserts, removes, unites)

-- of elements of every type
pub record Slices : Type 2 where
  pub insert-at : (T : RattleType) (L : Laws T) (C : IsCopy T) (G : Ghosts T.Denot) (d : Dict) → SettlesLeft (idset-insert-at.Learnt T L C G d) (λ κs e. e.0.now)
  pub remove-at : (T : RattleType) (L : Laws T) (C : IsCopy T) (G : Ghosts T.Denot) (d : Dict) → SettlesLeft (idset-remove-at.Learnt T L C G d) (λ κs e. e.0.now)

pub slices : Slices
slices = record {
  insert-at = λ T L C G d κs a z y e f h k. (refl, equation _ _ h k);
  remove-at = λ T L C G d κs a z y e f h k. (refl, equation _ _ h k);
}

-- ** tracker

-- an answer, and the tracker that is left
leaves : (z y : Result (Unit {0}) Refusal) {t u : Tracker} {v : Outcome} → outcome_left t z ≡ v → outcome_left u y ≡ v → (z ≡ y) × (t ≡ u)
leaves = left_once unit_once

pub record Trackers : Type 0 where
  pub configuration_new : Settles tracker-configuration-new.Learnt
  pub log-new : Settles tracker-log-new.Learnt
  pub conf-state-new : Settles tracker-conf-state-new.Learnt
  pub tracker_new : Settles tracker-tracker-new.Learnt
  pub configuration_is_malformed : Settles tracker-configuration-is-malformed.Learnt
  pub log-is-malformed : Settles tracker-log-is-malformed.Learnt
  pub tracker_is_malformed : Settles tracker-tracker-is-malformed.Learnt
  pub is-blank : Settles tracker-is-blank.Learnt
  pub apply-conf : SettlesLeft tracker-apply-conf.Learnt (λ κs e. e.0.now)
  pub to-conf-state : Settles tracker-to-conf-state.Learnt
  pub conf-state-from : Settles tracker-conf-state-from.Learnt
  pub list-from : Settles tracker-list-from.Learnt
  pub number : Settles tracker-number.Learnt
  pub id : Settles tracker-id.Learnt

pub tracker : Trackers
tracker = search (equation, leaves, written_once)

-- ** invariants

says : (z y : Result (Unit {0}) Refusal) {v : rules.Verdict} → said z ≡ v → said y ≡ v → z ≡ y
says = said_once unit_once

tells : (z y : Result (Unit {0}) Refusal) {v : Verdict} → verdict_of (said z) ≡ v → verdict_of (said y) ≡ v → z ≡ y
tells = verdict_once unit_once

pub record Invariants : Type 0 where
  pub joint : Settles invariants-joint.Learnt
  pub check_invariants : Settles invariants-check-invariants.Learnt
  pub check-voters : Settles invariants-check-voters.Learnt
  pub check-learners : Settles invariants-check-learners.Learnt
  pub check-staged : Settles invariants-check-staged.Learnt
  pub first_where : Settles invariants-first-where.Learnt
  pub check : Settles invariants-check.Learnt
  pub in_order : Settles invariants-in-order.Learnt

pub invariants : Invariants
invariants = search (equation, says, tells)

-- ** changes

pub record Changes : Type 0 where
  pub apply : SettlesLeft changes-apply.Learnt (λ κs e. e.0.now)
  pub change : SettlesLeft changes-change.Learnt (λ κs e. e.0.now)
  pub push : SettlesLeft changes-push.Learnt (λ κs e. e.0.now)
  pub view : Settles view_says
  pub contains : Settles contains_says
  pub is-tracked : Settles changes-is-tracked.Learnt
  pub tracked_in : Settles changes-tracked-in.Learnt
  pub kind-from : Settles changes-kind-from.Learnt
  pub of : Settles changes-of.Learnt
  pub next-move : Settles changes-next-move.Learnt
  pub is-incoming : Settles changes-is-incoming.Learnt
  pub is-learner : Settles changes-is-learner.Learnt
  pub is-staged : Settles changes-is-staged.Learnt

viewed : Settles view_says
viewed κs a z y e d h k = λ i. record { base = equation z.base y.base h.0 k.0 i; count = equation z.count y.count h.1 k.1 i }

pub changes : Changes
changes = record {
  apply = λ κs a z y e d h k. (equation z y h.1 k.1, equation _ _ h.0 k.0);
  change = λ κs a z y e d h k. (equation z y h.1 k.1, equation _ _ h.0 k.0);
  push = λ κs a z y e d h k. (refl, equation _ _ h k);
  view = viewed;
  contains = search equation;
  is-tracked = search equation;
  tracked_in = search equation;
  kind-from = search equation;
  of = search equation;
  next-move = search equation;
  is-incoming = search equation;
  is-learner = search equation;
  is-staged = search equation;
}

-- ** changer and restore

pub record Calls : Type 0 where
  pub simple : Settles changer-simple.Learnt
  pub enter-joint : Settles changer-enter-joint.Learnt
  pub leave-joint : Settles changer-leave-joint.Learnt
  pub restore : SettlesLeft restore-restore.Learnt (λ κs e. e.0.now)
  pub restore-step-by-step : SettlesLeft restore-restore-step-by-step.Learnt (λ κs e. e.0.now)
  pub apply-answer : SettlesLeft restore-apply-answer.Learnt (λ κs e. e.0.now)
  pub to-conf-change-single : Settles restore-to-conf-change-single.Learnt
  pub unplug : Settles unplug-unplug.Learnt

-- two variants, and what they hold
ok_once : {A B : Type 0} {a b : A} → ◌≡◌ {A = Result A B} (Ok a) (Ok b) → a ≡ b
ok_once e = cc

err_once : {A B : Type 0} {a b : B} → ◌≡◌ {A = Result A B} (Err a) (Err b) → a ≡ b
err_once e = cc

ok_err : {A B : Type 0} {a : A} {b : B} → ◌≡◌ {A = Result A B} (Ok a) (Err b) → ⊥
ok_err e = cc

-- an answer of unplug is known by its number and id, and where there is none by why
unplugs : (z y : Result (Result (Unit {0}) Refusal) Unfit) {v : Result Verdict Unfit} → told-unplug z ≡ v → told-unplug y ≡ v → z ≡ y
unplugs (Ok r) (Ok q) h k = ap Ok (verdict_once unit_once r q (ok_once (h ∙ sym k)) refl)
unplugs (Ok r) (Err f) h k = absurd (ok_err (h ∙ sym k))
unplugs (Err e) (Ok q) h k = absurd (ok_err (k ∙ sym h))
unplugs (Err e) (Err f) h k = ap Err (err_once (h ∙ sym k))

pub calls : Calls
calls = record {
  simple = λ κs a z y e d. answered_once _ z y;
  enter-joint = λ κs a z y e d. answered_once _ z y;
  leave-joint = λ κs a z y e d. answered_once _ z y;
  restore = search leaves;
  restore-step-by-step = search leaves;
  to-conf-change-single = λ κs a z y e d h k. equation z y h.is k.is;
  apply-answer = search leaves;
  unplug = λ κs a z y e d. unplugs z y;
}

-- ** unplug, of words that a closure gives, the same at every time

pub record Given : Type 2 where
  pub at-most : (T : RattleType) (L : Laws T) (G : at-most-word.Ghosts T) (b c d e : Dict) (f : ℕ → ℕ)
      → Settles (λ κs a z x. ((i r : ℕ) → at-most.F-post T G b c d e a.0 i r → r ≡ f i) × unplug-at-most.Learnt T L G b c d e κs a z x)

pub given : Given
given = record {
  at-most = λ T L G b c d e f κs a z y x w h k. equation z y (h.1 f h.0) (k.1 f k.0);
}
