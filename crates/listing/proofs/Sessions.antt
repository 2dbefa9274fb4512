-- A replay in a struct is the replay of specs/Script.antt: the beginning, what a record shows, and what it leaves. Assumes nothing.
use Prim.Native.Nat.{ℕ, suc, ◌+◌, ◌≤◌, ◌<◌, min}
use mathlib.Core.Path.{◌≡◌, refl, ap, ◌∙◌}
use mathlib.Core.Bool.{Bool, true, false, ◌&&◌, ◌||◌, not, cond}
use mathlib.Core.List.{List, [], ◌∷◌, ◌++◌}
use native.Mathlib.Numerals.{add-one}
use native.Mathlib.Omega.{arith}
use borrow.Author.Tests.{eqb-true, leb-false, lt-leb}
use lib.Dec.{eqb, leb, ltb}
use lib.ListN.{length, take, set, length-set, length-replicate}
use lib.Seq.{length-take-le, take-suc-set}
use Rattle.rules.specs.Ids.{is_empty, ascending}
use Rattle.rules.specs.State.{State, fresh, formed, conf_formed, ids}
use Rattle.rules.specs.Answers.{Answer, refused}
use Rattle.rules.specs.Calls.{simple, enter_joint, leave_joint}
use Rattle.rules.specs.Idle.{enter_idles, simple_idles}
use Rattle.rules.specs.Restore.{apply_answer}
use Rattle.text.specs.Put.{last}
use Rattle.tracker.specs.Bridge.{state_of}
use Rattle.tracker.specs.Form.{tracker_well_formed}
use Rattle.tracker.specs.Apply.{Outcome}
use Rattle.tracker.proofs.Bridge.{state-back, tracker_well, tracker_formed}
use Rattle.changer.specs.Calls.{answer_of, simple_answer, enter_answer, leave_answer}
use Rattle.changer.specs.Calls as changer
use Rattle.restore.specs.Restore.{applied_to}
use Rattle.restore.proofs.Applied.{Fits, applied-formed, applied-same, outcome-formed}
use Rattle.listing.specs.Script as script
use Rattle.listing.specs.Script.{begin, is_change, stops, answer_to, after}
use Rattle.listing.specs.Listing.{shown}
use Rattle.listing.specs.Sessions.{session_of, begin_in, pend_in, answer_in, applied_in, after_in, shown_in}
use Rattle.listing.specs.declared.Session.{Session}
use Rattle.listing.proofs.Cases.{either, cond-swap, cond_same}
use Rattle.listing.proofs.Answers.{answer-fits, text_same}

-- the state is well formed, and at most 256 changes are pending, in as many places
pub record Good (z : Session) : Type 0 where
  pub well : tracker_well_formed z.tracker ≡ true
  pub ids : length z.ids ≡ 256
  pub kinds : length z.kinds ≡ 256
  pub few : z.len ≤ 256

-- ** The beginning

pub fresh-formed : formed (fresh 256) ≡ true
unfolding formed conf_formed ascending ids
fresh-formed = refl

pub begin_good : Good begin_in
begin_good =
    record {
      well = tracker_well (fresh 256) fresh-formed;
      ids = length-replicate {A = ℕ} 256 0;
      kinds = length-replicate {A = ℕ} 256 0;
      few = omega arith;
    }

pub begin-same : session_of begin_in ≡ begin
begin-same = rw (state-back (fresh 256) fresh-formed)

-- a change that does not end the listing finds room
room : (y : script.Session) (kind : ℕ) → stops y kind ≡ false → is_change kind ≡ true → length y.ids < 256
unfolding stops
room y kind h c = either (leb 256 (length y.ids)) (λ e. absurd (go (ltb 6 kind) (rw (c, e) at h))) (λ e. leb-false 256 (length y.ids) e)
  where
    go : (a : Bool) → a || true || (eqb kind 6 && not (is_empty y.ids)) ≡ false → ⊥
    go true k = let z : ◌≡◌ {A = ℕ} 0 1 = cc in omega arith
    go false k = let z : ◌≡◌ {A = ℕ} 0 1 = cc in omega arith

-- ** What a record is answered

module _ (z : Session) (kind : ℕ) where
  abbrev pub told : Answer
  told = answer_to (session_of z) kind

  -- how many entries did nothing; the listing does not show it
  abbrev pub idle : ℕ
  idle =
      let s : State = state_of z.tracker in
      let xs : List ℕ = take z.len z.ids in
      let ks : List ℕ = take z.len z.kinds in
      cond (eqb kind 3) (simple_idles s xs ks) (cond (eqb kind 6) 0 (enter_idles s (eqb kind 5) xs ks))

  pub answer-same : tracker_well_formed z.tracker ≡ true → answer_in z kind ≡ answer_of z.tracker.conf idle told
  unfolding answer_in answer_to simple_answer enter_answer leave_answer
  answer-same w =
      let s : State = state_of z.tracker in
      let xs : List ℕ = take z.len z.ids in
      let ks : List ℕ = take z.len z.kinds in
      rw w (cond-swap (answer_of z.tracker.conf) 0 (simple_idles s xs ks) (enter_idles s (eqb kind 5) xs ks) (leave_joint s) (simple s xs ks) (enter_joint s (eqb kind 5) xs ks) (eqb kind 6) (eqb kind 3)
      (λ a b. omega (arith, eqb-true kind 6 a, eqb-true kind 3 b)))

  pub answer_ill : tracker_well_formed z.tracker ≡ false → answer_in z kind ≡ answer_of z.tracker.conf 0 (refused 1 0)
  unfolding answer_in simple_answer enter_answer leave_answer
  answer_ill w = rw w (cond_same (answer_of z.tracker.conf 0 (refused 1 0)) (eqb kind 6) (eqb kind 3))

  pub told-fits : tracker_well_formed z.tracker ≡ true → (n : ℕ) → Fits (state_of z.tracker) n told
  told-fits w n = answer-fits (session_of z) (tracker_formed z.tracker w) kind n

-- ** A record of a good replay

module _ (z : Session) (g : Good z) (kind : ℕ) where
  fits : (n : ℕ) → Fits (state_of z.tracker) n (told z kind)
  fits = told-fits z kind g.well

  pub shown-same : z.printed < last → shown_in z kind ≡ shown (session_of z) kind
  unfolding shown_in shown
  shown-same h =
      let e : min (z.printed + 1) last ≡ suc z.printed = omega arith in
      rw (e, answer-same z kind g.well, text_same (state_of z.tracker) 0 z.tracker.conf (idle z kind) (told z kind) (fits 0) (suc z.printed))

  module _ (n : ℕ) where
    -- a change more
    module _ (h : z.len < 256) where
      pend_is : pend_in z kind n ≡ record { tracker = z.tracker; ids = set z.ids z.len n; kinds = set z.kinds z.len kind; len = z.len + 1; printed = z.printed }
      unfolding pend_in
      pend_is = rw (lt-leb 256 z.len h)

      pend_good : Good (pend_in z kind n)
      pend_good =
          rw pend_is (record {
            well = g.well;
            ids = length-set z.ids z.len n ∙ g.ids;
            kinds = length-set z.kinds z.len kind ∙ g.kinds;
            few = omega arith;
          })

      longer : (l : List ℕ) (x : ℕ) → length l ≡ 256 → take (z.len + 1) (set l z.len x) ≡ take z.len l ++ (x ∷ [])
      longer l x e = rw (add-one, take-suc-set l z.len x (omega arith))

      pend_same : session_of (pend_in z kind n) ≡ record { state = state_of z.tracker; ids = take z.len z.ids ++ (n ∷ []); kinds = take z.len z.kinds ++ (kind ∷ []); printed = z.printed }
      pend_same = rw (pend_is, longer z.ids n g.ids, longer z.kinds kind g.kinds)

    -- an answer applied
    applied_good : Good (applied_in z (answer_in z kind) n)
    unfolding applied_in
    applied_good =
        record {
          well = rw (answer-same z kind g.well) (outcome-formed z.tracker g.well n (idle z kind) (told z kind) (fits n));
          ids = length-replicate {A = ℕ} 256 0;
          kinds = length-replicate {A = ℕ} 256 0;
          few = omega arith;
        }

    state-same : state_of (applied_to z.tracker (answer_in z kind) n).tracker ≡ (apply_answer (state_of z.tracker) n (told z kind)).state
    state-same =
        ap (λ (a : changer.Answer). state_of (applied_to z.tracker a n).tracker) (answer-same z kind g.well)
        ∙ ap (λ (o : Outcome). state_of o.tracker) (applied-same z.tracker g.well n (idle z kind) (told z kind) (fits n))
        ∙ state-back (apply_answer (state_of z.tracker) n (told z kind)).state (applied-formed (state_of z.tracker) n (tracker_formed z.tracker g.well) (told z kind) (fits n))

    applied_session : z.printed < last → session_of (applied_in z (answer_in z kind) n) ≡ record { state = (apply_answer (state_of z.tracker) n (told z kind)).state; ids = []; kinds = []; printed = suc z.printed }
    unfolding applied_in
    applied_session h =
        let e : min (z.printed + 1) last ≡ suc z.printed = omega arith in
        rw (e, state-same)

    module _ (h : stops (session_of z) kind ≡ false) where
      fewer : is_change kind ≡ true → z.len < 256
      fewer c = omega (arith, room (session_of z) kind h c, length-take-le z.len z.ids (omega (arith, g.few, g.ids)))

      pub after_good : Good (after_in z kind n)
      unfolding after_in
      after_good = either (is_change kind) (λ c. rw c (pend_good (fewer c))) (λ c. rw c applied_good)

      pub after_same : z.printed < last → session_of (after_in z kind n) ≡ after (session_of z) kind n
      unfolding after_in after
      after_same p = either (is_change kind) (λ c. rw c (pend_same (fewer c))) (λ c. rw c (applied_session p))

-- a record prints at most a line
pub after-count : (z : Session) (kind n : ℕ) → (after_in z kind n).printed ≤ z.printed + 1
unfolding after_in pend_in applied_in
after-count z kind n =
    either (is_change kind) (λ c. either (leb 256 z.len) (λ e. rw (c, e) (omega arith)) (λ e. rw (c, e) (omega arith))) (λ c. rw c (omega arith))
