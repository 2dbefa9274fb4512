-- What each branch of the functions answers. Assumes nothing.
use Prim.Native.Nat.{ℕ, ◌≤◌}
use mathlib.Core.Path.{◌≡◌, refl, ap, ◌∙◌, sym}
use mathlib.Core.Bool.{Bool, true, false, ◌||◌, not}
use mathlib.Core.List.{List, [], ◌∷◌, ◌++◌}
use native.Mathlib.Omega.{arith}
use borrow.Author.Tests.{le-leb, ltb-false, not-true, not-false}
use lib.Dec.{ltb}
use lib.ListN.{length, length-take}
use Rattle.std.specs.List.{list_any}
use Rattle.std.specs.Prelude.{Result, Ok, Err}
use Rattle.rules.specs.Ids.{is_empty}
use Rattle.rules.specs.State.{Change, add_learner, add_node}
use Rattle.rules.specs.Answers.{ok}
use Rattle.rules.specs.Restore as rules
use Rattle.rules.specs.Restore.{Step, all, enter_step, one_by_one, restorable, restore_steps, short, simple_step, wanted}
use Rattle.rules.proofs.Demand3.{all_short}
use Rattle.rules.proofs.Sets.{or_left, or_right}
use Rattle.tracker.specs.Apply.{Outcome, apply_of, outcome_left, refused_of}
use Rattle.tracker.specs.Bridge.{entries_in, lists_of, state_of}
use Rattle.tracker.specs.Form.{tracker_well_formed}
use Rattle.tracker.specs.declared.ConfState.{ConfState}
use Rattle.tracker.specs.declared.IdList.{IdList}
use Rattle.tracker.specs.declared.Tracker.{Tracker}
use Rattle.tracker.proofs.Bridge.{tracker_formed}
use Rattle.tracker.specs.declared.refusal.Refusal.{Refusal}
use Rattle.changer.specs.Calls.{Answer, answered, enter_answer}
use Rattle.changer.specs.declared.Changed.{Changed}
use Rattle.changer.proofs.Answered.{refused_number}
use Rattle.restore.specs.Restore.{applied_to, step_by_step_of, steps_of, too_long}
use Rattle.restore.specs.Steps.{Listed, entered, ids_in, joint_steps, kinds_in}
use Rattle.restore.specs.declared.Changes.{Changes}
use Rattle.restore.proofs.Steps.{enter_step_lem, steps-formed, steps_on, steps-stop}

-- ** apply_answer

module _ (t : Tracker) (next : ℕ) {a : Result Changed Refusal} where
  pub answer-refused : {q : Refusal} → a ≡ Err q → outcome_left t a ≡ applied_to t (answered t.conf a) next
  unfolding applied_to
  answer-refused {q} e = rw (e, refused_number q)

  pub answer-applied : {x : Changed} → a ≡ Ok x → {o : Outcome} → o ≡ apply_of t x.conf x.log next → o ≡ applied_to t (answered t.conf a) next
  unfolding applied_to
  answer-applied e h = h ∙ rw e

-- ** too_long

pub any_long : (cs : ConfState) {b : Bool}
    → b ≡ list_any (λ n. ltb 64 n) (cs.voters.len ∷ cs.learners.len ∷ cs.voters_outgoing.len ∷ cs.learners_next.len ∷ []) → b ≡ too_long cs
unfolding too_long
any_long cs e = e ∙ go (ltb 64 cs.voters.len) (ltb 64 cs.learners.len) (ltb 64 cs.voters_outgoing.len) (ltb 64 cs.learners_next.len)
  where
    go : (v l o n : Bool) → v || (l || (o || (n || false))) ≡ v || l || o || n
    go true l o n = refl
    go false true o n = refl
    go false false true n = refl
    go false false false true = refl
    go false false false false = refl

-- none is too long
pub record Short (cs : ConfState) : Type 0 where
  pub voters : cs.voters.len ≤ 64
  pub learners : cs.learners.len ≤ 64
  pub outgoing : cs.voters_outgoing.len ≤ 64
  pub staged : cs.learners_next.len ≤ 64

pub not-long : (cs : ConfState) → too_long cs ≡ false → Short cs
unfolding too_long
not-long cs h =
    let v : Bool = ltb 64 cs.voters.len in
    let l : Bool = ltb 64 cs.learners.len in
    let o : Bool = ltb 64 cs.voters_outgoing.len in
    let n : Bool = ltb 64 cs.learners_next.len in
    let vlo : v || l || o ≡ false = or_left (v || l || o) n h in
    let vl : v || l ≡ false = or_left (v || l) o vlo in
    record {
      voters = ltb-false 64 cs.voters.len (or_left v l vl);
      learners = ltb-false 64 cs.learners.len (or_right v l vl);
      outgoing = ltb-false 64 cs.voters_outgoing.len (or_right (v || l) o vlo);
      staged = ltb-false 64 cs.learners_next.len (or_right (v || l || o) n h);
    }

-- ** Steps of one change each

one_append : (cs ds : List Change) → one_by_one (cs ++ ds) ≡ one_by_one cs ++ one_by_one ds
unfolding one_by_one
one_append [] ds = refl
one_append (c ∷ cs) ds = ap (λ (ps : List Step). simple_step (c ∷ []) ∷ ps) (one_append cs ds)

one-short : (cs : List Change) → all_short (one_by_one cs)
unfolding one_by_one
one-short [] = tt
one-short (c ∷ cs) = (omega arith, one-short cs)

-- the changes cs one by one, from a well-formed t: o
module _ (t : Tracker) (w : tracker_well_formed t ≡ true) (next : ℕ) (cs : List Change) {o : Outcome} (e : o ≡ steps_of t next (one_by_one cs)) where
  pub one-formed : tracker_well_formed o.tracker ≡ true
  one-formed = steps-formed t w next (one_by_one cs) (one-short cs) e

  pub one-stop : (o.number ≡ 0 → ⊥) → (ds : List Change) → o ≡ steps_of t next (one_by_one (cs ++ ds))
  one-stop z ds = steps-stop t w next (one_by_one cs) (one-short cs) e z (one_by_one ds) ∙ ap (steps_of t next) (sym (one_append cs ds))

  pub one_on : o.number ≡ 0 → (ds : List Change) → steps_of o.tracker next (one_by_one ds) ≡ steps_of t next (one_by_one (cs ++ ds))
  one_on z ds = steps_on t w next (one_by_one cs) (one-short cs) e z (one_by_one ds) ∙ ap (steps_of t next) (sym (one_append cs ds))

-- ** restore_single and restore_joint

module _ (t : Tracker) (w : tracker_well_formed t ≡ true) (cs : ConfState) (next : ℕ) where
  abbrev added : List Change
  added = all add_node (entries_in cs.voters)

  abbrev learning : List Change
  learning = all add_learner (entries_in cs.learners)

  abbrev staging : List Change
  staging = all add_learner (entries_in cs.learners_next)

  module _ {o : Outcome} (e : o ≡ steps_of t next (one_by_one added)) where
    pub single_1 : (o.number ≡ 0 → ⊥) → o ≡ steps_of t next (one_by_one (wanted (lists_of cs)))
    single_1 z = one-stop t w next added e z (learning ++ staging)

    pub single-formed : tracker_well_formed o.tracker ≡ true
    single-formed = one-formed t w next added e

    module _ (z : o.number ≡ 0) {p : Outcome} (f : p ≡ steps_of o.tracker next (one_by_one learning)) where
      pub single_2 : (p.number ≡ 0 → ⊥) → p ≡ steps_of t next (one_by_one (wanted (lists_of cs)))
      single_2 y = one-stop o.tracker single-formed next learning f y staging ∙ one_on t w next added e z (learning ++ staging)

      pub single_formed_2 : tracker_well_formed p.tracker ≡ true
      single_formed_2 = one-formed o.tracker single-formed next learning f

      pub single_3 : p.number ≡ 0 → {q : Outcome} → q ≡ steps_of p.tracker next (one_by_one staging) → q ≡ steps_of t next (one_by_one (wanted (lists_of cs)))
      single_3 y g = g ∙ one_on o.tracker single-formed next learning f y staging ∙ one_on t w next added e z (learning ++ staging)

  abbrev removed : List Change
  removed = all add_node (entries_in cs.voters_outgoing)

  abbrev last : List Step
  last = enter_step cs.auto_leave (entered cs) ∷ []

  module _ {o : Outcome} (e : o ≡ steps_of t next (one_by_one removed)) where
    pub joint_1 : (o.number ≡ 0 → ⊥) → o ≡ steps_of t next (joint_steps cs)
    joint_1 z = steps-stop t w next (one_by_one removed) (one-short removed) e z last

    pub joint-formed : tracker_well_formed o.tracker ≡ true
    joint-formed = one-formed t w next removed e

    pub joint_2 : o.number ≡ 0 → {q : Outcome} → q ≡ steps_of o.tracker next last → q ≡ steps_of t next (joint_steps cs)
    joint_2 z g = g ∙ steps_on t w next (one_by_one removed) (one-short removed) e z last

  pub entered_once : (c : Changes) → Listed c (entered cs) → {a : Answer} → a ≡ enter_answer t cs.auto_leave (ids_in c) (kinds_in c) → {o : Outcome} → o ≡ applied_to t a next → o ≡ steps_of t next last
  entered_once c l e q =
      q ∙ ap (λ (a : Answer). applied_to t a next) e ∙ enter_step_lem t w next cs.auto_leave (ids_in c) (kinds_in c) l.reads
      ∙ ap (λ (ds : List Change). steps_of t next (enter_step cs.auto_leave ds ∷ [])) l.says

-- ** restore_step_by_step

fits : (l : IdList) → l.len ≤ 64 → short (entries_in l) ≡ true
fits l n = le-leb (length (entries_in l)) 64 (omega (arith, length-take l.len l.ids))

-- 1 and 2 are passed
module _ (t : Tracker) (w : tracker_well_formed t ≡ true) (cs : ConfState) (f : too_long cs ≡ false) (next : ℕ) where
  pub passed : restorable (state_of t) (lists_of cs) ≡ ok
  unfolding restorable
  passed =
      let s : Short cs = not-long cs f in
      rw (tracker_formed t w, fits cs.voters s.voters, fits cs.learners s.learners, fits cs.voters_outgoing s.outgoing, fits cs.learners_next s.staged)

  pub steps : (ps : List Step) → restore_steps (lists_of cs) ≡ ps → steps_of t next ps ≡ step_by_step_of t cs next
  unfolding step_by_step_of rules.restore_step_by_step
  steps ps e = rw (w, f, passed, e)

  module _ {b : Bool} (g : b ≡ is_empty (entries_in cs.voters_outgoing)) {o : Outcome} where
    pub steps_3 : b ≡ true → o ≡ steps_of t next (one_by_one (wanted (lists_of cs))) → o ≡ step_by_step_of t cs next
    unfolding restore_steps
    steps_3 z q = q ∙ steps (one_by_one (wanted (lists_of cs))) (rw (← g, z))

    pub steps_4 : b ≡ false → o ≡ steps_of t next (joint_steps cs) → o ≡ step_by_step_of t cs next
    unfolding restore_steps
    steps_4 z q = q ∙ steps (joint_steps cs) (rw (← g, z))

module _ (t : Tracker) (cs : ConfState) (next : ℕ) {o : Outcome} where
  pub steps_1 : tracker_well_formed t ≡ false → o ≡ refused_of t 1 0 → o ≡ step_by_step_of t cs next
  unfolding step_by_step_of
  steps_1 w q = q ∙ rw w

  pub steps_2 : tracker_well_formed t ≡ true → too_long cs ≡ true → o ≡ refused_of t 2 0 → o ≡ step_by_step_of t cs next
  unfolding step_by_step_of
  steps_2 w f q = q ∙ rw (w, f)

-- what the test of the state tells
pub well : (t : Tracker) {b : Bool} → b ≡ not (tracker_well_formed t) → b ≡ false → tracker_well_formed t ≡ true
well t e h = not-false (tracker_well_formed t) (sym e ∙ h)

pub ill : (t : Tracker) {b : Bool} → b ≡ not (tracker_well_formed t) → b ≡ true → tracker_well_formed t ≡ false
ill t e h = not-true (tracker_well_formed t) (sym e ∙ h)
