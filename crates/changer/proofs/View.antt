-- The check again is asked of a copy of the tracked ids with the log over them: an id is in the copy where the pending view answers that it is tracked.
-- Assumes nothing.
use Prim.Native.Nat.{ℕ, ◌≤◌}
use mathlib.Core.Path.{◌≡◌, refl, ap, ◌∙◌, sym}
use mathlib.Core.Bool.{Bool, true, false, ◌||◌, cond}
use mathlib.Core.List.{List, [], ◌∷◌}
use native.Mathlib.Omega.{arith}
use borrow.Author.Tests.{eqb-false}
use lib.ListN.{length}
use Rattle.progress.specs.Record.{unused_record}
use Rattle.rules.specs.Ids.{is_empty, memb}
use Rattle.rules.specs.State.{Entry, State, ids}
use Rattle.rules.specs.Answers.{Verdict, fault, ok, refuse, ◌▸◌}
use Rattle.rules.specs.Apply.{room}
use Rattle.rules.specs.Changes.{Work, pending}
use Rattle.rules.specs.Check.{joint}
use Rattle.rules.specs.Calls.{entering, readable, removals}
use Rattle.rules.proofs.Accept.{fine_enter, fine_start}
use Rattle.rules.proofs.Changes.{last_says_lem}
use Rattle.rules.proofs.Check.{refuse-ok, then_left, then_right}
use Rattle.rules.proofs.Demand3.{length_list}
use Rattle.rules.proofs.Formed.{Set, whole_of}
use Rattle.rules.proofs.Steps.{Checked, length-removals}
use Rattle.idset.specs.Places.{first_is}
use Rattle.idset.specs.Set.{held, set_of}
use Rattle.idset.specs.declared.IdSet.{IdSet}
use Rattle.idset.proofs.Bridge.{held-few, held-set}
use Rattle.tracker.specs.Apply.{number_of, verdict_of}
use Rattle.tracker.specs.Bridge.{change_log_of, log_of, state_of}
use Rattle.tracker.specs.Form.{tracker_well_formed}
use Rattle.tracker.specs.declared.ChangeLog.{ChangeLog}
use Rattle.tracker.specs.declared.Tracker.{Tracker}
use Rattle.tracker.proofs.Bridge.{conf-sets, log_back, tracker_formed, tracker_parts}
use Rattle.invariants.specs.Walk.{past}
use Rattle.invariants.proofs.Faults.{Numbered, numbered-refuse, numbered_then}
use Rattle.changes.specs.Pending.{tracked_in}
use Rattle.changer.specs.Before.{formed_then, may_enter, may_simple, own_check}
use Rattle.changer.specs.Stages.{carried_in, entering_in, gone_walk, learners_after, leaving_in, pending_in}
use Rattle.changer.proofs.Verdicts.{read-few, readable-numbered}
use Rattle.changer.proofs.Pending.{pending_in_lem, pending-set, room-removals}
use Rattle.changer.proofs.Carried.{carried-log}
use Rattle.changer.proofs.Same.{checked, own_check_lem, own_numbered, same-conf, same-tracked}

-- every id is in the copy where the view answers that it is tracked
abbrev pub Alike : IdSet → ChangeLog → Type 0
Alike tracked log = (x : ℕ) → memb x (held (pending_in (log_of log) tracked)) ≡ tracked_in (held tracked) log.count log x

-- where there is room for the log
pub room_alike : (tracked : IdSet) (base : List ℕ) → tracked ≡ set_of base → Set base → (log : List Entry) → length log ≤ 256 → room log base ≡ ok → Alike tracked (change_log_of log)
room_alike tracked base e s log short fits x =
    let u : Set (pending log base) = pending-set log base s fits in
    rw (log_back log short, e, pending_in_lem log base s fits, held-set (pending log base) u.few, held-set base s.few) (sym (last_says_lem x log base s.rises))

-- no more are gone than were outgoing
gone-few : (xs is ls : List ℕ) → length (gone_walk xs is ls) ≤ length xs
unfolding gone_walk
gone-few [] is ls = omega arith
gone-few (x ∷ xs) is ls = go (first_is x (past x is) || first_is x (past x ls)) (gone-few xs (past x is) (past x ls))
  where
    rest : List ℕ
    rest = gone_walk xs (past x is) (past x ls)

    go : (b : Bool) → length rest ≤ length xs → length (cond b rest (x ∷ rest)) ≤ length (x ∷ xs)
    go true h = omega arith
    go false h = omega arith

-- ** The calls

module _ (t : Tracker) where
  abbrev s : State
  s = state_of t

  -- tests that were passed: the state is well formed, and they found nothing
  passed : (v : Verdict) → Numbered v → (formed_then t v).number ≡ 0 → (tracker_well_formed t ≡ true) × (v ≡ ok)
  unfolding Numbered
  passed v n = go (tracker_well_formed t) refl
    where
      none : (v : Verdict) → Numbered v → number_of v ≡ 0 → v ≡ ok
      none ok n h = refl
      none (fault m x) n h = absurd (eqb-false m 0 n h)

      go : (b : Bool) → tracker_well_formed t ≡ b → (cond b (verdict_of v) (verdict_of (fault 1 0))).number ≡ 0 → (tracker_well_formed t ≡ true) × (v ≡ ok)
      go true w h = (w, none v n h)
      go false w h = absurd (omega arith)

  module _ (w : tracker_well_formed t ≡ true) where
    tracked : Set (ids s.peers)
    tracked = (whole_of s (tracker_formed t w)).tracked

    -- the log of a list that was carried out
    done_alike : (log : ChangeLog) (v : Work) → log ≡ change_log_of v.log → length v.log ≤ 256 → room v.log (ids s.peers) ≡ ok → Alike t.ids log
    done_alike log v e short fits = rw e (room_alike t.ids (ids s.peers) (same-tracked t w) tracked v.log short fits)

    pub leave_alike : Alike t.ids (leaving_in t.conf).log
    leave_alike =
        let gone : List ℕ = gone_walk (held t.conf.outgoing) (held t.conf.incoming) (held (learners_after t.conf)) in
        room_alike t.ids (ids s.peers) (same-tracked t w) tracked (removals gone)
        (omega (arith, length-removals gone, gone-few (held t.conf.outgoing) (held t.conf.incoming) (held (learners_after t.conf)), held-few _ (conf-sets t.conf (tracker_parts t w).conf).outgoing))
        (room-removals gone (ids s.peers))

  module _ (xs ks : List ℕ) where
    abbrev reads : Verdict
    reads = readable xs ks

    -- 4 or 6, and 15
    abbrev single : ℕ → Verdict
    single n = refuse (joint s.conf) n 0

    abbrev voters : Verdict
    voters = refuse (is_empty s.conf.incoming) 15 0

    pub simple_alike : (may_simple t xs ks).number ≡ 0 → (carried_in t.ids t.conf xs ks).number ≡ 0 → Alike t.ids (carried_in t.ids t.conf xs ks).log
    simple_alike h k = go p.0 p.1
      where
        p : (tracker_well_formed t ≡ true) × (reads ▸ single 6 ▸ own_check t ≡ ok)
        p = passed (reads ▸ single 6 ▸ own_check t)
            (numbered_then reads (single 6 ▸ own_check t) (readable-numbered xs ks) (numbered_then (single 6) (own_check t) (numbered-refuse (joint s.conf) 6 0 refl) (own_numbered t))) h

        go : tracker_well_formed t ≡ true → reads ▸ single 6 ▸ own_check t ≡ ok → Alike t.ids (carried_in t.ids t.conf xs ks).log
        go w q =
            let rest : single 6 ▸ own_check t ≡ ok = then_right reads (single 6 ▸ own_check t) q in
            let j : joint s.conf ≡ false = refuse-ok (joint s.conf) 6 0 (then_left (single 6) (own_check t) rest) in
            let o : Checked s = checked t w (sym (own_check_lem t w) ∙ then_right (single 6) (own_check t) rest) j in
            let short : length xs ≤ 256 = read-few xs ks (then_left reads (single 6 ▸ own_check t) q) in
            let c = carried-log s.conf (fine_start s o unused_record j) t.conf (same-conf t w) t.ids (same-tracked t w) xs ks short k in
            done_alike w (carried_in t.ids t.conf xs ks).log c.0 c.1 (omega (arith, c.2.short, length_list xs ks)) c.2.fine.fits

    pub enter_alike : (may_enter t xs ks).number ≡ 0 → (carried_in t.ids (entering_in t.conf) xs ks).number ≡ 0 → Alike t.ids (carried_in t.ids (entering_in t.conf) xs ks).log
    enter_alike h k = go p.0 p.1
      where
        p : (tracker_well_formed t ≡ true) × (reads ▸ single 4 ▸ own_check t ▸ voters ≡ ok)
        p = passed (reads ▸ single 4 ▸ own_check t ▸ voters)
            (numbered_then reads (single 4 ▸ own_check t ▸ voters) (readable-numbered xs ks)
            (numbered_then (single 4) (own_check t ▸ voters) (numbered-refuse (joint s.conf) 4 0 refl)
            (numbered_then (own_check t) voters (own_numbered t) (numbered-refuse (is_empty s.conf.incoming) 15 0 refl)))) h

        go : tracker_well_formed t ≡ true → reads ▸ single 4 ▸ own_check t ▸ voters ≡ ok → Alike t.ids (carried_in t.ids (entering_in t.conf) xs ks).log
        go w q =
            let rest : single 4 ▸ own_check t ▸ voters ≡ ok = then_right reads (single 4 ▸ own_check t ▸ voters) q in
            let j : joint s.conf ≡ false = refuse-ok (joint s.conf) 4 0 (then_left (single 4) (own_check t ▸ voters) rest) in
            let own : own_check t ≡ ok = then_left (own_check t) voters (then_right (single 4) (own_check t ▸ voters) rest) in
            let o : Checked s = checked t w (sym (own_check_lem t w) ∙ own) j in
            let short : length xs ≤ 256 = read-few xs ks (then_left reads (single 4 ▸ own_check t ▸ voters) q) in
            let c = carried-log (entering s.conf) (fine_enter s o unused_record j) (entering_in t.conf) (ap entering_in (same-conf t w)) t.ids (same-tracked t w) xs ks short k in
            done_alike w (carried_in t.ids (entering_in t.conf) xs ks).log c.0 c.1 (omega (arith, c.2.short, length_list xs ks)) c.2.fine.fits
