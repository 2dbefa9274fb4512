-- The calls stage by stage on structs are the rules' answers through the bridge, for every state and every list. Assumes nothing.
use Prim.Native.Nat.{ℕ}
use mathlib.Core.Path.{◌≡◌, refl, ap, ◌∙◌, sym}
use mathlib.Core.Bool.{Bool, true, false, not}
use mathlib.Core.List.{List}
use Rattle.rules.specs.Ids.{is_empty, memb}
use Rattle.rules.specs.State.{State, formed, ids}
use Rattle.rules.specs.Answers as rules
use Rattle.rules.specs.Answers.{Verdict, ok, refuse, ◌▸◌, ◌⇒◌}
use Rattle.rules.specs.Check.{check, is_tracked, joint}
use Rattle.rules.specs.Calls.{enter_joint, enter_of, entering, leave_joint, leave_of, list_of, readable, simple, simple_of, start}
use Rattle.rules.specs.Idle.{enter_idles, idles, simple_idles}
use Rattle.rules.proofs.Applied.{single-checked}
use Rattle.rules.proofs.Check.{refuse-ok, then_left, then_right}
use Rattle.rules.proofs.Formed.{Whole, whole_of}
use Rattle.rules.proofs.Steps.{Checked}
use Rattle.idset.specs.Set.{held, set_of}
use Rattle.idset.proofs.Bridge.{held_rises}
use Rattle.tracker.specs.Bridge.{conf_of, configuration_of, state_of}
use Rattle.tracker.specs.Form.{tracker_well_formed}
use Rattle.tracker.specs.declared.Tracker.{Tracker}
use Rattle.tracker.proofs.Bridge.{conf-formed, roster_set, rostered, tracked-ids, tracker_formed, tracker_parts, unit_conf}
use Rattle.invariants.proofs.Checks.{walk_checks}
use Rattle.invariants.proofs.Faults.{Numbered, numbered-refuse, numbered_then}
use Rattle.invariants.proofs.Parts.{check-numbered}
use Rattle.changer.specs.Calls.{enter_answer, if_formed, leave_answer, simple_answer}
use Rattle.changer.specs.Before.{own_check}
use Rattle.changer.specs.Stages.{enter_in, leave_in, simple_in}
use Rattle.changer.proofs.Verdicts.{count_same, read-few, readable-numbered, tested_same, tests_first, then_given}
use Rattle.changer.proofs.Outcomes.{enter_on, simple_on_lem}
use Rattle.changer.proofs.Left.{leave_on}

module _ (t : Tracker) where
  abbrev s : State
  s = state_of t

  -- the check of the state, as the rules say it
  abbrev checks : Verdict
  checks = check (is_tracked s) s.conf

  pub own_numbered : Numbered (own_check t)
  own_numbered = check-numbered (held t.ids) (conf_of t.conf)

  module _ (w : tracker_well_formed t ≡ true) where
    pub own_check_lem : own_check t ≡ checks
    own_check_lem =
        walk_checks (held t.ids) s.conf (held_rises t.ids (tracker_parts t w).ids) (conf-formed t.conf (tracker_parts t w).conf)
        ∙ ap (λ (l : List ℕ). check (λ x. memb x l) s.conf) (sym (tracked-ids t w))

    pub same-tracked : t.ids ≡ set_of (ids s.peers)
    same-tracked = sym (roster_set (rostered t w))

    pub same-conf : t.conf ≡ configuration_of s.conf
    same-conf = sym (unit_conf t.conf (tracker_parts t w).conf)

    whole : Whole s
    whole = whole_of s (tracker_formed t w)

    pub checked : checks ≡ ok → joint s.conf ≡ false → Checked s
    checked = single-checked s (tracker_formed t w)

  -- 4 or 6, and 15
  abbrev single : ℕ → Verdict
  single n = refuse (joint s.conf) n 0

  abbrev voters : Verdict
  voters = refuse (is_empty s.conf.incoming) 15 0

  pub simple-same : (ids kinds : List ℕ) → simple_in t ids kinds ≡ simple_answer t ids kinds
  unfolding simple_in simple_answer simple_idles simple simple_of
  simple-same xs ks =
      let reads : Verdict = readable xs ks in
      tested_same t (idles (ids s.peers) (list_of xs ks) (start s.conf)) (reads ▸ single 6 ▸ own_check t) (reads ▸ single 6 ▸ checks) _ _
      (numbered_then reads (single 6 ▸ own_check t) (readable-numbered xs ks) (numbered_then (single 6) (own_check t) (numbered-refuse (joint s.conf) 6 0 refl) own_numbered))
      (λ w. ap (λ (v : Verdict). reads ▸ single 6 ▸ v) (own_check_lem w))
      (λ w p.
      let q : single 6 ▸ checks ≡ ok = then_right reads (single 6 ▸ checks) p in
      let j : joint s.conf ≡ false = refuse-ok (joint s.conf) 6 0 (then_left (single 6) checks q) in
      simple_on_lem s (checked w (then_right (single 6) checks q) j) t.ids (same-tracked w) t.conf (same-conf w) xs ks (read-few xs ks (then_left reads (single 6 ▸ checks) p)) (whole w).sets)
      ∙ ap (if_formed t _) (tests_first (refuse (not (formed s)) 1 0) reads (single 6 ▸ checks) _)
      ∙ count_same t (idles (ids s.peers) (list_of xs ks) (start s.conf)) (simple s xs ks)

  pub enter-same : (auto : Bool) (ids kinds : List ℕ) → enter_in t auto ids kinds ≡ enter_answer t auto ids kinds
  unfolding enter_in enter_answer enter_idles enter_joint enter_of
  enter-same auto xs ks =
      let reads : Verdict = readable xs ks in
      tested_same t (idles (ids s.peers) (list_of xs ks) (start (entering s.conf))) (reads ▸ single 4 ▸ own_check t ▸ voters) (reads ▸ single 4 ▸ checks ▸ voters) _ _
      (numbered_then reads (single 4 ▸ own_check t ▸ voters) (readable-numbered xs ks)
      (numbered_then (single 4) (own_check t ▸ voters) (numbered-refuse (joint s.conf) 4 0 refl)
      (numbered_then (own_check t) voters own_numbered (numbered-refuse (is_empty s.conf.incoming) 15 0 refl))))
      (λ w. ap (λ (v : Verdict). reads ▸ single 4 ▸ v ▸ voters) (own_check_lem w))
      (λ w p.
      let q : single 4 ▸ checks ▸ voters ≡ ok = then_right reads (single 4 ▸ checks ▸ voters) p in
      let k : checks ≡ ok = then_left checks voters (then_right (single 4) (checks ▸ voters) q) in
      let j : joint s.conf ≡ false = refuse-ok (joint s.conf) 4 0 (then_left (single 4) (checks ▸ voters) q) in
      enter_on s (checked w k j) t.ids (same-tracked w) t.conf (same-conf w) xs ks (read-few xs ks (then_left reads (single 4 ▸ checks ▸ voters) p)) j auto)
      ∙ ap (if_formed t _) (tests_first (refuse (not (formed s)) 1 0) reads (single 4 ▸ checks ▸ voters) _)
      ∙ count_same t (idles (ids s.peers) (list_of xs ks) (start (entering s.conf))) (enter_joint s auto xs ks)

  pub leave_same : leave_in t ≡ leave_answer t
  unfolding leave_in leave_answer leave_joint leave_of
  leave_same =
      let jointly : Verdict = refuse (not (joint s.conf)) 5 0 in
      let ill : Verdict = refuse (not (formed s)) 1 0 in
      tested_same t 0 (jointly ▸ own_check t) (jointly ▸ checks) _ _
      (numbered_then jointly (own_check t) (numbered-refuse (not (joint s.conf)) 5 0 refl) own_numbered)
      (λ w. ap (λ (v : Verdict). jointly ▸ v) (own_check_lem w))
      (λ w p. leave_on s (whole w) (then_right jointly checks p) t.ids (same-tracked w) t.conf (same-conf w))
      ∙ ap (if_formed t 0) (then_given ill (jointly ▸ checks) _ ∙ ap (λ (a : rules.Answer). ill ⇒ a) (sym (tests_first jointly checks _ _)))
