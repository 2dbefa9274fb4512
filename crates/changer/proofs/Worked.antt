-- A list of changes as the code carries it out: 16, 17, or what it came to. Assumes nothing.
use Prim.Native.Nat.{ℕ, min}
use mathlib.Core.Path.{◌≡◌, refl, ◌∙◌}
use mathlib.Core.Bool.{Bool, true, false, cond}
use mathlib.Core.List.{List, []}
use Rattle.std.specs.Prelude.{Result, Ok, Err}
use Rattle.rules.specs.Ids.{is_empty}
use Rattle.idset.specs.Set.{held}
use Rattle.idset.specs.declared.IdSet.{IdSet}
use Rattle.tracker.specs.Bridge.{change_log_of}
use Rattle.tracker.specs.declared.ChangeLog.{ChangeLog}
use Rattle.tracker.specs.declared.Configuration.{Configuration}
use Rattle.tracker.specs.declared.refusal.Refusal.{Refusal}
use Rattle.changes.specs.Change.{Carried, answer, answer_of, changes_in, left_of, work_in}
use Rattle.changes.specs.declared.Work.{Work}
use Rattle.changer.specs.Calls.{Answer, answered}
use Rattle.changer.specs.Stages.{accepted_in, after_list, carried_in, refused_in}

module _ (c : Configuration) (v : Carried) where
  -- 17, or what the list came to
  abbrev then : Answer
  then = cond (is_empty (held v.conf.incoming)) (refused_in c 17 0) (accepted_in v.conf v.log v.idle)

  stopped : (q : Refusal) → Err q ≡ answer_of v → answered c (Err q) ≡ after_list c v
  stopped q = go v.full
    where
      go : (b : Bool) → Err q ≡ answer b v.id → answered c (Err q) ≡ cond b (refused_in c 16 v.id) then
      go true h = cc
      go false h = cc

  came_through : ◌≡◌ {A = Result (Unit {0}) Refusal} (Ok tt) (answer_of v) → then ≡ after_list c v
  came_through = go v.full
    where
      go : (b : Bool) → ◌≡◌ {A = Result (Unit {0}) Refusal} (Ok tt) (answer b v.id) → then ≡ cond b (refused_in c 16 v.id) then
      go true h = cc
      go false h = refl

  none_left : true ≡ is_empty (held v.conf.incoming) → refused_in c 17 0 ≡ then
  none_left d = rw (← d)

  some_left : false ≡ is_empty (held v.conf.incoming) → accepted_in v.conf v.log v.idle ≡ then
  some_left d = rw (← d)

-- the base ids are the n that the set holds
module _ (s : IdSet) {base : List ℕ} (b : base ≡ held s) {n : ℕ} (m : n ≡ min s.len 64) (c : Configuration) (xs ks : List ℕ) {log : ChangeLog} (g : log ≡ change_log_of []) where
  abbrev came : Carried
  came = changes_in base xs ks (work_in c log n 0)

  carried : after_list c came ≡ carried_in s c xs ks
  carried = rw (b, g, m)

  pub list_stops : (q : Refusal) → Err q ≡ answer_of came → answered c (Err q) ≡ carried_in s c xs ks
  list_stops q h = stopped c came q h ∙ carried

  module _ (h : ◌≡◌ {A = Result (Unit {0}) Refusal} (Ok tt) (answer_of came)) {w : Work} (e : w ≡ left_of came) where
    pub list_empties : true ≡ is_empty (held w.conf.incoming) → refused_in c 17 0 ≡ carried_in s c xs ks
    list_empties d = none_left c came (rw e at d) ∙ came_through c came h ∙ carried

    pub list_ends : false ≡ is_empty (held w.conf.incoming) → accepted_in w.conf w.log w.idle ≡ carried_in s c xs ks
    list_ends d = rw e (some_left c came (rw e at d) ∙ came_through c came h ∙ carried)
