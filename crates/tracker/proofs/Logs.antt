-- The bridge of logs: on well-formed ones each way undoes the other. Assumes nothing.
use Prim.Native.Nat.{ℕ, suc, ◌-◌, ◌≤◌}
use mathlib.Core.Path.{◌≡◌, refl, ap, ◌∙◌}
use mathlib.Core.Bool.{Bool, true, ◌&&◌}
use mathlib.Core.List.{List, [], ◌∷◌}
use native.Mathlib.Omega.{arith}
use borrow.Author.Tests.{eq-eqb, eqb-true, leb-true, le-leb}
use lib.Dec.{eqb, leb}
use lib.ListN.{length, take, drop, replicate}
use lib.Seq.{length-take-le, take_at}
use Rattle.rules.specs.State.{Entry, add, remove, log_formed}
use Rattle.rules.proofs.Sets.{and_left, and_right}
use Rattle.tracker.specs.Bridge.{entry, entry_of, map_change_of, entries_of, map_changes_of, blank, log_of, change_log_of}
use Rattle.tracker.specs.Form.{all_blank, log_well_formed}
use Rattle.tracker.specs.declared.MapChange.{MapChange}
use Rattle.tracker.specs.declared.MapChangeType.{MapChangeType}
use Rattle.tracker.specs.declared.MapChangeType.TheVariants.{Add, Remove}
use Rattle.tracker.specs.declared.ChangeLog.{ChangeLog}
use Rattle.idset.proofs.Padded.{padded_long}
use Rattle.tracker.proofs.Each.{each_tail, each-clear}
use Rattle.tracker.proofs.Places.{blank-each, blank-is, is-blank}

-- ** Entries

change-back : (k : MapChangeType) (x : ℕ) → map_change_of (entry k x) ≡ record { id = x; kind = k }
change-back Add x = refl
change-back Remove x = refl

entry-back : (e : Entry) → entry_of (map_change_of e) ≡ e
entry-back (add x) = refl
entry-back (remove x) = refl

changes-back : (es : List MapChange) → map_changes_of (entries_of es) ≡ es
unfolding map_changes_of entries_of
changes-back [] = refl
changes-back (e ∷ es) = rw (change-back e.kind e.id, changes-back es)

entries_back : (es : List Entry) → entries_of (map_changes_of es) ≡ es
unfolding map_changes_of entries_of
entries_back [] = refl
entries_back (e ∷ es) = rw (entry-back e, entries_back es)

pub length_entries : (es : List MapChange) → length (entries_of es) ≡ length es
unfolding entries_of
length_entries [] = refl
length_entries (e ∷ es) = ap suc (length_entries es)

length-changes : (es : List Entry) → length (map_changes_of es) ≡ length es
unfolding map_changes_of
length-changes [] = refl
length-changes (e ∷ es) = ap suc (length-changes es)

-- ** Well formed, by parts

pub record Logged (l : ChangeLog) : Type 0 where
  pub long : length l.entries ≡ 256
  pub few : l.count ≤ 256
  pub clear : all_blank (drop l.count l.entries) ≡ true

pub log-parts : (l : ChangeLog) → log_well_formed l ≡ true → Logged l
unfolding log_well_formed
log-parts l h =
    let a : Bool = eqb (length l.entries) 256 in
    let b : Bool = leb l.count 256 in
    let c : Bool = all_blank (drop l.count l.entries) in
    let ab : a && b ≡ true = and_left (a && b) c h in
    record { long = eqb-true (length l.entries) 256 (and_left a b ab); few = leb-true l.count 256 (and_right a b ab); clear = and_right (a && b) c h }

pub parts-log : (l : ChangeLog) → Logged l → log_well_formed l ≡ true
unfolding log_well_formed
parts-log l g = rw (eq-eqb _ _ g.long, le-leb _ _ g.few, g.clear)

-- ** Logs

module _ (l : ChangeLog) (w : log_well_formed l ≡ true) where
  pub length-log : length (log_of l) ≡ l.count
  length-log =
      let g : Logged l = log-parts l w in
      length_entries (take l.count l.entries) ∙ length-take-le l.count l.entries (omega arith)

  pub unit_log : change_log_of (log_of l) ≡ l
  unfolding change_log_of
  unit_log =
      let g : Logged l = log-parts l w in
      rw (length-log, changes-back, each_tail blank-each blank blank-is 256 l.count l.entries g.long g.clear)

  pub log-formed : log_formed (log_of l) ≡ true
  unfolding log_formed
  log-formed =
      let g : Logged l = log-parts l w in
      le-leb (length (log_of l)) 256 (omega (arith, length-log))

module _ (es : List Entry) (few : length es ≤ 256) where
  pub log_back : log_of (change_log_of es) ≡ es
  unfolding change_log_of
  log_back = rw (take_at (map_changes_of es) (replicate (256 - length es) blank) (length es) (length-changes es)) (entries_back es)

  pub log_well : log_well_formed (change_log_of es) ≡ true
  unfolding change_log_of
  log_well =
      parts-log (change_log_of es) (record {
        long = padded_long blank 256 (length es) (map_changes_of es) (length-changes es) few;
        few = few;
        clear = each-clear blank-each blank is-blank (256 - length es) (length es) (map_changes_of es) (length-changes es);
      })
