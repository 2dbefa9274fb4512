-- A list of changes, from a state that may be changed: each one does what changer.rs does, and alters only its own id. Assumes nothing.
use Prim.Native.Nat.{ℕ}
use mathlib.Core.Path.{◌≡◌, refl, ap, ◌∙◌, sym}
use mathlib.Core.Bool.{Bool, true, false, ◌&&◌, not, cond}
use mathlib.Core.List.{List, [], ◌∷◌}
use lib.Dec.{eqb}
use Rattle.progress.specs.Record.{fresh_record}
use Rattle.progress.specs.declared.Progress.{Progress}
use Rattle.rules.specs.Ids.{ascending}
use Rattle.rules.specs.State.{Change, Peer, State, formed, ids}
use Rattle.rules.specs.Answers.{ok}
use Rattle.rules.specs.Check.{check, is_tracked, joint}
use Rattle.rules.specs.Table.{places_in, places_of}
use Rattle.rules.specs.Changes.{Done, Work, and_then, change, changes, done, full, pending_tracked}
use Rattle.rules.specs.Calls.{entering, start}
use Rattle.rules.specs.Rust.{rust_change, rust_changes}
use Rattle.rules.specs.Boxes.{Box, change_box}
use Rattle.rules.specs.Demands.{AltersItsOwn, AsTheRust}
use Rattle.rules.proofs.Plain.{changes_box}
use Rattle.rules.proofs.Boxes.{box_at}
use Rattle.rules.proofs.Changes.{After, Fine, change-done, changes-done, now, tracked-now}
use Rattle.rules.proofs.Table.{change-is}
use Rattle.rules.proofs.Steps.{Checked}
use Rattle.rules.proofs.Applied.{single-checked}
use Rattle.rules.proofs.Accept.{fine_enter, fine_start}

module _ (r : Progress) (ps : List Peer) (up : ascending (ids ps) ≡ true) where
  pub changes_are : (cs : List Change) (w : Work) → Fine r ps up w → changes (ids ps) cs w ≡ rust_changes (ids ps) cs w
  unfolding changes rust_changes
  changes_are [] w f = refl
  changes_are (c ∷ cs) w f = ap (λ (d : Done). and_then d (λ v. changes (ids ps) cs v)) (change-is r ps up c w f) ∙ go (rust_change (ids ps) c w) (change-is r ps up c w f) (λ u. changes_are cs u)
    where
      go : (d : Done) → change (ids ps) c w ≡ d → ((u : Work) → Fine r ps up u → changes (ids ps) cs u ≡ rust_changes (ids ps) cs u)
          → and_then d (λ v. changes (ids ps) cs v) ≡ and_then d (λ v. rust_changes (ids ps) cs v)
      go (done u) e ih = ih u (change-done r ps up c w u e f).fine
      go (full x) e ih = refl

  -- any other id is tracked as before, and in the same sets
  pub only_its_own : (c : Change) (w v : Work) → Fine r ps up w → change (ids ps) c w ≡ done v → (y : ℕ) → eqb c.id y ≡ false
      → places_in (pending_tracked (ids ps) v.log y) v.conf y ≡ places_in (pending_tracked (ids ps) w.log y) w.conf y
  unfolding changes_box
  only_its_own c w v f h y e =
      let a : After r ps up (c ∷ []) w v = change-done r ps up c w v h f in
      let b : box_at v.conf (now r ps up v) y ≡ box_at w.conf (now r ps up w) y =
      a.boxes y ∙ ap (λ (t : Bool). cond (t && not (eqb y 0)) (change_box r c.kind (box_at w.conf (now r ps up w) y)) (box_at w.conf (now r ps up w) y)) e in
      rw (tracked-now r ps up v y, tracked-now r ps up w y)
      (a.fine.sound.stands y ∙ ap (λ (x : Box). places_of x.standing) b ∙ sym (f.sound.stands y))

-- ** From a state

module _ (s : State) (f : formed s ≡ true) (k : check (is_tracked s) s.conf ≡ ok) (j : joint s.conf ≡ false) (cs : List Change) where
  abbrev r₀ : Progress
  r₀ = fresh_record 0 0

  o : Checked s
  o = single-checked s f k j

  abbrev up : ascending (ids s.peers) ≡ true
  up = o.sound.ids↑

  pub as_the_rust : AsTheRust s cs
  as_the_rust =
      record {
        simple = changes_are r₀ s.peers up cs (start s.conf) (fine_start s o r₀ j);
        enter = changes_are r₀ s.peers up cs (start (entering s.conf)) (fine_enter s o r₀ j);
      }

  own : (b : Work) → Fine r₀ s.peers up b → (w v : Work) (c : Change) → changes (ids s.peers) cs b ≡ done w → change (ids s.peers) c w ≡ done v → (y : ℕ) → eqb c.id y ≡ false
      → places_in (pending_tracked (ids s.peers) v.log y) v.conf y ≡ places_in (pending_tracked (ids s.peers) w.log y) w.conf y
  own b i w v c h = only_its_own r₀ s.peers up c w v (changes-done r₀ s.peers up cs b w h i).fine

  pub alters_its_own : AltersItsOwn s cs
  alters_its_own = record { simple = own (start s.conf) (fine_start s o r₀ j); enter = own (start (entering s.conf)) (fine_enter s o r₀ j) }
