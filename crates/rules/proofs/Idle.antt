-- Which changes did nothing: an entry is idle by the table where no set says that it changed and nothing is logged, and where its id's standing
-- and the log are left as they were; so the idle entries of an accepted list and the others are all of it. Assumes nothing.
use Prim.Native.Nat.{ℕ, suc, ◌+◌, ◌≤◌}
use mathlib.Core.Path.{◌≡◌, refl, ap, ◌∙◌, sym}
use mathlib.Core.Bool.{Bool, true, false, ◌&&◌, ◌||◌, not, cond}
use mathlib.Core.List.{List, [], ◌∷◌, ◌++◌}
use native.Mathlib.Omega.{arith}
use borrow.Author.Tests.{eq-eqb, eqb-true, ne_eqb, not-false}
use lib.Dec.{eqb, ltb}
use lib.ListN.{length, length-append}
use Rattle.progress.specs.Record.{fresh_record}
use Rattle.progress.specs.declared.Progress.{Progress}
use Rattle.rules.specs.Ids.{ascending}
use Rattle.rules.specs.State.{Change, Conf, Entry, Kind, Peer, State, add, add_learner, add_node, formed, ids, remove, remove_node}
use Rattle.rules.specs.Answers.{Answer, Verdict, ◌▸◌, accepted, each, ok, refuse, refused}
use Rattle.rules.specs.Check.{check, is_tracked, joint}
use Rattle.rules.specs.Table.{Effect, I, IO, L, O, OS, Places, Standing, adds, idle, none, place, places_in, places_of, removes, standing_in, stays, table}
use Rattle.rules.specs.Changes.{Done, Work, and_then, change, changes, done, full, logged, pending, standing_now}
use Rattle.rules.specs.Apply.{enrol, room}
use Rattle.rules.specs.Calls.{enter_joint, enter_of, entering, list_of, readable, simple, simple_of, start}
use Rattle.rules.specs.Boxes.{Box, change_box}
use Rattle.rules.specs.Idle.{count_of, enter_idles, enter_works, idle_row, idles, if_accepted, is_idle, logs_nothing, moved_or_logged, one_more_if, row_number, simple_idles, simple_works, when_done, works}
use Rattle.rules.proofs.Sets.{or_left}
use Rattle.rules.proofs.Plain.{changes_box}
use Rattle.rules.proofs.Boxes.{box_at, spot}
use Rattle.rules.proofs.Changes.{After, Fine, Logged, change-done, logged-done, now, stands_here, tracked-now}
use Rattle.rules.proofs.Check.{refuse-ok, then_left, then_right}
use Rattle.rules.proofs.Means.{Enter, Simple, enter_means, given-ok, given_then, simple_means}
use Rattle.rules.proofs.Steps.{Checked, enter_sound}
use Rattle.rules.proofs.Applied.{single-checked}
use Rattle.rules.proofs.Demand3.{length_list}

-- ** What the sets say

-- what a set says of a put: "Inserting into a set and taking from it must say whether the set changed."
abbrev pub told : Bool → Bool → Bool
told b m = cond b (not m) m

-- one of the three sets says that it changed, where an id of these places comes to the standing s
abbrev pub any_told : Standing → Places → Bool
any_told s p = told (places_of s).incoming p.incoming || told (places_of s).learner p.learner || told (places_of s).staged p.staged

row_told : (s : Standing) (k : Kind) → idle_row s k ≡ not (any_told (table s k).0 (places_of s)) && logs_nothing (table s k).1
unfolding table idle_row
row_told none add_node = refl
row_told none add_learner = refl
row_told none remove_node = refl
row_told idle add_node = refl
row_told idle add_learner = refl
row_told idle remove_node = refl
row_told I add_node = refl
row_told I add_learner = refl
row_told I remove_node = refl
row_told L add_node = refl
row_told L add_learner = refl
row_told L remove_node = refl
row_told O add_node = refl
row_told O add_learner = refl
row_told O remove_node = refl
row_told IO add_node = refl
row_told IO add_learner = refl
row_told IO remove_node = refl
row_told OS add_node = refl
row_told OS add_learner = refl
row_told OS remove_node = refl

module _ (r : Progress) (ps : List Peer) (up : ascending (ids ps) ≡ true) (c : Change) (w : Work) (f : Fine r ps up w) where
  abbrev here : Standing
  here = standing_now (ids ps) w c.id

  abbrev to : Standing × Effect
  to = table here c.kind

  -- by the table an entry is idle where no set says that it changed, and nothing is logged
  pub idle_told : idle_row here c.kind ≡ not (any_told to.0 (spot w.conf (now r ps up w) c.id)) && logs_nothing to.1
  idle_told =
      row_told here c.kind
      ∙ ap (λ (p : Places). not (any_told to.0 p) && logs_nothing to.1) (sym (stands_here r ps up c w f))

  -- and where it left its id's standing and the log as they were
  pub idle_means : (v : Work) → change (ids ps) c w ≡ done v → is_idle (ids ps) c w ≡ not (moved_or_logged (ids ps) c w v)
  unfolding change idle_row changes_box
  idle_means v h = go (eqb c.id 0) refl h
    where
      twice : (b : Bool) → b ≡ not (not b)
      twice true = refl
      twice false = refl

      go : (b : Bool) → eqb c.id 0 ≡ b → cond b (done w) (logged to.1 (ids ps) c.id (place c.id to.0 w.conf) w.log) ≡ done v
          → b || idle_row here c.kind ≡ not (moved_or_logged (ids ps) c w v)
      go true e h = let q : w ≡ v = cc in rw (← q, eq-eqb (row_number here) (row_number here) refl, eq-eqb (length w.log) (length w.log) refl)
      go false e h = rw (after, size to.1 (logged-done to.1 (ids ps) c.id (place c.id to.0 w.conf) w.log v h)) (twice _)
        where
          a : After r ps up (c ∷ []) w v
          a = change-done r ps up c w v (rw e h) f

          after : standing_now (ids ps) v c.id ≡ to.0
          after =
              ap (λ (t : Bool). standing_in (places_in t v.conf c.id)) (tracked-now r ps up v c.id)
              ∙ ap (λ (b : Box). b.standing) (a.boxes c.id)
              ∙ ap (λ (t : Bool). (cond (t && not (eqb c.id 0)) (change_box r c.kind (box_at w.conf (now r ps up w) c.id)) (box_at w.conf (now r ps up w) c.id)).standing) (eq-eqb c.id c.id refl)
              ∙ ap (λ (t : Bool). (cond (not t) (change_box r c.kind (box_at w.conf (now r ps up w) c.id)) (box_at w.conf (now r ps up w) c.id)).standing) e
              ∙ ap (λ (t : Bool). (table (standing_in (places_in t w.conf c.id)) c.kind).0) (sym (tracked-now r ps up w c.id))

          longer : (e : Entry) → v.log ≡ w.log ++ (e ∷ []) → eqb (length v.log) (length w.log) ≡ false
          longer e q = ne_eqb (length v.log) (length w.log) (λ p. let k : length v.log ≡ length w.log + 1 = ap length q ∙ length-append w.log (e ∷ []) in omega arith)

          size : (f : Effect) → Logged f (ids ps) c.id (place c.id to.0 w.conf) w.log v → eqb (length v.log) (length w.log) ≡ logs_nothing f
          size stays l = eq-eqb (length v.log) (length w.log) (ap (λ (u : Work). length u.log) (sym l.work) ∙ length-append w.log [] ∙ (omega arith))
          size adds l = longer (add c.id) (ap (λ (u : Work). u.log) (sym l.work))
          size removes l = longer (remove c.id) (ap (λ (u : Work). u.log) (sym l.work))

-- ** A list

-- each entry is idle or not
either : (b c : Bool) (m n k : ℕ) → b ≡ not c → m + n ≡ k → one_more_if b m + one_more_if c n ≡ suc k
either true true m n k e h = absurd (let z : ◌≡◌ {A = ℕ} 0 1 = ap (λ (b : Bool). cond b 1 0) (sym e) in omega arith)
either true false m n k e h = omega arith
either false true m n k e h = omega arith
either false false m n k e h = absurd (let z : ◌≡◌ {A = ℕ} 0 1 = ap (λ (b : Bool). cond b 1 0) e in omega arith)

module _ (r : Progress) (ps : List Peer) (up : ascending (ids ps) ≡ true) where
  pub all_of_it : (cs : List Change) (w v : Work) → Fine r ps up w → changes (ids ps) cs w ≡ done v → idles (ids ps) cs w + works (ids ps) cs w ≡ length cs
  unfolding changes count_of
  all_of_it [] w v f h = refl
  all_of_it (c ∷ cs) w v f h = go (change (ids ps) c w) refl h (λ u. all_of_it cs u v)
    where
      go : (d : Done) → change (ids ps) c w ≡ d → and_then d (λ u. changes (ids ps) cs u) ≡ done v
          → ((u : Work) → Fine r ps up u → changes (ids ps) cs u ≡ done v → idles (ids ps) cs u + works (ids ps) cs u ≡ length cs)
          → when_done d (λ u. one_more_if (is_idle (ids ps) c w) (idles (ids ps) cs u)) + when_done d (λ u. one_more_if (moved_or_logged (ids ps) c w u) (works (ids ps) cs u)) ≡ suc (length cs)
      go (done u) e h ih = either (is_idle (ids ps) c w) (moved_or_logged (ids ps) c w u) (idles (ids ps) cs u) (works (ids ps) cs u) (length cs) (idle_means r ps up c w f u e) (ih u (change-done r ps up c w u e f).fine h)
      go (full x) e h ih = absurd (let z : ◌≡◌ {A = ℕ} 0 1 = cc in omega arith)

-- no more than the list is long
count-few : (test : Change → Work → Work → Bool) (base : List ℕ) (cs : List Change) (w : Work) → count_of test base cs w ≤ length cs
unfolding count_of
count-few test base [] w = omega arith
count-few test base (c ∷ cs) w = go (change base c w) (count-few test base cs)
  where
    more : (b : Bool) (n : ℕ) → n ≤ length cs → one_more_if b n ≤ suc (length cs)
    more true n h = omega arith
    more false n h = omega arith

    go : (d : Done) → ((v : Work) → count_of test base cs v ≤ length cs) → when_done d (λ v. one_more_if (test c w v) (count_of test base cs v)) ≤ suc (length cs)
    go (done v) h = more (test c w v) (count_of test base cs v) (h v)
    go (full x) h = omega arith

-- ** A call

-- the count of any call is no more than there are ids
call-few : (a : Answer) (test : Change → Work → Work → Bool) (base xs ks : List ℕ) (w : Work) → if_accepted a (count_of test base (list_of xs ks) w) ≤ length xs
call-few (accepted c log) test base xs ks w = omega (arith, count-few test base (list_of xs ks) w, length_list xs ks)
call-few (refused m x) test base xs ks w = omega arith

pub simple-few : (s : State) (xs ks : List ℕ) → simple_idles s xs ks ≤ length xs
unfolding simple_idles
simple-few s xs ks = call-few (simple s xs ks) (λ c w v. is_idle (ids s.peers) c w) (ids s.peers) xs ks (start s.conf)

pub enter-few : (s : State) (auto : Bool) (xs ks : List ℕ) → enter_idles s auto xs ks ≤ length xs
unfolding enter_idles
enter-few s auto xs ks = call-few (enter_joint s auto xs ks) (λ c w v. is_idle (ids s.peers) c w) (ids s.peers) xs ks (start (entering s.conf))

-- as many changes as ids
length-same : (xs ks : List ℕ) → length xs ≡ length ks → length (list_of xs ks) ≡ length xs
unfolding list_of
length-same [] ks h = refl
length-same (x ∷ xs) [] h = absurd (omega arith)
length-same (x ∷ xs) (k ∷ ks) h = ap suc (length-same xs ks (omega arith))

pub length-read : (xs ks : List ℕ) → readable xs ks ≡ ok → length (list_of xs ks) ≡ length xs
unfolding readable
length-read xs ks h =
    let a : Bool = not (eqb (length xs) (length ks)) in
    let b : Bool = ltb 256 (length xs) in
    length-same xs ks (eqb-true (length xs) (length ks) (not-false (eqb (length xs) (length ks)) (or_left a b (refuse-ok (a || b) 2 0 (then_left (refuse (a || b) 2 0) (each (λ k. refuse (ltb 2 k) 3 0) ks) h)))))

module _ (s : State) (xs ks : List ℕ) (c : Conf) (log : List Entry) where
  abbrev tests : Verdict
  tests = refuse (not (formed s)) 1 0 ▸ readable xs ks

  -- the tests were passed, and the list began on a state that passed the check
  begun : tests ≡ ok → check (is_tracked s) s.conf ≡ ok → joint s.conf ≡ false → Checked s
  begun h k = single-checked s (not-false (formed s) (refuse-ok (not (formed s)) 1 0 (then_left (refuse (not (formed s)) 1 0) (readable xs ks) h))) k

  as_long : tests ≡ ok → length (list_of xs ks) ≡ length xs
  as_long h = length-read xs ks (then_right (refuse (not (formed s)) 1 0) (readable xs ks) h)

  pub simple_counts : simple s xs ks ≡ accepted c log → simple_idles s xs ks + simple_works s xs ks ≡ length xs
  unfolding simple simple_idles simple_works enrol pending room
  simple_counts h =
      let g : tests ≡ ok = given-ok c log tests (simple_of s (list_of xs ks)) h in
      let m : Simple s (list_of xs ks) c log = simple_means s c log (list_of xs ks) (given_then c log tests (simple_of s (list_of xs ks)) h) in
      let o : Checked s = begun g m.checked m.single in
      rw h (all_of_it (fresh_record 0 0) s.peers o.sound.ids↑ (list_of xs ks) (start s.conf) m.work (record { sound = o.sound; fits = refl; few = o.few }) m.does ∙ as_long g)

  pub enter_counts : (auto : Bool) → enter_joint s auto xs ks ≡ accepted c log → enter_idles s auto xs ks + enter_works s auto xs ks ≡ length xs
  unfolding enter_joint enter_idles enter_works enrol pending room
  enter_counts auto h =
      let g : tests ≡ ok = given-ok c log tests (enter_of s auto (list_of xs ks)) h in
      let m : Enter s auto (list_of xs ks) c log = enter_means s c log auto (list_of xs ks) (given_then c log tests (enter_of s auto (list_of xs ks)) h) in
      let o : Checked s = begun g m.checked m.single in
      rw h (all_of_it (fresh_record 0 0) s.peers o.sound.ids↑ (list_of xs ks) (start (entering s.conf)) m.work (record { sound = enter_sound s.conf s.peers o.sound m.single; fits = refl; few = o.few }) m.does ∙ as_long g)
