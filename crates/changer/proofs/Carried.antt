-- A list of changes carried out on structs, and what comes after it: the rules' list and tests. Assumes nothing.
use Prim.Native.Nat.{ℕ, min, ◌≤◌}
use mathlib.Core.Path.{◌≡◌, refl, ap, ◌∙◌, sym}
use mathlib.Core.Bool.{Bool, true, false, cond}
use mathlib.Core.List.{List}
use native.Mathlib.Omega.{arith}
use lib.ListN.{length}
use Rattle.progress.specs.declared.Progress.{Progress}
use Rattle.rules.specs.Ids.{ascending, is_empty}
use Rattle.rules.specs.State.{Conf, Peer, ids}
use Rattle.rules.specs.Answers as rules
use Rattle.rules.specs.Answers.{refuse, ◌▸◌, ◌⇒◌}
use Rattle.rules.specs.Changes.{Done, Work, changes, done, full, pending}
use Rattle.rules.specs.Calls.{afterwards, list_of, start}
use Rattle.rules.specs.Idle.{idles}
use Rattle.rules.proofs.Changes.{After, Fine, changes-done}
use Rattle.idset.specs.Set.{set_of}
use Rattle.idset.specs.declared.IdSet.{IdSet}
use Rattle.idset.proofs.Bridge.{held-set}
use Rattle.tracker.specs.Bridge.{configuration_of, change_log_of}
use Rattle.tracker.specs.declared.Configuration.{Configuration}
use Rattle.changes.specs.Change.{changes_in}
use Rattle.changes.proofs.Rules.{Told, changes_in_lem, fine_sets, start_in, work_of}
use Rattle.changer.specs.Calls.{Answer, answer_of}
use Rattle.changer.specs.Stages.{accepted_in, after_list, carried_in, refused_in, then_on}

-- what the rules' list came to, as a struct, where i entries did nothing
abbrev list_came : Configuration → ℕ → Done → Answer
list_came given i (done v) = cond (is_empty v.conf.incoming) (refused_in given 17 0) (accepted_in (configuration_of v.conf) (change_log_of v.log) i)
list_came given i (full x) = refused_in given 16 x

-- it goes on after 17
came_on : (c given : Configuration) (i : ℕ) (d : Done) (on : Answer → Answer) (tests : Work → rules.Verdict) (out : Work → rules.Answer)
    → ((v : Work) → d ≡ done v → on (accepted_in (configuration_of v.conf) (change_log_of v.log) i) ≡ answer_of c i (tests v ⇒ out v))
    → then_on c (list_came given i d) (on (list_came given i d)) ≡ answer_of c i (afterwards d (λ v. (refuse (is_empty v.conf.incoming) 17 0 ▸ tests v) ⇒ out v))
came_on c given i (done v) on tests out h = go (is_empty v.conf.incoming)
  where
    a : Bool → Answer
    a b = cond b (refused_in given 17 0) (accepted_in (configuration_of v.conf) (change_log_of v.log) i)

    go : (b : Bool) → then_on c (a b) (on (a b)) ≡ answer_of c i ((refuse b 17 0 ▸ tests v) ⇒ out v)
    go true = refl
    go false = h v refl
came_on c given i (full x) on tests out h = refl

-- the tracked set is of the ids of ps; the list starts from k, which is of c
module _ {r : Progress} {ps : List Peer} {up : ascending (ids ps) ≡ true} (c : Conf) (f : Fine r ps up (start c)) (k : Configuration) (e : k ≡ configuration_of c)
    (tracked : IdSet) (m : tracked ≡ set_of (ids ps)) (xs ks : List ℕ) (short : length xs ≤ 256) where
  abbrev came : Done
  came = changes (ids ps) (list_of xs ks) (start c)

  -- how many entries did nothing
  abbrev pub idle : ℕ
  idle = idles (ids ps) (list_of xs ks) (start c)

  list_came_lem : (given : Configuration) → after_list given (changes_in (ids ps) xs ks (work_of ps 0 (start c))) ≡ list_came given idle came
  list_came_lem given = go came refl
    where
      told : (d : Done) → came ≡ d → Told ps d idle (changes_in (ids ps) xs ks (work_of ps 0 (start c)))
      told d p = changes_in_lem f xs ks (omega arith) d p

      go : (d : Done) → came ≡ d → after_list given (changes_in (ids ps) xs ks (work_of ps 0 (start c))) ≡ list_came given idle d
      go (done v) p = rw (told (done v) p, held-set v.conf.incoming (fine_sets (changes-done r ps up (list_of xs ks) (start c) v p f).fine).incoming.few)
      go (full x) p = rw ((told (full x) p).0, (told (full x) p).1)

  carried_came : carried_in tracked k xs ks ≡ list_came k idle came
  unfolding pending set_of
  carried_came =
      let n : min (length (ids ps)) 64 ≡ length (ids ps) = omega (arith, f.few) in
      rw (e, m, held-set (ids ps) f.few, n, ← start_in ps c) (list_came_lem (configuration_of c))

  pub list_same : (given : Configuration) (on : Answer → Answer) (tests : Work → rules.Verdict) (out : Work → rules.Answer)
      → ((v : Work) → After r ps up (list_of xs ks) (start c) v → on (accepted_in (configuration_of v.conf) (change_log_of v.log) idle) ≡ answer_of given idle (tests v ⇒ out v))
      → then_on given (carried_in tracked k xs ks) (on (carried_in tracked k xs ks)) ≡ answer_of given idle (afterwards came (λ v. (refuse (is_empty v.conf.incoming) 17 0 ▸ tests v) ⇒ out v))
  list_same given on tests out h = rw carried_came (came_on given k idle came on tests out (λ v d. h v (changes-done r ps up (list_of xs ks) (start c) v d f)))

  -- the log of a list that was carried out and left a voter is that of the rules' work
  pub carried-log : (carried_in tracked k xs ks).number ≡ 0 → (v : Work) × ((carried_in tracked k xs ks).log ≡ change_log_of v.log) × After r ps up (list_of xs ks) (start c) v
  carried-log h = go came refl (ap (λ (a : Answer). a.number) (sym carried_came) ∙ h)
    where
      of : (v : Work) (b : Bool) → (cond b (refused_in k 17 0) (accepted_in (configuration_of v.conf) (change_log_of v.log) idle)).number ≡ 0
          → (cond b (refused_in k 17 0) (accepted_in (configuration_of v.conf) (change_log_of v.log) idle)).log ≡ change_log_of v.log
      of v true e = absurd (omega arith)
      of v false e = refl

      go : (d : Done) → came ≡ d → (list_came k idle d).number ≡ 0 → (v : Work) × ((carried_in tracked k xs ks).log ≡ change_log_of v.log) × After r ps up (list_of xs ks) (start c) v
      go (done v) p e =
          (v, ap (λ (a : Answer). a.log) carried_came ∙ ap (λ (d : Done). (list_came k idle d).log) p ∙ of v (is_empty v.conf.incoming) e, changes-done r ps up (list_of xs ks) (start c) v p f)
      go (full x) p e = absurd (omega arith)
