-- A run of steps that is refused: the steps before the refused one stay, and that one has changed nothing. Assumes nothing.
use Prim.Native.Nat.{ℕ}
use mathlib.Core.Path.{◌≡◌, refl, ap, ◌∙◌}
use mathlib.Core.Bool.{false, ◌||◌, not, true≢false}
use mathlib.Core.List.{List, [], ◌∷◌, ◌++◌}
use Rattle.rules.specs.State.{Conf, Entry, State, conf_formed, formed, ids, log_formed}
use Rattle.rules.specs.Answers.{Answer, Outcome, Verdict, accepted, fault, ok, passes, refuse, refused, settle, ◌▸◌}
use Rattle.rules.specs.Apply.{applied, apply_conf, room}
use Rattle.rules.specs.Restore.{Step, apply_answer, ask, attempt, go_on, run}

-- ps came to o: those before one of them were accepted and leave the state of o; that one, asked there, gives o
pub record Stopped (n : ℕ) (s : State) (ps : List Step) (o : Outcome) : Type 0 where
  pub before : List Step
  pub step : Step
  pub after : List Step
  pub steps : ps ≡ before ++ (step ∷ after)
  pub stay : run n s before ≡ record { verdict = ok; state = o.state }
  pub refused : attempt n o.state step ≡ o

settle-left : (v : Verdict) (s t : State) → passes (settle v s t).verdict ≡ false → (settle v s t).state ≡ s
settle-left ok s t h = absurd (true≢false h)
settle-left (fault m x) s t h = refl

module _ (n : ℕ) where
  -- a refused apply_conf leaves the state
  pub apply-left : (s : State) (c : Conf) (log : List Entry) → passes (apply_conf s c log n).verdict ≡ false → (apply_conf s c log n).state ≡ s
  unfolding apply_conf
  apply-left s c log = settle-left (refuse (not (formed s) || not (conf_formed c) || not (log_formed log)) 1 0 ▸ room log (ids s.peers)) s (applied s c log n)

  -- and so does a refused answer
  answer-left : (s : State) (a : Answer) → passes (apply_answer s n a).verdict ≡ false → (apply_answer s n a).state ≡ s
  answer-left s (accepted c log) h = apply-left s c log h
  answer-left s (refused m x) h = refl

  pub run-stops : (ps : List Step) (s : State) → passes (run n s ps).verdict ≡ false → Stopped n s ps (run n s ps)
  unfolding run
  run-stops [] s h = absurd (true≢false h)
  run-stops (p ∷ ps) s h = go (attempt n s p).verdict (attempt n s p).state refl (answer-left s (ask s p)) (run-stops ps) h
    where
      go : (v : Verdict) (u : State) → attempt n s p ≡ record { verdict = v; state = u } → (passes v ≡ false → u ≡ s)
          → ((u : State) → passes (run n u ps).verdict ≡ false → Stopped n u ps (run n u ps))
          → passes (go_on (record { verdict = v; state = u }) (λ u. run n u ps)).verdict ≡ false
          → Stopped n s (p ∷ ps) (go_on (record { verdict = v; state = u }) (λ u. run n u ps))
      go ok u e l ih f =
          let r : Stopped n u ps (run n u ps) = ih u f in
          record { before = p ∷ r.before; step = r.step; after = r.after; steps = ap (λ (l : List Step). p ∷ l) r.steps; stay = rw e r.stay; refused = r.refused }
      go (fault m x) u e l ih f =
          record { before = []; step = p; after = ps; steps = refl; stay = rw (l refl); refused = ap (λ (z : State). attempt n z p) (l refl) ∙ e }
