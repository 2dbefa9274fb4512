-- What the contracts of three functions say that take, lend or return a struct by reference, written out, and that each is what its clause in src/ says.
-- Assumes nothing.
use mathlib.Core.Path.{◌≡◌, refl, ap}
use contract.Lifetimes.{Lfts}
use contract.Monad.{fact}
use denote.Triple.Clauses.{AtExit}
use borrow.Fn.World.{ArgsD, ResD, World}
use Rattle.tracker.specs.Apply.{Outcome, apply_of, outcome_left, verdict_in}
use Rattle.tracker.specs.contracts.apply.apply_conf as apply-conf
use Rattle.changes.specs.Pending.{tracked_in}
use Rattle.changes.specs.contracts.pending.view as view
use Rattle.changes.specs.contracts.pending.contains as contains

-- κs: the lifetimes, a: the arguments, z: the result, e: the parameters at exit

module _ (κs : Lfts 3) (a : ArgsD apply-conf.signature κs) (z : ResD apply-conf.signature κs) (e : AtExit apply-conf.ended κs) where
  abbrev pub apply-conf-leaves : Type 0
  apply-conf-leaves = outcome_left e.0.now z ≡ apply_of a.0.now a.1.0.now a.1.1.0.now a.1.1.1.0

  pub apply_conf_clause : (w : World) → (apply-conf.clauses w.𝓛 w.𝓜.mem w.𝓡.run κs a).ensures tt z e ≡ fact w.𝓤 apply-conf-leaves
  apply_conf_clause w = refl

  -- the number and id that are told, and the tracker that is left
  abbrev pub apply-conf-says : Type 0
  apply-conf-says =
      (verdict_in (outcome_left e.0.now z) ≡ verdict_in (apply_of a.0.now a.1.0.now a.1.1.0.now a.1.1.1.0))
      × (e.0.now ≡ (apply_of a.0.now a.1.0.now a.1.1.0.now a.1.1.1.0).tracker)

  pub apply-conf-told : apply-conf-leaves → apply-conf-says
  apply-conf-told h = (ap verdict_in h, ap (λ (o : Outcome). o.tracker) h)

module _ (κs : Lfts 1) (a : ArgsD view.signature κs) (z : ResD view.signature κs) (e : AtExit view.ended κs) where
  abbrev pub view_says : Type 0
  view_says = (z.base ≡ a.0) × (z.count ≡ a.1.0)

  pub view_clause : (w : World) → (view.clauses w.𝓛 w.𝓜.mem w.𝓡.run κs a).ensures tt z e ≡ fact w.𝓤 view_says
  view_clause w = refl

module _ (κs : Lfts 2) (a : ArgsD contains.signature κs) (z : ResD contains.signature κs) (e : AtExit contains.ended κs) where
  abbrev pub contains_says : Type 0
  contains_says = z ≡ tracked_in a.0.base.now a.0.count a.1.0.now a.1.1.0

  pub contains_clause : (w : World) → (contains.clauses w.𝓛 w.𝓜.mem w.𝓡.run κs a).ensures tt z e ≡ fact w.𝓤 contains_says
  contains_clause w = refl
