-- The walks along ascending sets are the rules' check. Assumes nothing.
use Prim.Native.Nat.{ℕ}
use mathlib.Core.Path.{◌≡◌, ap, ◌∙◌, sym}
use mathlib.Core.Bool.{true, not}
use mathlib.Core.List.{List}
use Rattle.rules.specs.Answers.{each, refuse, ◌▸◌}
use Rattle.rules.specs.Check.{check}
use Rattle.rules.specs.Ids.{ascending, insert_all, memb}
use Rattle.rules.specs.State.{Conf, conf_formed}
use Rattle.rules.proofs.Formed.{Sets, sets_of}
use Rattle.invariants.specs.Walk.{sooner}
use Rattle.invariants.specs.Check.{voters_walk, learners_walk, staged_walk, check_walk}
use Rattle.invariants.proofs.Walk.{walk_out, walk_in, walk_each}
use Rattle.invariants.proofs.Each.{local_refuse, local_then, each_both, each_all}

module _ (tracked : List ℕ) (c : Conf) (a : ascending tracked ≡ true) (f : conf_formed c ≡ true) where
  s : Sets c
  s = sets_of c f

  voters_walk_lem : voters_walk tracked c.incoming c.outgoing ≡ each (λ x. refuse (not (memb x tracked)) 7 x) (insert_all c.incoming c.outgoing)
  voters_walk_lem =
      rw (walk_each walk_out 7 tracked a c.incoming s.incoming.rises, walk_each walk_out 7 tracked a c.outgoing s.outgoing.rises)
      (sym (each_all (local_refuse (λ x. not (memb x tracked)) 7) c.incoming c.outgoing s.incoming.rises s.outgoing.rises))

  learners_walk_lem : learners_walk tracked c.incoming c.outgoing c.learners ≡ each (λ x. refuse (not (memb x tracked)) 8 x ▸ refuse (memb x c.outgoing) 9 x ▸ refuse (memb x c.incoming) 10 x) c.learners
  learners_walk_lem =
      let r : ascending c.learners ≡ true = s.learners.rises in
      rw (walk_each walk_out 8 tracked a c.learners r, walk_each walk_in 9 c.outgoing s.outgoing.rises c.learners r, walk_each walk_in 10 c.incoming s.incoming.rises c.learners r)
      (ap (sooner (each (λ x. refuse (not (memb x tracked)) 8 x) c.learners)) (sym (each_both (local_refuse (λ x. memb x c.outgoing) 9) (local_refuse (λ x. memb x c.incoming) 10) c.learners r))
      ∙ sym (each_both (local_refuse (λ x. not (memb x tracked)) 8) (local_then (local_refuse (λ x. memb x c.outgoing) 9) (local_refuse (λ x. memb x c.incoming) 10)) c.learners r))

  staged_walk_lem : staged_walk tracked c.outgoing c.staged ≡ each (λ x. refuse (not (memb x tracked)) 11 x ▸ refuse (not (memb x c.outgoing)) 12 x) c.staged
  staged_walk_lem =
      let r : ascending c.staged ≡ true = s.staged.rises in
      rw (walk_each walk_out 11 tracked a c.staged r, walk_each walk_out 12 c.outgoing s.outgoing.rises c.staged r)
      (sym (each_both (local_refuse (λ x. not (memb x tracked)) 11) (local_refuse (λ x. not (memb x c.outgoing)) 12) c.staged r))

  pub walk_checks : check_walk tracked c ≡ check (λ x. memb x tracked) c
  unfolding check_walk check
  walk_checks = rw (voters_walk_lem, learners_walk_lem, staged_walk_lem)
