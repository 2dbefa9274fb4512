-- What the check says. Assumes nothing.
use Prim.Native.Nat.{ℕ}
use mathlib.Core.Path.{◌≡◌, refl, ap, ◌∙◌, sym}
use mathlib.Core.Bool.{Bool, true, false, ◌&&◌, ◌||◌, not, true≢false, false≢true}
use mathlib.Core.List.{List, [], ◌∷◌}
use native.Mathlib.Omega.{arith}
use borrow.Author.Tests.{eqb-true, not-false}
use lib.Dec.{eqb}
use Rattle.rules.specs.Ids.{insert_all, is_empty, memb}
use Rattle.rules.specs.State.{Conf}
use Rattle.rules.specs.Answers.{Verdict, ◌▸◌, each, fault, ok, refuse}
use Rattle.rules.specs.Check.{check, joint}
use Rattle.rules.specs.Table.{places, places_in, places_of, standing_in}
use Rattle.rules.proofs.Sets.{empty_none, memb-all, memb_head, or-true}

pub then_left : (u v : Verdict) → u ▸ v ≡ ok → u ≡ ok
then_left ok v h = refl
then_left (fault n x) v h = h

pub then_right : (u v : Verdict) → u ▸ v ≡ ok → v ≡ ok
then_right ok v h = h
then_right (fault n x) v h = absurd (let z : ◌≡◌ {A = ℕ} 0 1 = cc in omega arith)

pub then_both : (u v : Verdict) → u ≡ ok → v ≡ ok → u ▸ v ≡ ok
then_both u v p q = rw (p, q)

pub refuse-ok : (b : Bool) (n x : ℕ) → refuse b n x ≡ ok → b ≡ false
refuse-ok true n x h = absurd (let z : ◌≡◌ {A = ℕ} 0 1 = cc in omega arith)
refuse-ok false n x h = refl

pub each-ok : (f : ℕ → Verdict) (xs : List ℕ) → each f xs ≡ ok → (x : ℕ) → memb x xs ≡ true → f x ≡ ok
unfolding each memb
each-ok f [] h x m = absurd (false≢true m)
each-ok f (y ∷ ys) h x m = go (eqb y x) refl m (each-ok f ys (then_right (f y) (each f ys) h) x)
  where
    go : (b : Bool) → eqb y x ≡ b → b || memb x ys ≡ true → (memb x ys ≡ true → f x ≡ ok) → f x ≡ ok
    go true e m ih = ap f (sym (eqb-true y x e)) ∙ then_left (f y) (each f ys) h
    go false e m ih = ih m

pub ok-each : (f : ℕ → Verdict) (xs : List ℕ) → ((x : ℕ) → memb x xs ≡ true → f x ≡ ok) → each f xs ≡ ok
unfolding each memb
ok-each f [] h = refl
ok-each f (y ∷ ys) h = then_both (f y) (each f ys) (h y (memb_head y ys)) (ok-each f ys (λ x m. h x (or-true (eqb y x) (memb x ys) m)))

-- what holds where the check finds no fault
pub record Passes (t : ℕ → Bool) (c : Conf) : Type 0 where
  pub incoming-tracked : (x : ℕ) → memb x c.incoming ≡ true → t x ≡ true
  pub outgoing-tracked : (x : ℕ) → memb x c.outgoing ≡ true → t x ≡ true
  pub learner-tracked : (x : ℕ) → memb x c.learners ≡ true → t x ≡ true
  pub learner-not-outgoing : (x : ℕ) → memb x c.learners ≡ true → memb x c.outgoing ≡ false
  pub learner-not-incoming : (x : ℕ) → memb x c.learners ≡ true → memb x c.incoming ≡ false
  pub staged-tracked : (x : ℕ) → memb x c.staged ≡ true → t x ≡ true
  pub staged-outgoing : (x : ℕ) → memb x c.staged ≡ true → memb x c.outgoing ≡ true
  pub single_quiet : not (joint c) && c.auto_leave ≡ false

module _ (t : ℕ → Bool) (c : Conf) where
  abbrev voters : Verdict
  voters = each (λ x. refuse (not (t x)) 7 x) (insert_all c.incoming c.outgoing)

  abbrev learner : ℕ → Verdict
  learner x = refuse (not (t x)) 8 x ▸ refuse (memb x c.outgoing) 9 x ▸ refuse (memb x c.incoming) 10 x

  abbrev stage : ℕ → Verdict
  stage x = refuse (not (t x)) 11 x ▸ refuse (not (memb x c.outgoing)) 12 x

  abbrev empty : Verdict
  empty = refuse (not (joint c) && not (is_empty c.staged)) 13 0

  abbrev quiet : Verdict
  quiet = refuse (not (joint c) && c.auto_leave) 14 0

  pub passes_of : check t c ≡ ok → Passes t c
  unfolding check
  passes_of h =
      let h1 : each learner c.learners ▸ each stage c.staged ▸ empty ▸ quiet ≡ ok = then_right voters (each learner c.learners ▸ each stage c.staged ▸ empty ▸ quiet) h in
      let h2 : each stage c.staged ▸ empty ▸ quiet ≡ ok = then_right (each learner c.learners) (each stage c.staged ▸ empty ▸ quiet) h1 in
      let h3 : empty ▸ quiet ≡ ok = then_right (each stage c.staged) (empty ▸ quiet) h2 in
      let v : (x : ℕ) → memb x (insert_all c.incoming c.outgoing) ≡ true → t x ≡ true
      = λ x m. not-false (t x) (refuse-ok (not (t x)) 7 x (each-ok (λ y. refuse (not (t y)) 7 y) (insert_all c.incoming c.outgoing) (then_left voters (each learner c.learners ▸ each stage c.staged ▸ empty ▸ quiet) h) x m)) in
      let l : (x : ℕ) → memb x c.learners ≡ true → learner x ≡ ok = each-ok learner c.learners (then_left (each learner c.learners) (each stage c.staged ▸ empty ▸ quiet) h1) in
      let l2 : (x : ℕ) → memb x c.learners ≡ true → refuse (memb x c.outgoing) 9 x ▸ refuse (memb x c.incoming) 10 x ≡ ok
      = λ x m. then_right (refuse (not (t x)) 8 x) (refuse (memb x c.outgoing) 9 x ▸ refuse (memb x c.incoming) 10 x) (l x m) in
      let g : (x : ℕ) → memb x c.staged ≡ true → stage x ≡ ok = each-ok stage c.staged (then_left (each stage c.staged) (empty ▸ quiet) h2) in
      record {
        incoming-tracked = λ x m. v x (memb-all x c.incoming c.outgoing ∙ rw m);
        outgoing-tracked = λ x m. v x (memb-all x c.incoming c.outgoing ∙ or-true (memb x c.incoming) (memb x c.outgoing) m);
        learner-tracked = λ x m. not-false (t x) (refuse-ok (not (t x)) 8 x (then_left (refuse (not (t x)) 8 x) (refuse (memb x c.outgoing) 9 x ▸ refuse (memb x c.incoming) 10 x) (l x m)));
        learner-not-outgoing = λ x m. refuse-ok (memb x c.outgoing) 9 x (then_left (refuse (memb x c.outgoing) 9 x) (refuse (memb x c.incoming) 10 x) (l2 x m));
        learner-not-incoming = λ x m. refuse-ok (memb x c.incoming) 10 x (then_right (refuse (memb x c.outgoing) 9 x) (refuse (memb x c.incoming) 10 x) (l2 x m));
        staged-tracked = λ x m. not-false (t x) (refuse-ok (not (t x)) 11 x (then_left (refuse (not (t x)) 11 x) (refuse (not (memb x c.outgoing)) 12 x) (g x m)));
        staged-outgoing = λ x m. not-false (memb x c.outgoing) (refuse-ok (not (memb x c.outgoing)) 12 x (then_right (refuse (not (t x)) 11 x) (refuse (not (memb x c.outgoing)) 12 x) (g x m)));
        single_quiet = refuse-ok (not (joint c) && c.auto_leave) 14 0 (then_right empty quiet h3);
      }

  no_stage : (xs : List ℕ) → ((x : ℕ) → memb x xs ≡ true → memb x c.outgoing ≡ true) → not (joint c) && not (is_empty xs) ≡ false
  unfolding memb
  no_stage [] h = go (not (joint c))
    where
      go : (b : Bool) → b && false ≡ false
      go true = refl
      go false = refl
  no_stage (x ∷ xs) h = go c.outgoing (h x (memb_head x xs))
    where
      go : (os : List ℕ) → memb x os ≡ true → not (not (is_empty os)) && true ≡ false
      go [] m = absurd (false≢true m)
      go (o ∷ os) m = refl

  pub check-of : Passes t c → check t c ≡ ok
  unfolding check
  check-of p =
      then_both voters (each learner c.learners ▸ each stage c.staged ▸ empty ▸ quiet)
      (ok-each (λ x. refuse (not (t x)) 7 x) (insert_all c.incoming c.outgoing) (λ x m. rw (voter x (memb x c.incoming) refl (sym (memb-all x c.incoming c.outgoing) ∙ m))))
      (then_both (each learner c.learners) (each stage c.staged ▸ empty ▸ quiet)
      (ok-each learner c.learners (λ x m. rw (p.learner-tracked x m, p.learner-not-outgoing x m, p.learner-not-incoming x m)))
      (then_both (each stage c.staged) (empty ▸ quiet)
      (ok-each stage c.staged (λ x m. rw (p.staged-tracked x m, p.staged-outgoing x m)))
      (rw (no_stage c.staged p.staged-outgoing, p.single_quiet))))
    where
      voter : (x : ℕ) (b : Bool) → memb x c.incoming ≡ b → memb x c.incoming || memb x c.outgoing ≡ true → t x ≡ true
      voter x true e m = p.incoming-tracked x e
      voter x false e m = p.outgoing-tracked x (rw e at m)

-- ** The seven standings

off : (b : Bool) → (b ≡ true → ⊥) → b ≡ false
off true h = absurd (h refl)
off false h = refl

seven : (t i o l s : Bool) → (i ≡ true → t ≡ true) → (o ≡ true → t ≡ true) → (l ≡ true → t ≡ true) → (s ≡ true → t ≡ true)
    → (l ≡ true → o ≡ false) → (l ≡ true → i ≡ false) → (s ≡ true → o ≡ true) → (s ≡ true → i ≡ false) → places t i o l s ≡ places_of (standing_in (places t i o l s))
unfolding standing_in
seven false i o l s it ot lt st lo li so si =
    rw (off i (λ e. false≢true (it e)), off o (λ e. false≢true (ot e)), off l (λ e. false≢true (lt e)), off s (λ e. false≢true (st e)))
seven true true true l s it ot lt st lo li so si = rw (off l (λ e. true≢false (lo e)), off s (λ e. true≢false (si e)))
seven true false true l true it ot lt st lo li so si = rw (off l (λ e. true≢false (lo e)))
seven true false true l false it ot lt st lo li so si = rw (off l (λ e. true≢false (lo e)))
seven true true false l s it ot lt st lo li so si = rw (off s (λ e. false≢true (so e)), off l (λ e. true≢false (li e)))
seven true false false true s it ot lt st lo li so si = rw (off s (λ e. false≢true (so e)))
seven true false false false s it ot lt st lo li so si = rw (off s (λ e. false≢true (so e)))

-- no staged id is an incoming voter
abbrev pub Apart : Conf → Type 0
Apart c = (x : ℕ) → memb x c.staged ≡ true → memb x c.incoming ≡ false

-- where nothing is outgoing nothing is staged
pub single-apart : (t : ℕ → Bool) (c : Conf) → Passes t c → joint c ≡ false → Apart c
single-apart t c p j x m = absurd (false≢true (sym (empty_none c.outgoing (not-false (is_empty c.outgoing) j) x) ∙ p.staged-outgoing x m))

pub stands_of : (t : ℕ → Bool) (c : Conf) → Passes t c → Apart c → (x : ℕ) → places_in (t x) c x ≡ places_of (standing_in (places_in (t x) c x))
stands_of t c p a x =
    seven (t x) (memb x c.incoming) (memb x c.outgoing) (memb x c.learners) (memb x c.staged)
    (p.incoming-tracked x) (p.outgoing-tracked x) (p.learner-tracked x) (p.staged-tracked x) (p.learner-not-outgoing x) (p.learner-not-incoming x) (p.staged-outgoing x) (a x)
