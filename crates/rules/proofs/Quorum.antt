-- When two configurations are neighbours: more than half of a set meets more than half of one that differs in one id at most. Assumes nothing.
use Prim.Native.Nat.{ℕ, suc, ◌+◌, ◌≤◌, ◌<◌}
use mathlib.Core.Path.{◌≡◌, refl, ap, ◌∙◌, sym}
use mathlib.Core.Bool.{Bool, true, false, ◌&&◌, ◌||◌, not, cond, false≢true}
use mathlib.Core.List.{List, [], ◌∷◌}
use native.Mathlib.Omega.{arith}
use borrow.Author.Tests.{leb-false, lt-ltb, ltb-true}
use lib.Dec.{eqb, leb}
use lib.ListN.{length}
use Rattle.rules.specs.Ids.{ascending, is_empty, memb, minus}
use Rattle.rules.specs.State.{Conf}
use Rattle.rules.specs.Check.{joint}
use Rattle.rules.specs.Calls.{difference}
use Rattle.rules.specs.Quorum.{Group, InCommon, Neighbours, count, everyone, is_voter, more_than_half, quorum}
use Rattle.rules.proofs.Sets.{and_left, and_right, ascending_ext, ascending-keep, keep, memb_head, memb-keep, minus-keep, or-true}
use Rattle.rules.proofs.Near.{near_itself}

-- ** Counting

count-everyone : (xs : List ℕ) → count everyone xs ≡ length xs
unfolding count
count-everyone [] = refl
count-everyone (x ∷ xs) = ap suc (count-everyone xs)

count_le : (g : Group) (xs : List ℕ) → count g xs ≤ length xs
unfolding count
count_le g [] = omega arith
count_le g (x ∷ xs) = go (g x) (count_le g xs)
  where
    go : (b : Bool) → count g xs ≤ length xs → cond b (suc (count g xs)) (count g xs) ≤ suc (length xs)
    go true ih = omega arith
    go false ih = omega arith

-- those of which p says yes, and the others
count-parts : (g p : Group) (xs : List ℕ) → count g xs ≡ count g (keep p xs) + count g (keep (λ x. not (p x)) xs)
unfolding count keep
count-parts g p [] = refl
count-parts g p (x ∷ xs) = go (p x) (g x) refl (count-parts g p xs)
  where
    go : (b c : Bool) → g x ≡ c → count g xs ≡ count g (keep p xs) + count g (keep (λ x. not (p x)) xs)
        → cond c (suc (count g xs)) (count g xs)
        ≡ count g (cond b (x ∷ keep p xs) (keep p xs)) + count g (cond (not b) (x ∷ keep (λ x. not (p x)) xs) (keep (λ x. not (p x)) xs))
    go true true e ih = rw e (omega arith)
    go true false e ih = rw e (omega arith)
    go false true e ih = rw e (omega arith)
    go false false e ih = rw e (omega arith)

-- where two groups together count more than there are, an id is in both
pub record Meeting (g h : Group) (xs ys : List ℕ) : Type 0 where
  pub box : ℕ
  pub first : g box ≡ true
  pub second : h box ≡ true
  pub one : memb box xs ≡ true
  pub other : memb box ys ≡ true

overlap : (g h : Group) (xs : List ℕ) → length xs < count g xs + count h xs → Meeting g h xs xs
unfolding count memb
overlap g h [] k = absurd (omega arith)
overlap g h (x ∷ xs) k = go (g x) refl (h x) refl k (overlap g h xs)
  where
    further : Meeting g h xs xs → Meeting g h (x ∷ xs) (x ∷ xs)
    further m =
        let here : memb m.box (x ∷ xs) ≡ true = or-true (eqb x m.box) (memb m.box xs) m.one in
        record { box = m.box; first = m.first; second = m.second; one = here; other = here }

    go : (b : Bool) → g x ≡ b → (c : Bool) → h x ≡ c → suc (length xs) < cond b (suc (count g xs)) (count g xs) + cond c (suc (count h xs)) (count h xs)
        → (length xs < count g xs + count h xs → Meeting g h xs xs) → Meeting g h (x ∷ xs) (x ∷ xs)
    go true p true q k ih = record { box = x; first = p; second = q; one = memb_head x xs; other = memb_head x xs }
    go true p false q k ih = further (ih (omega arith))
    go false p true q k ih = further (ih (omega arith))
    go false p false q k ih = further (ih (omega arith))

-- ** More than half of each of two sets that differ in one id at most

-- what both have
abbrev common : List ℕ → List ℕ → List ℕ
common xs ys = keep (λ x. memb x ys) xs

common_swap : (xs ys : List ℕ) → ascending xs ≡ true → ascending ys ≡ true → common xs ys ≡ common ys xs
common_swap xs ys a b =
    ascending_ext (common xs ys) (common ys xs) (ascending-keep (λ x. memb x ys) xs a) (ascending-keep (λ x. memb x xs) ys b)
    (λ y. memb-keep y (λ x. memb x ys) xs ∙ swap (memb y xs) (memb y ys) ∙ sym (memb-keep y (λ x. memb x xs) ys))
  where
    swap : (c d : Bool) → c && d ≡ d && c
    swap true true = refl
    swap true false = refl
    swap false true = refl
    swap false false = refl

-- of xs, a group has no more than it has of what both have, and what ys lacks
count_common : (g : Group) (xs ys : List ℕ) → count g xs ≤ count g (common xs ys) + length (minus xs ys)
count_common g xs ys = rw (minus-keep xs ys) (omega (arith, count-parts g (λ x. memb x ys) xs, count_le g (keep (λ x. not (memb x ys)) xs)))

length_common : (xs ys : List ℕ) → length xs ≡ length (common xs ys) + length (minus xs ys)
length_common xs ys =
    rw (minus-keep xs ys)
    (omega (
      arith,
      count-parts everyone (λ x. memb x ys) xs,
      count-everyone xs,
      count-everyone (keep (λ x. memb x ys) xs),
      count-everyone (keep (λ x. not (memb x ys)) xs),
    ))

pub meet : (g h : Group) (xs ys : List ℕ) → ascending xs ≡ true → ascending ys ≡ true → leb 2 (difference ys xs) ≡ false
    → more_than_half g xs ≡ true → more_than_half h ys ≡ true → Meeting g h xs ys
meet g h xs ys a b d p q = go (overlap g h (common xs ys) covered)
  where
    covered : length (common xs ys) < count g (common xs ys) + count h (common xs ys)
    covered =
        let same : count h (common ys xs) ≡ count h (common xs ys) = ap (count h) (common_swap ys xs b a) in
        let long : length (common ys xs) ≡ length (common xs ys) = ap length (common_swap ys xs b a) in
        let few : length (minus ys xs) + length (minus xs ys) < 2 = leb-false 2 (length (minus ys xs) + length (minus xs ys)) d in
        omega (
          arith,
          length_common xs ys,
          length_common ys xs,
          count_common g xs ys,
          count_common h ys xs,
          ltb-true (length xs) (count g xs + count g xs) p,
          ltb-true (length ys) (count h ys + count h ys) q,
        )

    go : Meeting g h (common xs ys) (common xs ys) → Meeting g h xs ys
    go m =
        let both : memb m.box xs && memb m.box ys ≡ true = sym (memb-keep m.box (λ x. memb x ys) xs) ∙ m.one in
        record {
          box = m.box;
          first = m.first;
          second = m.second;
          one = and_left (memb m.box xs) (memb m.box ys) both;
          other = and_right (memb m.box xs) (memb m.box ys) both;
        }

-- ** Quorums

-- of these voters every quorum has more than half
pub record Half (c : Conf) (xs : List ℕ) : Type 0 where
  pub most : (g : Group) → quorum g c ≡ true → more_than_half g xs ≡ true
  pub voters : (x : ℕ) → memb x xs ≡ true → is_voter c x ≡ true

pub half-incoming : (c : Conf) → Half c c.incoming
unfolding quorum
half-incoming c =
    record {
      most = λ g q. and_left (more_than_half g c.incoming) _ q;
      voters = λ x m. rw m;
    }

pub half-outgoing : (c : Conf) → joint c ≡ true → Half c c.outgoing
unfolding quorum
half-outgoing c j =
    record {
      most = λ g q. go (joint c) j (more_than_half g c.outgoing) (and_right (more_than_half g c.incoming) _ q);
      voters = λ x m. or-true (memb x c.incoming) (memb x c.outgoing) m;
    }
  where
    go : (b : Bool) → b ≡ true → (m : Bool) → not b || m ≡ true → m ≡ true
    go true e m k = k
    go false e m k = absurd (false≢true e)

-- everyone is more than half of a set that is not empty
all_most : (xs : List ℕ) → is_empty xs ≡ false → more_than_half everyone xs ≡ true
all_most [] e = absurd (false≢true (sym e))
all_most (x ∷ xs) e = rw (count-everyone (x ∷ xs)) (lt-ltb (suc (length xs)) (suc (length xs) + suc (length xs)) (omega arith))

pub all-quorum : (c : Conf) → is_empty c.incoming ≡ false → quorum everyone c ≡ true
unfolding quorum
all-quorum c v = rw (all_most c.incoming v) (go (is_empty c.outgoing) refl)
  where
    go : (b : Bool) → is_empty c.outgoing ≡ b → not (not b) || more_than_half everyone c.outgoing ≡ true
    go true e = refl
    go false e = all_most c.outgoing e

-- no group is more than half of nothing
pub voterless : (c : Conf) → is_empty c.incoming ≡ true → (g : Group) → quorum g c ≡ false
unfolding quorum count
voterless c v g = rw (nothing c.incoming v)
  where
    nothing : (xs : List ℕ) → is_empty xs ≡ true → more_than_half g xs ≡ false
    nothing [] e = refl
    nothing (x ∷ xs) e = absurd (false≢true e)

-- ** Neighbours

module _ (c d : Conf) (voter : is_empty c.incoming ≡ false → is_empty d.incoming ≡ false) where
  -- by sets that differ in one id at most, of which every quorum has more than half
  pub by_halves : (xs ys : List ℕ) → Half c xs → Half d ys → ascending xs ≡ true → ascending ys ≡ true → leb 2 (difference ys xs) ≡ false → Neighbours c d
  by_halves xs ys m n a b near =
      record {
        share = λ g h p q. go g h (meet g h xs ys a b near (m.most g p) (n.most h q));
        quorums = λ v. (all-quorum c v, all-quorum d (voter v));
      }
    where
      go : (g h : Group) → Meeting g h xs ys → InCommon g h c d
      go g h k = record { box = k.box; first = k.first; second = k.second; before = m.voters k.box k.one; after = n.voters k.box k.other }

  -- simple: incoming differs in one id at most
  pub by-incoming : ascending c.incoming ≡ true → ascending d.incoming ≡ true → leb 2 (difference d.incoming c.incoming) ≡ false → Neighbours c d
  by-incoming = by_halves c.incoming d.incoming (half-incoming c) (half-incoming d)

  -- entering: outgoing is what incoming was
  pub by-outgoing : ascending c.incoming ≡ true → is_empty c.incoming ≡ false → d.outgoing ≡ c.incoming → Neighbours c d
  by-outgoing a v e =
      by_halves c.incoming d.outgoing (half-incoming c) (half-outgoing d (ap (λ (l : List ℕ). not (is_empty l)) e ∙ ap not v)) a (rw e a)
      (rw e (near_itself c.incoming a))
