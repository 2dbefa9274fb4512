-- Change lists in arrays: a list with more of one kind behind it, what the whole can be read as, and the turns of `append`. Assumes nothing.
use Prim.Native.Nat.{ℕ, suc, ◌+◌, ◌≤◌, ◌<◌}
use mathlib.Core.Path.{◌≡◌, refl, ap, ◌∙◌, sym}
use mathlib.Core.Bool.{Bool, true, false}
use mathlib.Core.List.{List, [], ◌∷◌, ◌++◌, append_assoc, append-nil}
use native.Mathlib.Omega.{arith}
use borrow.Author.Tests.{eq-eqb, le-ltb}
use lib.Dec.{ltb}
use lib.ListN.{length, replicate, length-append, length-take}
use Rattle.rules.specs.State.{Change, add_learner, add_node, remove_node}
use Rattle.rules.specs.Answers.{Verdict, each, ok, refuse, ◌▸◌}
use Rattle.rules.specs.Calls.{kind_of, list_of, readable}
use Rattle.rules.specs.Restore.{all}
use Rattle.tracker.specs.Bridge.{entries_in}
use Rattle.tracker.specs.declared.ConfState.{ConfState}
use Rattle.tracker.specs.declared.IdList.{IdList}
use Rattle.restore.specs.Steps.{Appended, Listed, Pushed, code, entered, ids_in, kinds_in, listed, no_changes, number_in, pushed}
use Rattle.changes.specs.declared.table.Kind.{Kind}
use Rattle.changes.specs.declared.table.Kind.TheVariants.{AddNode, AddLearnerNode, RemoveNode}
use Rattle.restore.specs.declared.Changes.{Changes}

-- ** Reading

-- each kind is at most 2
abbrev known : List ℕ → Verdict
known ks = each (λ k. refuse (ltb 2 k) 3 0) ks

-- these ids and kinds are these changes
record Reads (xs ks : List ℕ) (cs : List Change) : Type 0 where
  same : length xs ≡ length ks
  low : known ks ≡ ok
  says : list_of xs ks ≡ cs

reads_none : Reads [] [] []
unfolding each list_of
reads_none = record { same = refl; low = refl; says = refl }

known_append : (ks js : List ℕ) → known ks ≡ ok → known js ≡ ok → known (ks ++ js) ≡ ok
unfolding each
known_append [] js h g = g
known_append (k ∷ ks) js h g = go (ltb 2 k) h (known_append ks js)
  where
    go : (b : Bool) → refuse b 3 0 ▸ known ks ≡ ok → (known ks ≡ ok → known js ≡ ok → known (ks ++ js) ≡ ok) → refuse b 3 0 ▸ known (ks ++ js) ≡ ok
    go true h ih = h
    go false h ih = ih h g

list_append : (xs ks ys js : List ℕ) → length xs ≡ length ks → list_of (xs ++ ys) (ks ++ js) ≡ list_of xs ks ++ list_of ys js
unfolding list_of
list_append [] [] ys js h = refl
list_append [] (k ∷ ks) ys js h = absurd (omega arith)
list_append (x ∷ xs) [] ys js h = absurd (omega arith)
list_append (x ∷ xs) (k ∷ ks) ys js h = ap (λ (cs : List Change). record { kind = kind_of k; id = x } ∷ cs) (list_append xs ks ys js (omega arith))

reads_append : {xs ks ys js : List ℕ} {cs ds : List Change} → Reads xs ks cs → Reads ys js ds → Reads (xs ++ ys) (ks ++ js) (cs ++ ds)
reads_append {xs} {ks} {ys} {js} r q =
    record {
      same = rw (length-append xs ys, length-append ks js) (omega (arith, r.same, q.same));
      low = known_append ks js r.low q.low;
      says = rw (list_append xs ks ys js r.same, r.says, q.says);
    }

reads_all : (k : ℕ) → k ≤ 2 → (xs : List ℕ) → Reads xs (replicate (length xs) k) (all (kind_of k) xs)
unfolding each list_of all
reads_all k h [] = record { same = refl; low = refl; says = refl }
reads_all k h (x ∷ xs) =
    let r : Reads xs (replicate (length xs) k) (all (kind_of k) xs) = reads_all k h xs in
    record {
      same = ap suc r.same;
      low = rw (le-ltb 2 k h) r.low;
      says = ap (λ (cs : List Change). record { kind = kind_of k; id = x } ∷ cs) r.says;
    }

reads-readable : {xs ks : List ℕ} {cs : List Change} → Reads xs ks cs → length xs ≤ 256 → readable xs ks ≡ ok
unfolding readable
reads-readable {xs} {ks} r h = rw (eq-eqb (length xs) (length ks) r.same, le-ltb 256 (length xs) h, r.low)

-- ** Outgoing, voters, learners, staged

abbrev In : Changes → List Change → Type 0
In c cs = Reads (ids_in c) (kinds_in c) cs

one_more : {c r : Changes} {l : IdList} {cs : List Change} (k : ℕ) → k ≤ 2 → In c cs → Appended c l k r → In r (cs ++ all (kind_of k) (entries_in l))
one_more {c} {r} {l} {cs} k h i a = rw (a.ids, a.kinds) (reads_append i (reads_all k h (entries_in l)))

listed_append : (c : Changes) (cs ds : List Change) → listed c (cs ++ ds) ≡ listed (listed c cs) ds
unfolding listed
listed_append c [] ds = refl
listed_append c (d ∷ cs) ds = listed_append (pushed c d.id (code d.kind)) cs ds

-- the four lists one behind the other
pub listed-all : (cs : ConfState) (c₀ c₁ c₂ c₃ c₄ : Changes) → c₀ ≡ no_changes
    → Appended c₀ cs.voters_outgoing 1 c₁ → Appended c₁ cs.voters 0 c₂ → Appended c₂ cs.learners 2 c₃ → Appended c₃ cs.learners_next 2 c₄
    → Listed c₄ (entered cs)
listed-all cs c₀ c₁ c₂ c₃ c₄ z a b d e =
    record {
      few = omega (arith, ap (λ (c : Changes). c.len) z, a.count, a.few, b.count, b.few, d.count, d.few, e.count, e.few);
      reads = reads-readable i₄ (omega (arith, length-take c₄.len c₄.ids, ap (λ (c : Changes). c.len) z, a.count, a.few, b.count, b.few, d.count, d.few, e.count, e.few));
      says = i₄.says ∙ simp append_assoc;
      is =
          e.is ∙ ap (λ (c : Changes). listed c staged)
          (d.is ∙ ap (λ (c : Changes). listed c learners) (b.is ∙ ap (λ (c : Changes). listed c voters) (a.is ∙ ap (λ (c : Changes). listed c outgoing) z)))
          ∙ sym (listed_append no_changes outgoing (voters ++ (learners ++ staged)) ∙ listed_append _ voters (learners ++ staged) ∙ listed_append _ learners staged);
    }
  where
    outgoing : List Change
    outgoing = all remove_node (entries_in cs.voters_outgoing)

    voters : List Change
    voters = all add_node (entries_in cs.voters)

    learners : List Change
    learners = all add_learner (entries_in cs.learners)

    staged : List Change
    staged = all add_learner (entries_in cs.learners_next)

    i₀ : In c₀ []
    i₀ = rw z reads_none

    i₄ : In c₄ (((all remove_node (entries_in cs.voters_outgoing) ++ all add_node (entries_in cs.voters)) ++ all add_learner (entries_in cs.learners)) ++ all add_learner (entries_in cs.learners_next))
    i₄ = one_more 2 (omega arith) (one_more 2 (omega arith) (one_more 0 (omega arith) (one_more 1 (omega arith) i₀ a) b) d) e

-- ** The turns of `append`

pub coded : (k : Kind) → code (kind_of (number_in k)) ≡ number_in k
coded AddNode = refl
coded RemoveNode = refl
coded AddLearnerNode = refl

-- the ids of `left`, of those of l, are not yet behind c₀: c has the others there
pub record Appending (c₀ : Changes) (l : IdList) (k : ℕ) (c : Changes) (left : List ℕ) : Type 0 where
  pub few : length (entries_in l) ≤ 64
  pub room : c.len + length left ≤ 256
  pub count : c.len + length left ≡ c₀.len + length (entries_in l)
  pub ids : ids_in c ++ left ≡ ids_in c₀ ++ entries_in l
  pub kinds : kinds_in c ++ replicate (length left) k ≡ kinds_in c₀ ++ replicate (length (entries_in l)) k
  pub is : listed c (all (kind_of k) left) ≡ listed c₀ (all (kind_of k) (entries_in l))

pub appending_start : (c : Changes) (l : IdList) (k : ℕ) {left : List ℕ} → length l.ids ≡ 64 → c.len ≤ 192 → left ≡ entries_in l → Appending c l k c left
appending_start c l k h g e = record { few = omega (arith, length-take l.len l.ids); room = rw e (omega (arith, length-take l.len l.ids)); count = rw e; ids = rw e; kinds = rw e; is = rw e }

module _ {c₀ c : Changes} {l : IdList} {k : ℕ} {left : List ℕ} (s : Appending c₀ l k c left) where
  pub appending_end : left ≡ [] → Appended c₀ l k c
  unfolding listed all
  appending_end e =
      record {
        few = s.few;
        count = omega (arith, rw e at s.count);
        ids = sym (append-nil (ids_in c)) ∙ (rw e at s.ids);
        kinds = sym (append-nil (kinds_in c)) ∙ (rw e at s.kinds);
        is = rw e at s.is;
      }

  module _ {x : ℕ} {xs : List ℕ} (e : left ≡ x ∷ xs) where
    pub appending_room : c.len < 256
    appending_room = omega (arith, rw e at s.room)

    pub appending_next : {r : Changes} → Pushed c x k r → code (kind_of k) ≡ k → Appending c₀ l k r xs
    unfolding listed all
    appending_next {r} p h =
        record {
          few = s.few;
          room = omega (arith, rw e at s.room, p.count);
          count = omega (arith, rw e at s.count, p.count);
          ids = rw p.ids (append_assoc (ids_in c) (x ∷ []) xs ∙ (rw e at s.ids));
          kinds = rw p.kinds (append_assoc (kinds_in c) (k ∷ []) (replicate (length xs) k) ∙ (rw e at s.kinds));
          is = ap (λ (r : Changes). listed r (all (kind_of k) xs)) (p.is ∙ ap (pushed c x) (sym h)) ∙ (rw e at s.is);
        }
