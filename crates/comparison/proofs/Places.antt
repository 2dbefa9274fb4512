-- Laws of a walk: the list that stands at a place of the words, what is left of it, and the ids as they are met. Assumes nothing.
use Prim.Native.Nat.{ℕ, ◌+◌, ◌-◌, ◌≤◌, ◌<◌, min}
use Rattle.std.specs.Prelude.{Option, Some, None}
use Rattle.std.specs.Int.{from_bool}
use mathlib.Core.Path.{◌≡◌, refl, ap, sym, subst, ◌∙◌}
use mathlib.Core.Bool.{Bool, true, false, cond, false≢true}
use mathlib.Core.List.{List, [], ◌∷◌, ◌++◌, append_assoc}
use native.Mathlib.Omega.{arith}
use lib.Dec.{eqb}
use lib.ListN.{length, take, drop, get_or, length-drop}
use lib.Seq.{get_or-drop, drop-drop}
use Rattle.text.specs.Put.{last}
use Rattle.text.specs.Writes.{Writes}
use Rattle.text.specs.declared.Output.{Output}
use Rattle.idset.specs.Places.{first_is}
use Rattle.idset.proofs.Part.{part_cons, part_end}
use Rattle.confstate.specs.Words.{list_in, message_in}
use Rattle.comparison.specs.Compare.{line_if, id_lines, flag_line, lines}
use Rattle.comparison.specs.Steps.{Lists, Sorted, Ascending, begin, left_of, lesser_of, next_of, firsts_of, one_of, past_of, Within}
use Rattle.comparison.specs.declared.line.Standing.{Standing}
use Rattle.comparison.specs.declared.walk.Places.{Places}
use Rattle.comparison.proofs.Walking.{past_first, past_id, size, past-sorted, none_left, one_more_lem, one_stands}
use Rattle.comparison.proofs.ListWords.{count-few}
use Rattle.comparison.proofs.Pieces.{Left, left_all}

-- ** A list in its words

module _ (ws : List ℕ) (k : ℕ) (h : k + 65 ≤ length ws) (f : length (list_in ws k) ≤ 64) where
  -- its ids, as they are lent
  list_part : take (k + get_or ws (k + 64) 0 - k) (drop k ws) ≡ list_in ws k
  unfolding list_in
  list_part = ap (λ (n : ℕ). take n (drop k ws)) (omega arith)

  pub list-ends : k + get_or ws (k + 64) 0 ≤ length ws
  list-ends = omega (arith, h, count-few ws k h f)

  pub stands_in_lem : (at x : ℕ) {r : Bool} → r ≡ first_is x (drop at (take (k + get_or ws (k + 64) 0 - k) (drop k ws))) → r ≡ first_is x (drop at (list_in ws k))
  stands_in_lem at x e = e ∙ ap (λ (l : List ℕ). first_is x (drop at l)) list_part

  module _ (at : ℕ) where
    list_end : get_or ws (k + 64) 0 ≤ at → drop at (list_in ws k) ≡ []
    unfolding list_in
    list_end e = part_end (get_or ws (k + 64) 0) (drop k ws) at e

    list_here : at < get_or ws (k + 64) 0 → drop at (list_in ws k) ≡ get_or ws (k + at) 0 ∷ drop (at + 1) (list_in ws k)
    unfolding list_in
    list_here e =
        part_cons (get_or ws (k + 64) 0) (drop k ws) at e (omega (arith, count-few ws k h f, length-drop k ws))
        ∙ ap (λ (x : ℕ). x ∷ drop (at + 1) (take (get_or ws (k + 64) 0) (drop k ws))) (get_or-drop k ws at 0)

    pub lesser_end : (found : Option ℕ) → get_or ws (k + 64) 0 ≤ at → found ≡ lesser_of (drop at (list_in ws k)) found
    unfolding lesser_of
    lesser_end found e = sym (ap (λ (l : List ℕ). lesser_of l found) (list_end e))

    module _ (e : at < get_or ws (k + 64) 0) where
      pub lesser_first : {found : Option ℕ} → found ≡ None → Some (get_or ws (k + at) 0) ≡ lesser_of (drop at (list_in ws k)) found
      unfolding lesser_of
      lesser_first n = rw (n, list_here e)

      pub lesser_met : {found : Option ℕ} {x : ℕ} → found ≡ Some x → Some (min x (get_or ws (k + at) 0)) ≡ lesser_of (drop at (list_in ws k)) found
      unfolding lesser_of
      lesser_met s = rw (s, list_here e)

-- ** Past an id

byte_one : (b : Bool) → from_bool b ≡ one_of b
byte_one true = refl
byte_one false = refl

pub past_made : (p : Places) (s : Standing) {a b c d : ℕ} → a ≡ from_bool s.voters → b ≡ from_bool s.outgoing → c ≡ from_bool s.learners → d ≡ from_bool s.next
    → ◌≡◌ {A = Places} (record { voters = p.voters + a; outgoing = p.outgoing + b; learners = p.learners + c; next = p.next + d }) (past_of p s)
unfolding past_of
past_made p s e f g h =
    λ i. record {
      voters = p.voters + (e ∙ byte_one s.voters) i;
      outgoing = p.outgoing + (f ∙ byte_one s.outgoing) i;
      learners = p.learners + (g ∙ byte_one s.learners) i;
      next = p.next + (h ∙ byte_one s.next) i;
    }

drop-first : (x : ℕ) (l : List ℕ) → drop (one_of (first_is x l)) l ≡ past_first x l
unfolding first_is past_first
drop-first x [] = refl
drop-first x (y ∷ ys) = by (eqb y x)
  where
    by : (b : Bool) → drop (one_of b) (y ∷ ys) ≡ cond b ys (y ∷ ys)
    by true = refl
    by false = refl

drop_past : (x k : ℕ) (l : List ℕ) → drop (k + one_of (first_is x (drop k l))) l ≡ past_first x (drop k l)
drop_past x k l = sym (drop-drop (one_of (first_is x (drop k l))) k l) ∙ drop-first x (drop k l)

-- where x stands at k, that is before the list's end
first-within : (x k : ℕ) (l : List ℕ) → k ≤ 64 → length l ≤ 64 → k + one_of (first_is x (drop k l)) ≤ 64
unfolding first_is
first-within x k l h f = by (first_is x (drop k l)) refl
  where
    by : (b : Bool) → first_is x (drop k l) ≡ b → k + one_of b ≤ 64
    by true e = into (drop k l) refl e
      where
        into : (m : List ℕ) → drop k l ≡ m → first_is x m ≡ true → k + 1 ≤ 64
        into [] g e = absurd (false≢true e)
        into (y ∷ ys) g e = omega (arith, ap length g, length-drop k l)
    by false e = omega arith

-- ** What is left of a message

left-all : (ws : List ℕ) → left_of ws begin ≡ message_in ws
unfolding left_of
left-all ws = refl

left-past : (ws : List ℕ) (p : Places) (x : ℕ) → left_of ws (past_of p (firsts_of (left_of ws p) x)) ≡ past_id x (left_of ws p)
unfolding left_of past_of firsts_of past_id
left-past ws p x =
    λ i. record {
      voters = drop_past x p.voters (message_in ws).voters i;
      learners = drop_past x p.learners (message_in ws).learners i;
      voters_outgoing = drop_past x p.outgoing (message_in ws).voters_outgoing i;
      learners_next = drop_past x p.next (message_in ws).learners_next i;
      auto_leave = (message_in ws).auto_leave;
    }

past-within : (ws : List ℕ) (p : Places) (x : ℕ) → Lists ws → Within p → Within (past_of p (firsts_of (left_of ws p) x))
unfolding left_of past_of firsts_of
past-within ws p x l w =
    record {
      voters = first-within x p.voters (message_in ws).voters w.voters l.few.voters;
      outgoing = first-within x p.outgoing (message_in ws).voters_outgoing w.outgoing l.few.voters_outgoing;
      learners = first-within x p.learners (message_in ws).learners w.learners l.few.learners;
      next = first-within x p.next (message_in ws).learners_next w.next l.few.learners_next;
    }

-- ** The loop over the ids

-- the lines that are left to be put: those of what is left from i and j on, and the flag's
abbrev lines_left : List ℕ → List ℕ → Places → Places → List ℕ
lines_left a b i j = id_lines (left_of a i) (left_of b j) ++ flag_line (message_in a).auto_leave (message_in b).auto_leave

pub record Walked (a b : List ℕ) (old now : Output) (i j : Places) : Type 0 where
  pub lines : Left old (lines (message_in a) (message_in b)) now (lines_left a b i j)
  pub first : Sorted (left_of a i)
  pub second : Sorted (left_of b j)
  pub first-place : Within i
  pub second-place : Within j

-- how many places are left
abbrev pub left : List ℕ → List ℕ → Places → Places → ℕ
left a b i j = size (left_of a i) + size (left_of b j)

begin-within : Within begin
begin-within = record { voters = omega arith; outgoing = omega arith; learners = omega arith; next = omega arith }

pub walk_start : {a b : List ℕ} {o : Output} {i j : Places} → length o.bytes.now ≤ last → Ascending a → Ascending b → i ≡ begin → j ≡ begin → Walked a b o o i j
unfolding lines
walk_start {a} {b} {o} {i} {j} h f g p q =
    let u : left_of a i ≡ message_in a = ap (left_of a) p ∙ left-all a in
    let v : left_of b j ≡ message_in b = ap (left_of b) q ∙ left-all b in
    record {
      lines = rw (u, v) (left_all h);
      first = subst Sorted (sym u) f.sorted;
      second = subst Sorted (sym v) g.sorted;
      first-place = subst Within (sym p) begin-within;
      second-place = subst Within (sym q) begin-within;
    }

module _ {a b : List ℕ} {o out : Output} {i j : Places} (w : Walked a b o out i j) where
  abbrev flag : List ℕ
  flag = flag_line (message_in a).auto_leave (message_in b).auto_leave

  pub walk_end : next_of (left_of a i) (left_of b j) ≡ None → {new : Output} → Writes out flag new → Writes o (lines (message_in a) (message_in b)) new
  walk_end none f = w.lines.after (rw (none_left (left_of a i) (left_of b j) none) f)

  -- the id that was met stands in these sets, and the walk goes past it
  module _ {x : ℕ} (met : next_of (left_of a i) (left_of b j) ≡ Some x) {s t : Standing} (f : s ≡ firsts_of (left_of a i) x) (g : t ≡ firsts_of (left_of b j) x) {k l : Places} (p : k ≡ past_of i s) (q : l ≡ past_of j t) where
    first-left : left_of a k ≡ past_id x (left_of a i)
    first-left = ap (left_of a) (p ∙ ap (past_of i) f) ∙ left-past a i x

    second-left : left_of b l ≡ past_id x (left_of b j)
    second-left = ap (left_of b) (q ∙ ap (past_of j) g) ∙ left-past b j x

    pub walk_less : left a b k l < left a b i j
    walk_less = rw (first-left, second-left) (one_stands (left_of a i) (left_of b j) x met)

    one_more : id_lines (left_of a i) (left_of b j) ≡ line_if x s t ++ id_lines (left_of a k) (left_of b l)
    one_more = rw (first-left, second-left, f, g) (one_more_lem (left_of a i) (left_of b j) w.first w.second x met)

    more : lines_left a b i j ≡ line_if x s t ++ lines_left a b k l
    more = ap (λ (m : List ℕ). m ++ flag) one_more ∙ append_assoc (line_if x s t) (id_lines (left_of a k) (left_of b l)) flag

    pub walk_turn : Lists a → Lists b → {new : Output} → ((text rest : List ℕ) → Left o text out (line_if x s t ++ rest) → Left o text new rest) → Walked a b o new k l
    walk_turn y z put =
        record {
          lines = put (lines (message_in a) (message_in b)) (lines_left a b k l) (subst (Left o (lines (message_in a) (message_in b)) out) more w.lines);
          first = subst Sorted (sym first-left) (past-sorted x (left_of a i) w.first);
          second = subst Sorted (sym second-left) (past-sorted x (left_of b j) w.second);
          first-place = subst Within (sym (p ∙ ap (past_of i) f)) (past-within a i x y w.first-place);
          second-place = subst Within (sym (q ∙ ap (past_of j) g)) (past-within b j x z w.second-place);
        }
