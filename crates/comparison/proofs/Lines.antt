-- Laws of the lines' text. Assumes nothing.
use Prim.Native.Nat.{ℕ}
use mathlib.Core.Path.{◌≡◌, refl, ap, sym, subst, ◌∙◌}
use mathlib.Core.Bool.{Bool, true, false, beq, ◌&&◌, ◌||◌, cond, not}
use mathlib.Core.List.{List, [], ◌++◌}
use Rattle.text.specs.Text.{each, ascii}
use Rattle.text.specs.Writes.{Writes}
use Rattle.text.specs.declared.Output.{Output}
use Rattle.comparison.specs.Compare.{same, standing_text, line, line_if, flag_line}
use Rattle.comparison.specs.Told.{sets}
use Rattle.comparison.specs.Steps.{name_text}
use Rattle.comparison.specs.declared.line.Standing.{Standing}
use Rattle.comparison.proofs.Pieces.{Left, left_put}

-- ** Tests, one after the other

pub or_then : (a b : Bool) {r : Bool} → a ≡ true → r ≡ a → r ≡ (a || b)
or_then a b h e = rw h (e ∙ h)

pub or_else : (a b : Bool) {r : Bool} → a ≡ false → r ≡ b → r ≡ (a || b)
or_else a b h e = rw h e

pub and_then : (a b : Bool) {r : Bool} → a ≡ true → r ≡ b → r ≡ a && b
and_then a b h e = rw h e

pub and_else : (a b : Bool) {r : Bool} → a ≡ false → r ≡ a → r ≡ a && b
and_else a b h e = rw h (e ∙ h)

-- ** The names of the sets

pub name_pieces : (is-in later : Bool) (name : List ℕ) → cond (is-in && later) (ascii "+") [] ++ cond is-in name [] ≡ name_text is-in later name
unfolding name_text
name_pieces true later name = refl
name_pieces false later name = refl

-- the names, each where the id is in the set, and after a `+` where it is in one before
abbrev pub names_of : Standing → Bool → Bool → List ℕ
names_of s third fourth =
    name_text s.voters false (ascii "voters")
    ++ (name_text s.outgoing s.voters (ascii "voters_outgoing") ++ (name_text s.learners third (ascii "learners") ++ name_text s.next fourth (ascii "learners_next")))

abbrev NamesText : Bool → Bool → Bool → Bool → Type 0
NamesText a b c d = (a || b || c || d) ≡ true → standing_text (sets a b c d) ≡ names_of (sets a b c d) (a || b) (a || b || c)

names_text : (a b c d : Bool) → NamesText a b c d
unfolding standing_text name_text each
names_text true true true true h = refl
names_text true true true false h = refl
names_text true true false true h = refl
names_text true true false false h = refl
names_text true false true true h = refl
names_text true false true false h = refl
names_text true false false true h = refl
names_text true false false false h = refl
names_text false true true true h = refl
names_text false true true false h = refl
names_text false true false true h = refl
names_text false true false false h = refl
names_text false false true true h = refl
names_text false false true false h = refl
names_text false false false true h = refl
names_text false false false false h = cc

none_text : (a b c d : Bool) → (a || b || c || d) ≡ false → standing_text (sets a b c d) ≡ ascii "none"
unfolding standing_text
none_text true b c d h = cc
none_text false true c d h = cc
none_text false false true d h = cc
none_text false false false true h = cc
none_text false false false false h = refl

module _ (s : Standing) {third fourth any : Bool} (f : third ≡ (s.voters || s.outgoing)) (g : fourth ≡ (third || s.learners)) (h : any ≡ (fourth || s.next)) where
  up_to_three : fourth ≡ (s.voters || s.outgoing || s.learners)
  up_to_three = g ∙ ap (λ (x : Bool). x || s.learners) f

  in_any : any ≡ (s.voters || s.outgoing || s.learners || s.next)
  in_any = h ∙ ap (λ (x : Bool). x || s.next) up_to_three

  pub text_none : any ≡ false → standing_text s ≡ ascii "none"
  text_none e = none_text s.voters s.outgoing s.learners s.next (sym in_any ∙ e)

  pub text_names : any ≡ true → standing_text s ≡ names_of s third fourth
  text_names e =
      names_text s.voters s.outgoing s.learners s.next (sym in_any ∙ e)
      ∙ (ap (λ (x : Bool). names_of s x (s.voters || s.outgoing || s.learners)) (sym f) ∙ ap (λ (x : Bool). names_of s third x) (sym up_to_three))

-- ** The line of an id

-- as the derived equality says it
abbrev equal : Standing → Standing → Bool
equal s t = beq s.voters t.voters && (beq s.outgoing t.outgoing && (beq s.learners t.learners && beq s.next t.next))

not-true : (b : Bool) → not b ≡ true → b ≡ false
not-true false h = refl
not-true true h = cc

not-false : (b : Bool) → not b ≡ false → b ≡ true
not-false true h = refl
not-false false h = cc

equal_same : (s t : Standing) → same s t ≡ equal s t
equal_same s t = go (beq s.voters t.voters) (beq s.outgoing t.outgoing) (beq s.learners t.learners) (beq s.next t.next)
  where
    go : (a b c d : Bool) → a && b && c && d ≡ a && (b && (c && d))
    go true true c d = refl
    go true false c d = refl
    go false b c d = refl

module _ (x : ℕ) (s t : Standing) {r : Bool} (h : r ≡ not (equal s t)) where
  line-some : r ≡ true → line_if x s t ≡ line x s t
  unfolding line_if
  line-some e = ap (λ (y : Bool). cond y [] (line x s t)) (equal_same s t ∙ not-true (equal s t) (sym h ∙ e))

  line_none : r ≡ false → line_if x s t ≡ []
  unfolding line_if
  line_none e = ap (λ (y : Bool). cond y [] (line x s t)) (equal_same s t ∙ not-false (equal s t) (sym h ∙ e))

  module _ {o p : Output} {text rest : List ℕ} (l : Left o text p (line_if x s t ++ rest)) where
    pub line_put : r ≡ true → {q : Output} → Writes p (line x s t) q → Left o text q rest
    line_put e f = left_put (subst (λ (y : List ℕ). Left o text p (y ++ rest)) (line-some e) l) f

    pub line_skipped : r ≡ false → Left o text p rest
    line_skipped e = subst (λ (y : List ℕ). Left o text p (y ++ rest)) (line_none e) l

-- ** The line of the flag

pub flag_pieces : (a b : Bool) → cond (b && not a) (ascii "auto_leave false -> true\n") [] ++ cond (a && not b) (ascii "auto_leave true -> false\n") [] ≡ flag_line a b
unfolding flag_line
flag_pieces true true = refl
flag_pieces true false = refl
flag_pieces false true = refl
flag_pieces false false = refl
