-- Laws of text that is put into an output piece by piece. Assumes nothing.
use Prim.Native.Nat.{ℕ, ◌+◌, ◌≤◌, ◌<◌}
use mathlib.Core.Path.{◌≡◌, refl, ◌∙◌}
use mathlib.Core.List.{List, [], ◌++◌}
use lib.ListN.{length, get_or}
use Rattle.text.specs.Text.{each}
use borrow.Rule.Slice.Mut.{set_vals}
use Rattle.text.specs.Put.{Put, last}
use Rattle.text.specs.Writes.{Writes}
use Rattle.text.specs.declared.Output.{Output}
use Rattle.text.proofs.Laws.{Passing, pass_start, pass_next, pass_end, pass_length, put_none, put_then, put-length}

-- the empty text
pub writes_none : {o : Output} → o.at ≤ last → Writes o [] o
writes_none h = record { same = refl; put = put_none h }

-- what is put into the slice of an output, at its place
pub writes_put : {o : Output} {x n : List ℕ} {p : ℕ} → Put o.bytes.now o.at x n p → Writes o x (record { bytes = set_vals n o.bytes; at = p })
writes_put f = record { same = refl; put = f }

-- one text after another
pub writes_then : {o p q : Output} {x y : List ℕ} → length o.bytes.now ≤ last → Writes o x p → Writes p y q → Writes o (x ++ y) q
writes_then h f g = record { same = g.same ∙ f.same; put = put_then h f.put g.put }

pub writes_length : {o p : Output} {x : List ℕ} → Writes o x p → length p.bytes.now ≡ length o.bytes.now
writes_length f = put-length f.put

-- a loop that puts `text`, which is the texts of xs from some place on, has come to place i of xs
pub record Along {A : Type 0} (f : A → List ℕ) (xs : List A) (text : List ℕ) (old new : Output) (i : ℕ) : Type 0 where
  pub same : new.bytes.ghost_name ≡ old.bytes.ghost_name
  pub passing : Passing f xs text old.bytes.now old.at new.bytes.now new.at i

pub along_start : {A : Type 0} {f : A → List ℕ} {xs : List A} {o : Output} → length o.bytes.now ≤ last → o.at ≤ last → Along f xs (each f xs) o o 0
along_start h k = record { same = refl; passing = pass_start h k }

module _ {A : Type 0} {f : A → List ℕ} {xs : List A} {text : List ℕ} {o p : Output} {i : ℕ} (s : Along f xs text o p i) where
  pub along_end : length xs ≤ i → Writes o text p
  along_end h = record { same = s.same; put = pass_end s.passing h }

  pub along_next : (d : A) → i < length xs → {q : Output} → Writes p (f (get_or xs i d)) q → Along f xs text o q (i + 1)
  along_next d h g = record { same = g.same ∙ s.same; passing = pass_next s.passing d h g.put }

  pub along_length : length p.bytes.now ≡ length o.bytes.now
  along_length = pass_length s.passing
