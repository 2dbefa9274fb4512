-- Laws of a text that is put into an output piece by piece: what is left of it. Assumes nothing.
use Prim.Native.Nat.{ℕ, ◌≤◌}
use mathlib.Core.Path.{◌≡◌, subst}
use mathlib.Core.List.{List, ◌++◌}
use lib.ListN.{length}
use Rattle.text.specs.Put.{Put, last}
use Rattle.text.specs.Writes.{Writes}
use Rattle.text.specs.declared.Output.{Output}
use Rattle.text.proofs.Outputs.{writes_then, writes_length}

-- of putting `text`, which was begun at the output `old`, `rest` is left to be put at `now`
pub record Left (old : Output) (text : List ℕ) (now : Output) (rest : List ℕ) : Type 0 where
  pub fits : length now.bytes.now ≤ last
  pub after : {new : Output} → Writes now rest new → Writes old text new

pub left_all : {o : Output} {text : List ℕ} → length o.bytes.now ≤ last → Left o text o text
left_all h = record { fits = h; after = λ w. w }

module _ {o p : Output} {text : List ℕ} where
  pub left_put : {x rest : List ℕ} {q : Output} → Left o text p (x ++ rest) → Writes p x q → Left o text q rest
  left_put l f = record { fits = rw (writes_length f) l.fits; after = λ w. l.after (writes_then l.fits f w) }

  pub left_last : {x : List ℕ} {q : Output} → Left o text p x → Writes p x q → Writes o text q
  left_last l f = l.after f

-- what is put at the front of a slice
pub front : {o p : Output} {old text : List ℕ} → o.bytes.now ≡ old → o.at ≡ 0 → Writes o text p → Put old 0 text p.bytes.now p.at
front {o} {p} {old} {text} e f w =
    subst (λ (l : List ℕ). Put l 0 text p.bytes.now p.at) e (subst (λ (k : ℕ). Put o.bytes.now k text p.bytes.now p.at) f w.put)
