-- A text put into an output in pieces: what is left of it. Assumes nothing.
use Prim.Native.Nat.{ℕ, ◌≤◌}
use mathlib.Core.Path.{◌≡◌, refl, ◌∙◌}
use mathlib.Core.List.{List, ◌++◌}
use native.Mathlib.Omega.{arith}
use lib.ListN.{length}
use Rattle.text.specs.Put.{Put, last}
use Rattle.text.specs.Writes.{Writes}
use Rattle.text.specs.declared.Output.{Output}
use Rattle.text.proofs.Outputs.{writes_then, writes_length}
use Rattle.text.proofs.Laws.{Rest, rest_all, rest_put, rest-last}

-- one text after another; what is put into is no longer than it was
pub then : {o p q : Output} {x y : List ℕ} → length o.bytes.now ≤ last → Writes o x p → (length p.bytes.now ≤ last → Writes p y q) → Writes o (x ++ y) q
then h f g = writes_then h f (g (omega (arith, writes_length f)))

-- a text put from the front on
pub from_front : {o p : Output} {t l m : List ℕ} {n : ℕ} → Writes o t p → o.bytes.now ≡ l → o.at ≡ 0 → p.bytes.now ≡ m → p.at ≡ n → Put l 0 t m n
from_front f b a m n = rw (b, a, m, n) at f.put

-- putting `rest` into `now` is all that is left of putting `text` into `old`
pub record Left (old : Output) (text : List ℕ) (now : Output) (rest : List ℕ) : Type 0 where
  pub same : now.bytes.ghost_name ≡ old.bytes.ghost_name
  pub left : Rest old.bytes.now old.at text now.bytes.now now.at rest

pub left_all : {o : Output} {t : List ℕ} → length o.bytes.now ≤ last → o.at ≤ last → Left o t o t
left_all h k = record { same = refl; left = rest_all h k }

module _ {o p q : Output} {t x : List ℕ} where
  pub left_put : {rest : List ℕ} → Left o t p (x ++ rest) → Writes p x q → Left o t q rest
  left_put l f = record { same = f.same ∙ l.same; left = rest_put l.left f.put }

  pub left-last : Left o t p x → Writes p x q → Writes o t q
  left-last l f = record { same = f.same ∙ l.same; put = rest-last l.left f.put }
