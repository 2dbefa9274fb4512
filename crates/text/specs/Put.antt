-- Text that is put at a place of a lent slice. Assumes nothing.
use Rattle.std.specs.Prelude.{ℕ, ◌+◌, ◌-◌, ◌^◌, min, ◌≡◌, List, length}
use Rattle.std.proofs.lemmas.List.Edits.{sets}

-- the largest place
abbrev pub last : ℕ
last = 2 ^ 64 - 1

-- of the slice `old`, `new` holds `text` from `at` on, as far as the slice goes; `next` is where the text ends, in the slice or past it, and the
-- largest place where it would end past that
pub record Put (old : List ℕ) (at : ℕ) (text new : List ℕ) (next : ℕ) : Type 0 where
  pub bytes : new ≡ sets old at text
  pub end : next ≡ min (at + length text) last
