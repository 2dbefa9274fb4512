-- The definitions tried on small slices and numbers. Above each line stands what it rules out: a program that would leave another slice, end
-- at another place, or write another text. Assumes nothing.
use Rattle.std.specs.Prelude.{ℕ, ◌+◌, min, ◌≡◌, refl, List, [], ◌∷◌, length}
use Rattle.std.proofs.lemmas.List.Edits.{sets}
use Rattle.text.specs.Text.{digits, decimal, each, words, group, ascii}
use Rattle.text.specs.Put.{Put, last}

-- all that `Put` allows of `text` at a place of a slice: what the slice then holds, and where the text ends
abbrev Leaves : List ℕ → ℕ → List ℕ → List ℕ → ℕ → Type 0
Leaves old at text held end = (new : List ℕ) (next : ℕ) → Put old at text new next → (new ≡ held) × (next ≡ end)

allowed : (old : List ℕ) (at : ℕ) (text : List ℕ) → Leaves old at text (sets old at text) (min (at + length text) last)
allowed old at text new next p = (p.bytes, p.end)

pub put :
    -- `put_byte` that writes one place too far, or ends there
    Leaves (0 ∷ 0 ∷ []) 0 (7 ∷ []) (7 ∷ 0 ∷ []) 1
    -- `put_byte` that writes over the last place where there is no room
    × Leaves (0 ∷ 0 ∷ []) 2 (7 ∷ []) (0 ∷ 0 ∷ []) 3
    -- `put_byte` that begins again at 0 after the largest place
    × Leaves (0 ∷ 0 ∷ []) last (7 ∷ []) (0 ∷ 0 ∷ []) last
    -- `put_bytes` that repeats a byte
    × Leaves (0 ∷ 0 ∷ 0 ∷ []) 1 (7 ∷ 8 ∷ []) (0 ∷ 7 ∷ 8 ∷ []) 3
    -- `put_bytes` that counts only what fits; one that writes nothing where not all fits
    × Leaves (0 ∷ 0 ∷ []) 1 (7 ∷ 8 ∷ []) (0 ∷ 7 ∷ []) 3
put = (allowed _ _ _, allowed _ _ _, allowed _ _ _, allowed _ _ _, allowed _ _ _)

pub texts :
    -- `put_decimal` that writes nothing for 0
    (decimal 0 ≡ ascii "0")
    -- `put_decimal` with leading zeros
    × (decimal 7 ≡ ascii "7")
    -- `put_decimal` with the last digit first, or with a wrong one
    × (decimal 120 ≡ ascii "120")
    -- `put_decimal` that has room for 19 digits
    × (decimal 18446744073709551615 ≡ ascii "18446744073709551615")
    -- `put_group` that writes nothing for no numbers
    × (group [] ≡ ascii "()")
    -- `put_group` with no space between the numbers; with one after the last
    × (group (1 ∷ 23 ∷ []) ≡ ascii "(1 23)")
unfolding group words each decimal digits
texts = (refl, refl, refl, refl, refl, refl)
