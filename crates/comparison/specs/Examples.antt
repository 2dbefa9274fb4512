-- The definitions tried on small messages: each line rules out a program that does otherwise. Assumes nothing.
use Rattle.std.specs.Prelude.{ℕ, ◌+◌, ◌^◌, ◌≡◌, refl, Bool, true, false, List, [], ◌∷◌, ◌++◌, replicate}
use Rattle.rules.specs.Ids.{memb, insert_id, insert_all, remove_id, same_ids}
use Rattle.rules.specs.State.{ConfState}
use Rattle.rules.specs.Wire.{front, fits, varint_in, payload_in, field_in, row_of, row}
use Rattle.rules.specs.Message.{fronts, gathered, packed, entered, read_row, read}
use Rattle.text.specs.Text.{digits, decimal, each, ascii}
use Rattle.comparison.specs.Compare.{standing, standing_text, line, line_if, ids_of_both, flag_line, lines, refusal, refused_text, comparison, compare_answer, compare_leaves}
use Rattle.comparison.specs.Told.{up_to, after, value, find, called, read_lines, told, as_sets, noted, second}

abbrev message : List ℕ → List ℕ → List ℕ → List ℕ → Bool → ConfState
message voters outgoing learners next flag =
    record { voters = voters; learners = learners; voters_outgoing = outgoing; learners_next = next; auto_leave = flag }

-- ** Lines

-- "First voters (1 2), second voters (1 3), learners (2) and the flag set"
abbrev paper-first : ConfState
paper-first = message (1 ∷ 2 ∷ []) [] [] [] false

abbrev paper-second : ConfState
paper-second = message (1 ∷ 3 ∷ []) [] (2 ∷ []) [] true

abbrev paper-lines : List ℕ
paper-lines = ascii "2 voters -> learners\n3 none -> voters\nauto_leave false -> true\n"

pub paper : lines paper-first paper-second ≡ paper-lines
unfolding lines line_if line ids_of_both insert_all insert_id standing standing_text memb flag_line each decimal digits
paper = refl

pub other_lines :
    -- a reader that goes by order or counts repeats: "each list taken as a set"
    (lines (message (2 ∷ 1 ∷ 2 ∷ []) [] [] [] true) (message (1 ∷ 2 ∷ []) [] [] [] true) ≡ [])
    -- one that takes 0 for no id; that has the ids as they come
    × (lines (message (9 ∷ 0 ∷ []) [] [] [] true) (message [] [] [] [] false) ≡ ascii "0 voters -> none\n9 voters -> none\nauto_leave true -> false\n")
    -- one with learners before voters_outgoing; that names the first set only; that takes an id to be in one set
    × (lines (message (7 ∷ []) (7 ∷ []) (7 ∷ []) (7 ∷ []) false) (message [] (7 ∷ []) [] (7 ∷ []) false)
    ≡ ascii "7 voters+voters_outgoing+learners+learners_next -> voters_outgoing+learners_next\n")
    -- one that compares the first set only
    × (lines (message (7 ∷ []) [] [] [] false) (message (7 ∷ []) [] (7 ∷ []) [] false) ≡ ascii "7 voters -> voters+learners\n")
unfolding lines line_if line ids_of_both insert_all insert_id standing standing_text memb flag_line each decimal digits
other_lines = (refl, refl, refl, refl)

-- ** The reader of the lines

pub paper-told : second paper-first paper-lines ≡ paper-second
unfolding second told read_lines called find same_ids standing_text up_to after value noted as_sets insert_all insert_id remove_id each
paper-told = refl

-- ** Two files

-- voters (1), as a single number and packed; a message that is cut short; one with a field 0; one with 65 voters
abbrev one : List ℕ
one = 8 ∷ 1 ∷ []

abbrev one-packed : List ℕ
one-packed = 10 ∷ 1 ∷ 1 ∷ []

abbrev cut_short : List ℕ
cut_short = 8 ∷ []

abbrev no_field : List ℕ
no_field = 0 ∷ 0 ∷ []

pub files :
    -- a program that looks at the bytes
    (comparison true one one-packed ≡ [])
    -- one that compares a refused message as an empty one; that prints lines as well
    × (comparison true cut_short one ≡ ascii "refused 28\n")
    × (comparison true one cut_short ≡ ascii "refused 28\n")
    -- one that tells the second's fault first, or the lower
    × (comparison true no_field cut_short ≡ ascii "refused 29\n")
    -- one that tells a fault inside a file before 32
    × (comparison false cut_short no_field ≡ ascii "refused 32\n")
unfolding comparison refusal refused_text lines line_if line ids_of_both insert_all insert_id standing memb flag_line each decimal digits read read_row row row_of field_in payload_in varint_in front fits entered packed fronts gathered
files = (refl, refl, refl, refl, refl)

pub long-files :
    -- a program that takes 32,769 bytes of either file
    (refusal true (replicate 32769 0) [] ≡ 32)
    × (refusal true [] (replicate 32769 0) ≡ 32)
unfolding refusal
long-files = (refl, refl)

-- ** Two slices

pub answered :
    -- `compare` that refuses an exact fit; that clears the bytes after the lines
    (compare_answer one [] 17 ≡ 17)
    × (compare_leaves one [] (replicate 18 5) ≡ ascii "1 voters -> none\n" ++ (5 ∷ []))
    -- that writes as much as fits
    × (compare_answer one [] 16 ≡ 2 ^ 32 + 100)
    × (compare_leaves one [] (replicate 16 5) ≡ replicate 16 5)
    -- that writes `refused N`; that asks for room first
    × (compare_answer one cut_short 0 ≡ 2 ^ 32 + 28)
    × (compare_leaves one cut_short (replicate 18 5) ≡ replicate 18 5)
unfolding compare_answer compare_leaves refusal lines line_if line ids_of_both insert_all insert_id standing standing_text memb flag_line each decimal digits read read_row row row_of field_in payload_in varint_in front fits entered packed fronts gathered
answered = (refl, refl, refl, refl, refl, refl)
