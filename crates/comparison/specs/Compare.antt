-- Where two controllers disagree: document 02, l). Assumes nothing.
use Rattle.std.specs.Prelude.{ℕ, ◌+◌, ◌^◌, Bool, true, false, ◌&&◌, ◌||◌, not, cond, List, [], ◌∷◌, ◌++◌, eqb, ltb, length, drop}
use Rattle.std.specs.Bool.{beq}
use Rattle.rules.specs.Ids.{memb, insert_all}
use Rattle.rules.specs.State.{ConfState}
use Rattle.rules.specs.Message.{read, number_read, message_read}
use Rattle.text.specs.Text.{decimal, each, ascii}
use Rattle.comparison.specs.declared.line.Standing.{Standing}

-- ** Standings

-- the sets that an id is in, "each list taken as a set"
unfoldable pub standing : ConfState → ℕ → Standing
standing m x =
    record {
      voters = memb x m.voters;
      outgoing = memb x m.voters_outgoing;
      learners = memb x m.learners;
      next = memb x m.learners_next;
    }

abbrev pub same : Standing → Standing → Bool
same s t =
    beq s.voters t.voters && beq s.outgoing t.outgoing && beq s.learners t.learners && beq s.next t.next

-- "Set names are voters, voters_outgoing, learners, learners_next, in that order"
abbrev pub also : Bool → List ℕ → List (List ℕ) → List (List ℕ)
also true w ws = w ∷ ws
also false w ws = ws

abbrev pub names : Standing → List (List ℕ)
names s =
    also s.voters (ascii "voters")
    (also s.outgoing (ascii "voters_outgoing")
    (also s.learners (ascii "learners")
    (also s.next (ascii "learners_next") [])))

-- "and joined by `+`"; of an id that is in no set, `none`
abbrev pub joined : List (List ℕ) → List ℕ
joined [] = ascii "none"
joined (w ∷ ws) = w ++ each (λ (v : List ℕ). ascii "+" ++ v) ws

unfoldable pub standing_text : Standing → List ℕ
standing_text s = joined (names s)

-- ** Lines

-- `2 voters -> learners`, and a newline
unfoldable pub line : ℕ → Standing → Standing → List ℕ
line x s t = decimal x ++ (ascii " " ++ (standing_text s ++ (ascii " -> " ++ (standing_text t ++ ascii "\n"))))

-- "for every id whose standing differs the id and both standings"
unfoldable pub line_if : ℕ → Standing → Standing → List ℕ
line_if x s t = cond (same s t) [] (line x s t)

abbrev pub line_of : ConfState → ConfState → ℕ → List ℕ
line_of a b x = line_if x (standing a x) (standing b x)

-- every id of both messages, "ids ascending"
abbrev pub ids_of : ConfState → List ℕ
ids_of m = m.voters ++ (m.voters_outgoing ++ (m.learners ++ m.learners_next))

unfoldable pub ids_of_both : ConfState → ConfState → List ℕ
ids_of_both a b = insert_all (ids_of a ++ ids_of b) []

abbrev pub id_lines : ConfState → ConfState → List ℕ
id_lines a b = each (line_of a b) (ids_of_both a b)

-- "then the flag if it differs"
unfoldable pub flag_line : Bool → Bool → List ℕ
flag_line false false = []
flag_line false true = ascii "auto_leave false -> true\n"
flag_line true false = ascii "auto_leave true -> false\n"
flag_line true true = []

unfoldable pub lines : ConfState → ConfState → List ℕ
lines a b = id_lines a b ++ flag_line a.auto_leave b.auto_leave

-- ** Two files

-- "32, file unreadable or too long", for either file; "then those of k) for the first file, then the second". "It reads two files of at most 32 KiB each."
unfoldable pub refusal : Bool → List ℕ → List ℕ → ℕ
refusal readable l m =
    cond (not readable || ltb 32768 (length l) || ltb 32768 (length m)) 32
    (cond (eqb (number_read (read l)) 0) (number_read (read m)) (number_read (read l)))

-- the lines of two messages that were read
abbrev pub lines_read : List ℕ → List ℕ → List ℕ
lines_read l m = lines (message_read (read l)) (message_read (read m))

-- "A fault prints `refused N` alone.", and a newline
unfoldable pub refused_text : ℕ → List ℕ
refused_text n = ascii "refused " ++ (decimal n ++ ascii "\n")

-- what is printed of two files' bytes, where `readable` says that both could be read
unfoldable pub comparison : Bool → List ℕ → List ℕ → List ℕ
comparison readable l m = cond (eqb (refusal readable l m) 0) (lines_read l m) (refused_text (refusal readable l m))

-- ** Two slices

-- the lines' length, or 2^32 and the number; 100: they are longer than the lent output
unfoldable pub compare_answer : List ℕ → List ℕ → ℕ → ℕ
compare_answer l m room =
    cond (eqb (refusal true l m) 0) (cond (ltb room (length (lines_read l m))) (2 ^ 32 + 100) (length (lines_read l m))) (2 ^ 32 + refusal true l m)

-- the lines, and the bytes after them as they were; refused, the output is as it was
unfoldable pub compare_leaves : List ℕ → List ℕ → List ℕ → List ℕ
compare_leaves l m out =
    cond (eqb (refusal true l m) 0) (cond (ltb (length out) (length (lines_read l m))) out (lines_read l m ++ drop (length (lines_read l m)) out)) out
