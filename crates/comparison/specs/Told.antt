-- A reader of the lines: with the first message it states the second's sets and flag. Document 02, l). Assumes nothing.
use Rattle.std.specs.Prelude.{ℕ, zero, suc, ◌+◌, ◌-◌, ◌*◌, Bool, true, false, not, cond, List, [], ◌∷◌, eqb, length}
use Rattle.rules.specs.Ids.{insert_id, insert_all, remove_id, same_ids}
use Rattle.rules.specs.State.{ConfState}
use Rattle.comparison.specs.Compare.{standing_text}
use Rattle.comparison.specs.declared.line.Standing.{Standing}

-- ** Bytes

-- the bytes before the first c, and those after it
unfoldable pub up_to : ℕ → List ℕ → List ℕ
up_to c [] = []
up_to c (b ∷ bs) = cond (eqb b c) [] (b ∷ up_to c bs)

unfoldable pub after : ℕ → List ℕ → List ℕ
after c [] = []
after c (b ∷ bs) = cond (eqb b c) bs (after c bs)

-- the number that decimal digits say, n being that of the digits before them
unfoldable pub value : ℕ → List ℕ → ℕ
value n [] = n
value n (d ∷ ds) = value (n * 10 + (d - 48)) ds

-- ** Names

abbrev pub sets : Bool → Bool → Bool → Bool → Standing
sets a b c d = record { voters = a; outgoing = b; learners = c; next = d }

-- every standing
abbrev pub standings : List Standing
standings =
    sets false false false false ∷ sets false false false true ∷ sets false false true false ∷ sets false false true true
    ∷ sets false true false false ∷ sets false true false true ∷ sets false true true false ∷ sets false true true true
    ∷ sets true false false false ∷ sets true false false true ∷ sets true false true false ∷ sets true false true true
    ∷ sets true true false false ∷ sets true true false true ∷ sets true true true false ∷ sets true true true true ∷ []

-- the first of them whose text is w
unfoldable pub find : List Standing → List ℕ → Standing
find [] w = sets false false false false
find (s ∷ ss) w = cond (same_ids (standing_text s) w) s (find ss w)

unfoldable pub called : List ℕ → Standing
called w = find standings w

-- ** Lines

-- an id, and the standing that it has in the second message
pub record Note : Type 0 where
  pub id : ℕ
  pub now : Standing

-- all that the lines say: the ids whose standing differs, and whether the flag does
pub record Told : Type 0 where
  pub notes : List Note
  pub flips : Bool

-- At most k lines. One that begins with `a` is the flag's, and the last. Of another the first word is the id, and the fourth, after `->`, the standing.
unfoldable pub read_lines : ℕ → List ℕ → Told
read_lines zero l = record { notes = []; flips = false }
read_lines (suc k) [] = record { notes = []; flips = false }
read_lines (suc k) (b ∷ bs) =
    let l : List ℕ = b ∷ bs in
    let fourth : List ℕ = after 32 (after 32 (after 32 l)) in
    let rest : Told = read_lines k (after 10 fourth) in
    cond (eqb b 97) (record { notes = []; flips = true })
    (record { notes = record { id = value 0 (up_to 32 l); now = called (up_to 10 fourth) } ∷ rest.notes; flips = rest.flips })

-- no line is without a byte
unfoldable pub told : List ℕ → Told
told l = read_lines (length l) l

-- ** The second message

-- a message with each list as a set: ascending, each id once
unfoldable pub as_sets : ConfState → ConfState
as_sets m =
    record {
      voters = insert_all m.voters [];
      learners = insert_all m.learners [];
      voters_outgoing = insert_all m.voters_outgoing [];
      learners_next = insert_all m.learners_next [];
      auto_leave = m.auto_leave;
    }

-- x is to be in the set, or not
abbrev pub moved : Bool → ℕ → List ℕ → List ℕ
moved true x xs = insert_id x xs
moved false x xs = remove_id x xs

-- the sets with one id moved to where the note says
abbrev pub placed : Note → ConfState → ConfState
placed n m =
    record {
      voters = moved n.now.voters n.id m.voters;
      learners = moved n.now.learners n.id m.learners;
      voters_outgoing = moved n.now.outgoing n.id m.voters_outgoing;
      learners_next = moved n.now.next n.id m.learners_next;
      auto_leave = m.auto_leave;
    }

unfoldable pub noted : List Note → ConfState → ConfState
noted [] m = m
noted (n ∷ ns) m = placed n (noted ns m)

-- the flag, turned where it differs
abbrev pub turned : Bool → ConfState → ConfState
turned flips m =
    record {
      voters = m.voters;
      learners = m.learners;
      voters_outgoing = m.voters_outgoing;
      learners_next = m.learners_next;
      auto_leave = cond flips (not m.auto_leave) m.auto_leave;
    }

-- "a reader of the lines with the first message can state the second's sets exactly"
unfoldable pub second : ConfState → List ℕ → ConfState
second first text = turned (told text).flips (noted (told text).notes (as_sets first))
