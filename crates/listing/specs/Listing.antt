-- The listing of a script, and what `replay` answers and leaves: document 01, "The replay script". Assumes nothing.
use Rattle.std.specs.Prelude.{ℕ, zero, suc, ◌+◌, ◌/◌, ◌^◌, cond, List, [], ◌++◌, ltb, length, drop}
use Rattle.rules.specs.Ids.{is_empty}
use Rattle.listing.specs.Script.{kind_at, number_at, Session, begin, is_change, stops, answer_to, after}
use Rattle.listing.specs.Lines.{answer_line, stopped_line}

-- what a record prints: a run kind its line, the lines being numbered from 1
unfoldable pub shown : Session → ℕ → List ℕ
shown z kind = cond (is_change kind) [] (answer_line (suc z.printed) (answer_to z kind))

-- what is printed where no whole record is left: "a short record", K its offset; "changes pending at the end give it with K the length"
unfoldable pub ending : ℕ → ℕ → Session → List ℕ
ending at end z = cond (ltb at end) (stopped_line at) (cond (is_empty z.ids) [] (stopped_line end))

-- what is printed from `at` on, k whole records being left
unfoldable pub lines : ℕ → List ℕ → ℕ → Session → List ℕ
lines zero s at z = ending at (length s) z
lines (suc k) s at z =
    cond (stops z (kind_at s at))
    (stopped_line at)
    (shown z (kind_at s at) ++ lines k s (at + 9) (after z (kind_at s at) (number_at s at)))

unfoldable pub listing : List ℕ → List ℕ
listing s = lines (length s / 9) s 0 begin

-- "gets the listing's length, .., or 2^32 plus 19 or 20": 19, "script over 65,536 bytes"; 20, "listing longer than the lent output"
unfoldable pub replay_answer : List ℕ → ℕ → ℕ
replay_answer s room =
    cond (ltb 65536 (length s)) (2 ^ 32 + 19)
    (cond (ltb room (length (listing s))) (2 ^ 32 + 20) (length (listing s)))

-- "the bytes after it kept"; refused, the output is as it was
unfoldable pub replay_leaves : List ℕ → List ℕ → List ℕ
replay_leaves s out =
    cond (ltb 65536 (length s)) out
    (cond (ltb (length out) (length (listing s))) out (listing s ++ drop (length (listing s)) out))
