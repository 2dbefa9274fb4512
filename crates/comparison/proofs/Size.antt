-- How long the lines of two messages are at most: 512 ids of 20 digits, each in one list of one message, and the flag. Each place of an id in a list is weighed
-- by 30 bytes and the set's name; a line is no longer than the places of its id weigh. Assumes nothing.
use Prim.Native.Nat.{ℕ, zero, suc, ◌+◌, ◌*◌, ◌^◌, ◌≤◌}
use mathlib.Core.Path.{◌≡◌, refl, ap}
use mathlib.Core.Bool.{Bool, true, false, cond}
use mathlib.Core.List.{List, [], ◌∷◌, ◌++◌}
use native.Mathlib.Omega.{arith}
use borrow.Author.Tests.{le-ltb}
use lib.Dec.{eqb, ltb}
use lib.ListN.{length, length-append}
use Rattle.rules.specs.Ids.{memb, ascending, insert_id, insert_all}
use Rattle.rules.specs.State.{ConfState}
use Rattle.rules.specs.Message.{Few64, Below, Below64, encoded, read, message_read}
use Rattle.rules.proofs.Lists64.{message-few}
use Rattle.rules.proofs.MessageBack.{read-encoded, encoded-length}
use Rattle.rules.proofs.Sets.{ascending-all}
use Rattle.text.specs.Text.{digits, decimal, each, ascii}
use Rattle.text.proofs.Decimals.{decimal-length}
use Rattle.comparison.specs.Compare.{standing, same, also, names, joined, standing_text, line, line_if, line_of, ids_of, ids_of_both, flag_line, lines, lines_read, refusal, refused_text, comparison}
use Rattle.comparison.specs.Told.{sets}
use Rattle.comparison.specs.declared.line.Standing.{Standing}
use Rattle.comparison.proofs.Counting.{one, one_le, count, count_le, length-all}

-- ** Standings

-- what names weigh, each 30 bytes and itself
unfoldable total : List (List ℕ) → ℕ
total [] = 0
total (w ∷ ws) = 30 + length w + total ws

abbrev bare : List (List ℕ) → Bool
bare [] = true
bare (w ∷ ws) = false

each_total : (ws : List (List ℕ)) → length (each (λ (v : List ℕ). ascii "+" ++ v) ws) ≤ total ws
unfolding each total
each_total [] = omega arith
each_total (w ∷ ws) = omega (arith, length-append w (each (λ (v : List ℕ). ascii "+" ++ v) ws), each_total ws)

joined-size : (ws : List (List ℕ)) → length (joined ws) + 30 ≤ total ws + 34 * one (bare ws)
unfolding total
joined-size [] = omega arith
joined-size (w ∷ ws) = omega (arith, length-append w (each (λ (v : List ℕ). ascii "+" ++ v) ws), each_total ws)

-- what the sets of a standing weigh
abbrev weight : Standing → ℕ
weight s = 36 * one s.voters + 45 * one s.outgoing + 38 * one s.learners + 43 * one s.next

total_also : (b : Bool) (w : List ℕ) (ws : List (List ℕ)) → total (also b w ws) ≡ (30 + length w) * one b + total ws
unfolding total
total_also true w ws = omega arith
total_also false w ws = omega arith

total_names : (s : Standing) → total (names s) ≡ weight s
unfolding total
total_names s = simp total_also (omega arith)

-- two standings without a name are the same
not_both : (a b c d e f g h : Bool) → one (bare (names (sets a b c d))) + one (bare (names (sets e f g h))) ≤ 1 + one (same (sets a b c d) (sets e f g h))
not_both true b c d e f g h = omega (arith, one_le (bare (names (sets e f g h))))
not_both false true c d e f g h = omega (arith, one_le (bare (names (sets e f g h))))
not_both false false true d e f g h = omega (arith, one_le (bare (names (sets e f g h))))
not_both false false false true e f g h = omega (arith, one_le (bare (names (sets e f g h))))
not_both false false false false true f g h = omega arith
not_both false false false false false true g h = omega arith
not_both false false false false false false true h = omega arith
not_both false false false false false false false true = omega arith
not_both false false false false false false false false = omega arith

-- ** Lines

line-size : (x : ℕ) (s t : Standing) → length (cond (same s t) [] (line x s t)) ≤ weight s + weight t
unfolding line standing_text
line-size x s t =
    go (same s t)
    (not_both s.voters s.outgoing s.learners s.next t.voters t.outgoing t.learners t.next)
  where
    go : (b : Bool) → one (bare (names s)) + one (bare (names t)) ≤ 1 + one b → length (cond b [] (line x s t)) ≤ weight s + weight t
    go true h = omega arith
    go false h = simp length-append (omega (arith, decimal-length x, joined-size (names s), joined-size (names t), total_names s, total_names t))

-- the flag's line
flag-size : (a b : Bool) → length (flag_line a b) ≤ 25
unfolding flag_line
flag-size false false = omega arith
flag-size false true = omega arith
flag-size true false = omega arith
flag-size true true = omega arith

-- ** Two messages

pub ids-few : (a b : ConfState) → Few64 a → Few64 b → length (ids_of_both a b) ≤ 512
unfolding ids_of_both
ids-few a b f g = omega (arith, simp length-append at (length-all (ids_of a ++ ids_of b)))

-- what the places of ids in the four lists weigh
abbrev places : ConfState → List ℕ → ℕ
places m xs = 36 * count m.voters xs + 45 * count m.voters_outgoing xs + 38 * count m.learners xs + 43 * count m.learners_next xs

each-size : (a b : ConfState) (xs : List ℕ) → length (each (line_of a b) xs) ≤ places a xs + places b xs
unfolding each line_if standing count
each-size a b [] = omega arith
each-size a b (x ∷ xs) = omega (arith, length-append (line_of a b x) (each (line_of a b) xs), line-size x (standing a x) (standing b x), each-size a b xs)

places-few : {m : ConfState} → Few64 m → (xs : List ℕ) → ascending xs ≡ true → places m xs ≤ 10368
places-few {m} f xs up = omega (arith, count_le m.voters xs up, count_le m.voters_outgoing xs up, count_le m.learners xs up, count_le m.learners_next xs up)

pub lines-size : (a b : ConfState) → Few64 a → Few64 b → length (lines a b) ≤ 20761
unfolding lines ids_of_both ascending
lines-size a b f g =
    let xs : List ℕ = ids_of_both a b in
    let up : ascending xs ≡ true = ascending-all (ids_of a ++ ids_of b) [] refl in
    omega (arith, length-append (each (line_of a b) xs) (flag_line a.auto_leave b.auto_leave), flag-size a.auto_leave b.auto_leave, each-size a b xs, places-few f xs up, places-few g xs up)

-- ** Two files

refused-size : (n : ℕ) → length (refused_text n) ≤ 29
unfolding refused_text
refused-size n = simp length-append (omega (arith, decimal-length n))

pub comparison-size : (readable : Bool) (l m : List ℕ) → length (comparison readable l m) ≤ 20761
unfolding comparison
comparison-size readable l m = go (refusal readable l m) (eqb (refusal readable l m) 0)
  where
    go : (n : ℕ) (b : Bool) → length (cond b (lines_read l m) (refused_text n)) ≤ 20761
    go n true = lines-size (message_read (read l)) (message_read (read m)) (message-few l) (message-few m)
    go n false = omega (arith, refused-size n)

-- ** The longest

-- n ids, x the first
unfoldable pub ids_from : ℕ → ℕ → List ℕ
ids_from zero x = []
ids_from (suc n) x = x ∷ ids_from n (x + 1)

-- 256 ids, x the first, 64 in each list
unfoldable pub spread : ℕ → Bool → ConfState
spread x flag =
    record {
      voters = ids_from 64 x;
      voters_outgoing = ids_from 64 (x + 64);
      learners = ids_from 64 (x + 128);
      learners_next = ids_from 64 (x + 192);
      auto_leave = flag;
    }

-- two messages with no id in common, each of 20 digits
abbrev pub longest_first : ConfState
longest_first = spread (10 ^ 19) false

abbrev pub longest_second : ConfState
longest_second = spread (10 ^ 19 + 256) true

from-length : (n x : ℕ) → length (ids_from n x) ≡ n
unfolding ids_from
from-length zero x = refl
from-length (suc n) x = ap suc (from-length n (x + 1))

from-below : (n x : ℕ) → x + n ≤ 2 ^ 64 → Below (ids_from n x)
unfolding ids_from
from-below zero x h = tt
from-below (suc n) x h = (omega arith, from-below n (x + 1) (omega arith))

spread_few : (x : ℕ) (flag : Bool) → Few64 (spread x flag)
unfolding spread
spread_few x flag =
    record {
      voters = omega (arith, from-length 64 x);
      learners = omega (arith, from-length 64 (x + 128));
      voters_outgoing = omega (arith, from-length 64 (x + 64));
      learners_next = omega (arith, from-length 64 (x + 192));
    }

spread_below : (x : ℕ) (flag : Bool) → x + 256 ≤ 2 ^ 64 → Below64 (spread x flag)
unfolding spread
spread_below x flag h =
    record {
      voters = from-below 64 x (omega arith);
      learners = from-below 64 (x + 128) (omega arith);
      voters_outgoing = from-below 64 (x + 64) (omega arith);
      learners_next = from-below 64 (x + 192) (omega arith);
    }

longest_lines : length (lines longest_first longest_second) ≡ 20761
unfolding ids_from spread lines line_if line ids_of_both insert_all insert_id standing standing_text memb flag_line each decimal digits
longest_lines = refl

pub longest_is_reached : Few64 longest_first × Few64 longest_second × (length (lines longest_first longest_second) ≡ 20761)
longest_is_reached = (spread_few (10 ^ 19) false, spread_few (10 ^ 19 + 256) true, longest_lines)

-- and is printed of two files: their bytes are read back as these messages
pub longest_is_printed : length (comparison true (encoded longest_first) (encoded longest_second)) ≡ 20761
unfolding comparison refusal
longest_is_printed =
    let f : Few64 longest_first = spread_few (10 ^ 19) false in
    let g : Few64 longest_second = spread_few (10 ^ 19 + 256) true in
    let p : ltb 32768 (length (encoded longest_first)) ≡ false = le-ltb 32768 (length (encoded longest_first)) (omega (arith, encoded-length longest_first f)) in
    let q : ltb 32768 (length (encoded longest_second)) ≡ false = le-ltb 32768 (length (encoded longest_second)) (omega (arith, encoded-length longest_second g)) in
    rw (p, q, read-encoded longest_first f (spread_below (10 ^ 19) false (omega arith)), read-encoded longest_second g (spread_below (10 ^ 19 + 256) true (omega arith))) longest_lines
