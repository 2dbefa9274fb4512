-- What is proved of the lines: document 02, l). Assumes nothing.
use Prim.Native.Nat.{ℕ, ◌≤◌}
use mathlib.Core.Path.{◌≡◌}
use mathlib.Core.Bool.{Bool, true, false, ◌||◌}
use mathlib.Core.List.{List, []}
use lib.ListN.{length}
use Rattle.rules.specs.Ids.{memb, ascending}
use Rattle.rules.specs.State.{ConfState}
use Rattle.rules.specs.Message.{Below64, Few64, encoded, read, taken}
use Rattle.comparison.specs.Compare.{comparison, ids_of, ids_of_both, lines, same, standing}
use Rattle.comparison.specs.Told.{as_sets, second}
use Rattle.comparison.proofs.Meaning as meaning
use Rattle.comparison.proofs.Second as second-message
use Rattle.comparison.proofs.Size as size

-- "for every id whose standing differs": such an id is looked at; those that are looked at are the ids of both, "ids ascending", each once
pub differing_is_looked_at : (a b : ConfState) (x : ℕ) → same (standing a x) (standing b x) ≡ false → memb x (ids_of_both a b) ≡ true
differing_is_looked_at = meaning.differing_line

pub ids_are_those_of_both : (a b : ConfState) (x : ℕ) → memb x (ids_of_both a b) ≡ memb x (ids_of a) || memb x (ids_of b)
ids_are_those_of_both = meaning.every_id

pub ids_ascend : (a b : ConfState) → ascending (ids_of_both a b) ≡ true
ids_ascend = meaning.ids_ascend

-- "Equal meaning gives no line", and no line means equal meaning
pub equal-is-silent : (a b : ConfState) → as_sets a ≡ as_sets b → lines a b ≡ []
equal-is-silent = meaning.equal-is-silent

pub silent-is-equal : (a b : ConfState) → lines a b ≡ [] → as_sets a ≡ as_sets b
silent-is-equal = meaning.silent-is-equal

-- "a reader of the lines with the first message can state the second's sets exactly", and its flag
pub second-is-told : (a b : ConfState) → Below64 a → Below64 b → second a (lines a b) ≡ as_sets b
second-is-told = second-message.second-is-told

pub second_that_was_read_is_told : (l m : List ℕ) {a b : ConfState} → read l ≡ taken a → read m ≡ taken b → second a (lines a b) ≡ as_sets b
second_that_was_read_is_told = second-message.lines-told

-- at most 512 ids, and 20,761 bytes; two files give just as many
pub ids-few : (a b : ConfState) → Few64 a → Few64 b → length (ids_of_both a b) ≤ 512
ids-few = size.ids-few

pub lines_fit : (a b : ConfState) → Few64 a → Few64 b → length (lines a b) ≤ 20761
lines_fit = size.lines-size

pub text_fits : (readable : Bool) (l m : List ℕ) → length (comparison readable l m) ≤ 20761
text_fits = size.comparison-size

pub longest_is_printed : length (comparison true (encoded size.longest_first) (encoded size.longest_second)) ≡ 20761
longest_is_printed = size.longest_is_printed
