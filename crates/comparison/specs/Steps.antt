-- What the functions under the comparison give. Assumes nothing.
use Rattle.std.specs.Prelude.{ℕ, ◌+◌, ◌≤◌, ◌≡◌, Bool, true, cond, List, [], ◌∷◌, ◌++◌, min, length, take, drop, ◌^◌, Option, Some, None, Result, Ok, Err}
use Rattle.rules.specs.Ids.{ascending}
use Rattle.rules.specs.State.{ConfState}
use Rattle.rules.specs.Message.{Few64, read, number_read, message_read}
use Rattle.text.specs.Text.{ascii}
use Rattle.idset.specs.Places.{first_is}
use Rattle.confstate.specs.Words.{message_in}
use Rattle.comparison.specs.Compare.{refusal}
use Rattle.comparison.specs.Told.{as_sets}
use Rattle.comparison.specs.declared.line.Standing.{Standing}
use Rattle.comparison.specs.declared.refusal.Refusal.{Refusal}
use Rattle.comparison.specs.declared.refusal.Refusal.TheVariants.{CutShort, Malformed, TooMany, Unfit, NoRoom}
use Rattle.comparison.specs.declared.walk.Places.{Places}

-- ** Lists in order

-- 261 words, with at most 64 ids in each list
pub record Lists (ws : List ℕ) : Type 0 where
  pub long : length ws ≡ 261
  pub few : Few64 (message_in ws)

-- and each list ascends
pub record Sorted (m : ConfState) : Type 0 where
  pub voters : ascending m.voters ≡ true
  pub learners : ascending m.learners ≡ true
  pub voters_outgoing : ascending m.voters_outgoing ≡ true
  pub learners_next : ascending m.learners_next ≡ true

pub record Ascending (ws : List ℕ) : Type 0 where
  pub lists : Lists ws
  pub sorted : Sorted (message_in ws)

-- of places that were `old`, of which n were used, the first r are now the list xs; those after the one that may have been added are as they were
pub record Placed (old : List ℕ) (n : ℕ) (new : List ℕ) (r : ℕ) (xs : List ℕ) : Type 0 where
  pub long : length new ≡ length old
  pub count : r ≡ length xs
  pub ids : take r new ≡ xs
  pub rest : drop (n + 1) new ≡ drop (n + 1) old

-- ** Refusals

-- the number of a refusal
abbrev pub number_of : Refusal → ℕ
number_of CutShort = 28
number_of Malformed = 29
number_of TooMany = 30
number_of Unfit = 32
number_of NoRoom = 100

-- 0, or the number of the refusal
abbrev pub told_by : {A : Type 0} → Result A Refusal → ℕ
told_by (Ok x) = 0
told_by (Err r) = number_of r

-- a length, or 2^32 and the number of the refusal
abbrev pub answered : Result ℕ Refusal → ℕ
answered (Ok n) = n
answered (Err r) = 2 ^ 32 + number_of r

-- ** Messages

-- a message read into words: its number, and each list as a set, of a refused one empty
pub record SetsRead (l : List ℕ) (number : ℕ) (ws : List ℕ) : Type 0 where
  pub told : number ≡ number_read (read l)
  pub lists : Lists ws
  pub sets : message_in ws ≡ as_sets (message_read (read l))

-- both files; where neither is refused the words are their messages
pub record BothRead (readable : Bool) (l m : List ℕ) (number : ℕ) (first second : List ℕ) : Type 0 where
  pub told : number ≡ refusal readable l m
  pub first-sets : number ≡ 0 → SetsRead l 0 first
  pub second-sets : number ≡ 0 → SetsRead m 0 second

-- ** The walk

abbrev pub begin : Places
begin = record { voters = 0; outgoing = 0; learners = 0; next = 0 }

-- what is left of a message, from these places on
unfoldable pub left_of : List ℕ → Places → ConfState
left_of ws p =
    record {
      voters = drop p.voters (message_in ws).voters;
      learners = drop p.learners (message_in ws).learners;
      voters_outgoing = drop p.outgoing (message_in ws).voters_outgoing;
      learners_next = drop p.next (message_in ws).learners_next;
      auto_leave = (message_in ws).auto_leave;
    }

-- what was found, or the first of a list where that is less
unfoldable pub lesser_of : List ℕ → Option ℕ → Option ℕ
lesser_of [] f = f
lesser_of (x ∷ xs) None = Some x
lesser_of (x ∷ xs) (Some y) = Some (min y x)

abbrev pub least_of : ConfState → Option ℕ → Option ℕ
least_of m f = lesser_of m.learners_next (lesser_of m.learners (lesser_of m.voters_outgoing (lesser_of m.voters f)))

unfoldable pub next_of : ConfState → ConfState → Option ℕ
next_of a b = least_of b (least_of a None)

-- the lists that begin with x
unfoldable pub firsts_of : ConfState → ℕ → Standing
firsts_of m x =
    record {
      voters = first_is x m.voters;
      outgoing = first_is x m.voters_outgoing;
      learners = first_is x m.learners;
      next = first_is x m.learners_next;
    }

abbrev pub one_of : Bool → ℕ
one_of b = cond b 1 0

unfoldable pub past_of : Places → Standing → Places
past_of p s =
    record {
      voters = p.voters + one_of s.voters;
      outgoing = p.outgoing + one_of s.outgoing;
      learners = p.learners + one_of s.learners;
      next = p.next + one_of s.next;
    }

-- no place is past the end of a full list
pub record Within (p : Places) : Type 0 where
  pub voters : p.voters ≤ 64
  pub outgoing : p.outgoing ≤ 64
  pub learners : p.learners ≤ 64
  pub next : p.next ≤ 64

-- ** Names

-- a set's name where the id is in the set, after a `+` where a name stands before it
unfoldable pub name_text : Bool → Bool → List ℕ → List ℕ
name_text is-in later name = cond is-in (cond later (ascii "+") [] ++ name) []
