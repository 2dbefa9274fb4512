-- A CONFSTATE in words: docs/EMBEDDING.md. Assumes nothing.
use Rattle.std.specs.Prelude.{ℕ, ◌+◌, ◌-◌, Bool, ◌&&◌, cond, List, [], ◌∷◌, ◌++◌, eqb, leb, length, take, drop, get_or, replicate}
use Rattle.rules.specs.State.{ConfState}

-- ** From a message to words

-- a list: 64 places, zeros after the ids, and the count
unfoldable pub list_words : List ℕ → List ℕ
list_words xs = xs ++ (replicate (64 - length xs) 0 ++ (length xs ∷ []))

abbrev pub flag_word : Bool → ℕ
flag_word b = cond b 1 0

-- voters, learners, voters_outgoing, learners_next, auto_leave
unfoldable pub conf_state_words : ConfState → List ℕ
conf_state_words m =
    list_words m.voters
    ++ (list_words m.learners ++ (list_words m.voters_outgoing ++ (list_words m.learners_next ++ (flag_word m.auto_leave ∷ []))))

-- ** From words to a message

-- word k; one that is not there counts as 0
abbrev pub at : List ℕ → ℕ → ℕ
at ws k = get_or ws k 0

-- the list of the words from k on: as many as its count says. A count over 64 is so a list over 64, whatever it takes in.
unfoldable pub list_in : List ℕ → ℕ → List ℕ
list_in ws k = take (at ws (k + 64)) (drop k ws)

unfoldable pub message_in : List ℕ → ConfState
message_in ws =
    record {
      voters = list_in ws 0;
      learners = list_in ws 65;
      voters_outgoing = list_in ws 130;
      learners_next = list_in ws 195;
      auto_leave = eqb (at ws 260) 1;
    }

-- words that are a CONFSTATE: 261, and a flag of 0 or 1
unfoldable pub is_conf_state : List ℕ → Bool
is_conf_state ws = eqb (length ws) 261 && leb (at ws 260) 1
