-- The text of a line: document 01, "The replay script". Assumes nothing.
use Rattle.std.specs.Prelude.{ℕ, cond, List, [], ◌∷◌, ◌++◌}
use Rattle.rules.specs.Ids.{is_empty}
use Rattle.rules.specs.State.{Conf, Entry, add, remove}
use Rattle.rules.specs.Answers.{Answer, accepted, refused}
use Rattle.text.specs.Text.{decimal, each, group, ascii}

-- a set that is not empty, after its label: "empty learners, staged and a false flag print nothing"
unfoldable pub labelled : List ℕ → List ℕ → List ℕ
labelled label xs = cond (is_empty xs) [] (label ++ group xs)

-- "Sets print ascending; .. the order is voters, learners, learners_next, autoleave, log. Learners print as `learners=(5 6)`, staged alike"
unfoldable pub conf_text : Conf → List ℕ
conf_text c =
    ascii " voters=" ++ (group c.incoming
    ++ (labelled (ascii "&&") c.outgoing
    ++ (labelled (ascii " learners=") c.learners
    ++ (labelled (ascii " learners_next=") c.staged
    ++ cond c.auto_leave (ascii " autoleave") []))))

-- `+5`; "a Remove as `-5`"
unfoldable pub entry_text : Entry → List ℕ
entry_text (add x) = ascii "+" ++ decimal x
entry_text (remove x) = ascii "-" ++ decimal x

abbrev pub spaced_entry : Entry → List ℕ
spaced_entry e = ascii " " ++ entry_text e

-- the entries with spaces between them, in parentheses
unfoldable pub entries_text : List Entry → List ℕ
entries_text [] = []
entries_text (e ∷ es) = entry_text e ++ each spaced_entry es

unfoldable pub log_text : List Entry → List ℕ
log_text es = ascii "(" ++ (entries_text es ++ ascii ")")

-- `1 ok voters=(1) log=(+1)`, and a newline
unfoldable pub ok_line : ℕ → Conf → List Entry → List ℕ
ok_line k c log = decimal k ++ (ascii " ok" ++ (conf_text c ++ (ascii " log=" ++ (log_text log ++ ascii "\n"))))

-- `2 refused 18 id 0`, and a newline
unfoldable pub refused_line : ℕ → ℕ → ℕ → List ℕ
refused_line k number id = decimal k ++ (ascii " refused " ++ (decimal number ++ (ascii " id " ++ (decimal id ++ ascii "\n"))))

abbrev pub answer_line : ℕ → Answer → List ℕ
answer_line k (accepted c log) = ok_line k c log
answer_line k (refused n x) = refused_line k n x

-- "`stopped at byte K`"
unfoldable pub stopped_line : ℕ → List ℕ
stopped_line at = ascii "stopped at byte " ++ (decimal at ++ ascii "\n")
