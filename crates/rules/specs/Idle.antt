-- Which changes did nothing: document 02, b). "Each accepted `simple` and `enter_joint` then also gives the number of list entries that
-- left their id's standing unchanged and logged nothing, id 0 included." Assumes nothing.
use Rattle.std.specs.Prelude.{ℕ, suc, Bool, true, false, ◌&&◌, ◌||◌, not, List, [], ◌∷◌, eqb, length}
use Rattle.rules.specs.State.{Change, Kind, State, ids}
use Rattle.rules.specs.Answers.{Answer, accepted, refused}
use Rattle.rules.specs.Table.{Effect, I, IO, L, O, OS, Standing, adds, idle, none, removes, stays, table}
use Rattle.rules.specs.Changes.{Done, Work, change, done, full, standing_now}
use Rattle.rules.specs.Calls.{enter_joint, entering, list_of, simple, start}

-- ** One entry

abbrev pub row_number : Standing → ℕ
row_number none = 0
row_number idle = 1
row_number I = 2
row_number L = 3
row_number O = 4
row_number IO = 5
row_number OS = 6

abbrev pub same_standing : Standing → Standing → Bool
same_standing a b = eqb (row_number a) (row_number b)

abbrev pub logs_nothing : Effect → Bool
logs_nothing stays = true
logs_nothing adds = false
logs_nothing removes = false

-- the table leaves the standing as it is and logs nothing
unfoldable pub idle_row : Standing → Kind → Bool
idle_row s k = same_standing (table s k).0 s && logs_nothing (table s k).1

-- "the count read off document 01's table, taken from each entry's standing at its turn"; "id 0 included"
abbrev pub is_idle : List ℕ → Change → Work → Bool
is_idle base c w = eqb c.id 0 || idle_row (standing_now base w c.id) c.kind

-- the entry brought the work from w to v, and its id stands otherwise than before or the log is longer
abbrev pub moved_or_logged : List ℕ → Change → Work → Work → Bool
moved_or_logged base c w v =
    not (same_standing (standing_now base v c.id) (standing_now base w c.id) && eqb (length v.log) (length w.log))

-- ** A list

abbrev pub when_done : Done → (Work → ℕ) → ℕ
when_done (done w) k = k w
when_done (full x) k = 0

abbrev pub one_more_if : Bool → ℕ → ℕ
one_more_if true n = suc n
one_more_if false n = n

-- the entries that the test takes, each at its turn: it is asked of the work before the entry and after it
unfoldable pub count_of : (Change → Work → Work → Bool) → List ℕ → List Change → Work → ℕ
count_of test base [] w = 0
count_of test base (c ∷ cs) w = when_done (change base c w) (λ v. one_more_if (test c w v) (count_of test base cs v))

abbrev pub idles : List ℕ → List Change → Work → ℕ
idles base cs w = count_of (λ c v u. is_idle base c v) base cs w

abbrev pub works : List ℕ → List Change → Work → ℕ
works base cs w = count_of (moved_or_logged base) base cs w

-- ** A call

-- "a refused call gives 0"
abbrev pub if_accepted : Answer → ℕ → ℕ
if_accepted (accepted c log) n = n
if_accepted (refused m x) n = 0

unfoldable pub simple_idles : State → List ℕ → List ℕ → ℕ
simple_idles s xs ks = if_accepted (simple s xs ks) (idles (ids s.peers) (list_of xs ks) (start s.conf))

-- an entry's turn comes after incoming was copied to outgoing
unfoldable pub enter_idles : State → Bool → List ℕ → List ℕ → ℕ
enter_idles s auto xs ks = if_accepted (enter_joint s auto xs ks) (idles (ids s.peers) (list_of xs ks) (start (entering s.conf)))

-- the entries that moved their id or logged
unfoldable pub simple_works : State → List ℕ → List ℕ → ℕ
simple_works s xs ks = if_accepted (simple s xs ks) (works (ids s.peers) (list_of xs ks) (start s.conf))

unfoldable pub enter_works : State → Bool → List ℕ → List ℕ → ℕ
enter_works s auto xs ks = if_accepted (enter_joint s auto xs ks) (works (ids s.peers) (list_of xs ks) (start (entering s.conf)))
