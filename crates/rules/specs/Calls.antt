-- `simple`, `enter_joint` and `leave_joint`: document 01, "What one change does to one id", in the order of "Refusal numbers": "1, 2, 3;
-- then 4, 5 or 6; the check; 15; the changes, stopping at the first 16; 17; 18; the check again." Assumes nothing.
use Rattle.std.specs.Prelude.{ℕ, ◌+◌, Bool, false, ◌||◌, not, cond, List, [], ◌∷◌, length, eqb, ltb, leb}
use Rattle.rules.specs.Ids.{insert_all, is_empty, minus}
use Rattle.rules.specs.State.{Change, Conf, Entry, Kind, State, add_learner, add_node, formed, ids, remove, remove_node}
use Rattle.rules.specs.Answers.{Answer, Verdict, ◌⇒◌, ◌▸◌, accepted, each, refuse, refused}
use Rattle.rules.specs.Check.{check, is_tracked, joint}
use Rattle.rules.specs.Changes.{Done, Work, changes, done, full, pending_tracked}

-- ** 1, 2, 3

-- "0 AddNode, 1 RemoveNode, 2 AddLearnerNode"
abbrev pub kind_of : ℕ → Kind
kind_of k = cond (eqb k 0) add_node (cond (eqb k 1) remove_node add_learner)

-- the list of changes that ids and kinds give
unfoldable pub list_of : List ℕ → List ℕ → List Change
list_of [] ks = []
list_of (x ∷ xs) [] = []
list_of (x ∷ xs) (k ∷ ks) = record { kind = kind_of k; id = x } ∷ list_of xs ks

-- 2: "a list too long, or ids and kinds of unequal length"; 3: "a kind above 2"
unfoldable pub readable : List ℕ → List ℕ → Verdict
readable xs ks =
    refuse (not (eqb (length xs) (length ks)) || ltb 256 (length xs)) 2 0
    ▸ each (λ k. refuse (ltb 2 k) 3 0) ks

-- ** simple

-- the work before the first change
abbrev pub start : Conf → Work
start c = record { conf = c; log = [] }

-- the list was carried out, or stopped with 16
abbrev pub afterwards : Done → (Work → Answer) → Answer
afterwards (done w) k = k w
afterwards (full x) k = refused 16 x

-- the net difference: how many ids are in one and not in the other
abbrev pub difference : List ℕ → List ℕ → ℕ
difference xs ys = length (minus xs ys) + length (minus ys xs)

-- "`simple`: the list, then the net difference of incoming before and after."
unfoldable pub simple_of : State → List Change → Answer
simple_of s cs =
    refuse (joint s.conf) 6 0
    ▸ check (is_tracked s) s.conf
    ⇒ afterwards (changes (ids s.peers) cs (start s.conf)) (λ w.
    refuse (is_empty w.conf.incoming) 17 0
    ▸ refuse (leb 2 (difference w.conf.incoming s.conf.incoming)) 18 0
    ▸ check (pending_tracked (ids s.peers) w.log) w.conf
    ⇒ accepted w.conf w.log)

unfoldable pub simple : State → List ℕ → List ℕ → Answer
simple s xs ks = refuse (not (formed s)) 1 0 ▸ readable xs ks ⇒ simple_of s (list_of xs ks)

-- ** enter_joint

abbrev pub entering : Conf → Conf
entering c =
    record {
      incoming = c.incoming;
      outgoing = c.incoming;
      learners = c.learners;
      staged = c.staged;
      auto_leave = c.auto_leave;
    }

abbrev pub with_auto : Bool → Conf → Conf
with_auto a c =
    record {
      incoming = c.incoming;
      outgoing = c.outgoing;
      learners = c.learners;
      staged = c.staged;
      auto_leave = a;
    }

-- "`enter_joint`: outgoing becomes a copy of incoming, then the list, then `auto_leave` as asked."
unfoldable pub enter_of : State → Bool → List Change → Answer
enter_of s auto cs =
    refuse (joint s.conf) 4 0
    ▸ check (is_tracked s) s.conf
    ▸ refuse (is_empty s.conf.incoming) 15 0
    ⇒ afterwards (changes (ids s.peers) cs (start (entering s.conf))) (λ w.
    refuse (is_empty w.conf.incoming) 17 0
    ▸ check (pending_tracked (ids s.peers) w.log) (with_auto auto w.conf)
    ⇒ accepted (with_auto auto w.conf) w.log)

unfoldable pub enter_joint : State → Bool → List ℕ → List ℕ → Answer
enter_joint s auto xs ks = refuse (not (formed s)) 1 0 ▸ readable xs ks ⇒ enter_of s auto (list_of xs ks)

-- ** leave_joint

-- "staged ids join learners; .. outgoing empties; `auto_leave` is false"
abbrev pub leaving : Conf → Conf
leaving c =
    record {
      incoming = c.incoming;
      outgoing = [];
      learners = insert_all c.staged c.learners;
      staged = [];
      auto_leave = false;
    }

-- "each outgoing id now neither incoming nor learner is logged Remove, ascending"
abbrev pub gone : Conf → List ℕ
gone c = minus (minus c.outgoing c.incoming) (leaving c).learners

unfoldable pub removals : List ℕ → List Entry
removals [] = []
removals (x ∷ xs) = remove x ∷ removals xs

unfoldable pub leave_of : State → Answer
leave_of s =
    refuse (not (joint s.conf)) 5 0
    ▸ check (is_tracked s) s.conf
    ▸ check (pending_tracked (ids s.peers) (removals (gone s.conf))) (leaving s.conf)
    ⇒ accepted (leaving s.conf) (removals (gone s.conf))

unfoldable pub leave_joint : State → Answer
leave_joint s = refuse (not (formed s)) 1 0 ⇒ leave_of s
