-- The check, and in order: document 01, under the table of refusal numbers and in "The state and its numbers". Assumes nothing.
use Rattle.std.specs.Prelude.{ℕ, Bool, ◌&&◌, not}
use Rattle.rules.specs.Ids.{apart, insert_all, is_empty, memb, same_ids}
use Rattle.rules.specs.State.{Conf, State, formed, ids, members}
use Rattle.rules.specs.Answers.{Verdict, ◌▸◌, each, passes, refuse}

-- "Joint means outgoing is not empty."
abbrev pub joint : Conf → Bool
joint c = not (is_empty c.outgoing)

-- "The check: voters of incoming or outgoing ascending (7); learners ascending, for each one 8, 9, 10; staged ascending, for each
-- one 11, 12; if not joint, 13, then 14." Whether an id is tracked is asked of t.
unfoldable pub check : (ℕ → Bool) → Conf → Verdict
check t c =
    each (λ x. refuse (not (t x)) 7 x) (insert_all c.incoming c.outgoing)
    ▸ each (λ x. refuse (not (t x)) 8 x ▸ refuse (memb x c.outgoing) 9 x ▸ refuse (memb x c.incoming) 10 x) c.learners
    ▸ each (λ x. refuse (not (t x)) 11 x ▸ refuse (not (memb x c.outgoing)) 12 x) c.staged
    ▸ refuse (not (joint c) && not (is_empty c.staged)) 13 0
    ▸ refuse (not (joint c) && c.auto_leave) 14 0

abbrev pub is_tracked : State → ℕ → Bool
is_tracked s x = memb x (ids s.peers)

-- the check, asked of any state: 1 first
unfoldable pub check_state : State → Verdict
check_state s = refuse (not (formed s)) 1 0 ▸ check (is_tracked s) s.conf

-- "In order (an added yes or no): well formed, passes the check below, no id 0 anywhere, and tracked ids exactly those in at least
-- one of the four sets." It "shall also ask that no staged id is an incoming voter; the ported check stays as the Rust has it" (document
-- 02, h).
unfoldable pub in_order : State → Bool
in_order s =
    formed s
    && passes (check (is_tracked s) s.conf)
    && (not (memb 0 (ids s.peers)) && not (memb 0 (members s.conf)))
    && same_ids (ids s.peers) (members s.conf)
    && apart s.conf.staged s.conf.incoming
