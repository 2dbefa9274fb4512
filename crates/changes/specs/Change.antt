-- What a change, and a list of them, makes of any configuration and log, malformed ones included. On well-formed ones that passed the check it
-- is what the rules say (proofs/Rules.antt). Assumes nothing.
use Rattle.std.specs.Prelude.{Result, Ok, Err, ℕ, ◌+◌, ◌-◌, Bool, true, false, ◌||◌, cond, List, [], ◌∷◌, eqb, leb, ltb, set}
use Rattle.rules.specs.Ids.{memb}
use Rattle.idset.specs.Set.{held, insert_of, remove_of}
use Rattle.idset.specs.declared.IdSet.{IdSet}
use Rattle.tracker.specs.declared.Configuration.{Configuration}
use Rattle.tracker.specs.declared.ChangeLog.{ChangeLog}
use Rattle.tracker.specs.declared.MapChangeType.{MapChangeType}
use Rattle.tracker.specs.declared.MapChangeType.TheVariants.{Add, Remove}
use Rattle.changes.specs.declared.Work.{Work}
use Rattle.tracker.specs.declared.refusal.Refusal.{Refusal}
use Rattle.tracker.specs.declared.refusal.Refusal.TheVariants.{NoRoom}
use Rattle.changes.specs.declared.table.Standing.{Standing}
use Rattle.changes.specs.declared.table.Kind.{Kind}
use Rattle.changes.specs.declared.table.Effect.{Effect}
use Rattle.changes.specs.declared.table.Effect.TheVariants.{Stays, Adds, Removes}
use Rattle.changes.specs.declared.table.Move.{Move}
use Rattle.changes.specs.Pending.{tracked_in}
use Rattle.changes.specs.Table.{row_of, move_of, kind_in, incoming_at, learner_at, staged_at}

-- where x stands, t telling whether it is tracked
abbrev pub stands_in : Configuration → Bool → ℕ → Standing
stands_in c t x = row_of t (memb x (held c.incoming)) (memb x (held c.outgoing)) (memb x (held c.learners)) (memb x (held c.learners_next))

-- the set with x, or without it
abbrev pub put_in : Bool → ℕ → IdSet → IdSet
put_in b x s = cond b (insert_of x s).set (remove_of x s).set

-- "Inserting into a set and taking from it must say whether the set changed."
abbrev pub changed_in : Bool → ℕ → IdSet → Bool
changed_in b x s = cond b (insert_of x s).changed (remove_of x s).changed

-- x comes to the standing s in each set; no change touches outgoing
abbrev pub place_in : ℕ → Standing → Configuration → Configuration
place_in x s c =
    record {
      incoming = put_in (incoming_at s) x c.incoming;
      outgoing = c.outgoing;
      learners = put_in (learner_at s) x c.learners;
      learners_next = put_in (staged_at s) x c.learners_next;
      auto_leave = c.auto_leave;
    }

-- one of the sets says that it changed
abbrev pub any_changed_in : ℕ → Standing → Configuration → Bool
any_changed_in x s c =
    changed_in (incoming_at s) x c.incoming || changed_in (learner_at s) x c.learners || changed_in (staged_at s) x c.learners_next

-- the log with one entry more; a full log stays as it is
unfoldable pub push_in : ℕ → MapChangeType → ChangeLog → ChangeLog
push_in x k log =
    cond (leb 256 log.count) log (record { entries = set log.entries log.count (record { id = x; kind = k }); count = log.count + 1 })

-- one more, as far as a list can be long
abbrev pub one_more : ℕ → ℕ
one_more n = cond (ltb n 256) (n + 1) n

-- how many did nothing after an entry that logs nothing; b: a set changed
abbrev pub idle_after : Bool → ℕ → ℕ
idle_after b n = cond b n (one_more n)

-- a list as far as it is carried out: whether it stopped where there was no room, and for which id
pub record Carried : Type 0 where
  pub conf : Configuration
  pub log : ChangeLog
  pub tracked : ℕ
  pub idle : ℕ
  pub full : Bool
  pub id : ℕ

-- configuration, log, how many are tracked, how many entries did nothing
abbrev pub work_in : Configuration → ChangeLog → ℕ → ℕ → Carried
work_in c log n i = record { conf = c; log = log; tracked = n; idle = i; full = false; id = 0 }

-- no room for x
abbrev pub full_in : ℕ → Carried → Carried
full_in x w = record { conf = w.conf; log = w.log; tracked = w.tracked; idle = w.idle; full = true; id = x }

-- the entry is skipped
abbrev pub skipped_in : Carried → Carried
skipped_in w = record { conf = w.conf; log = w.log; tracked = w.tracked; idle = one_more w.idle; full = w.full; id = w.id }

-- the configuration is then c; b: a set changed
abbrev pub by_effect : Effect → ℕ → Configuration → Bool → Carried → Carried
by_effect Stays x c b w = work_in c w.log w.tracked (idle_after b w.idle)
by_effect Adds x c b w = cond (leb 64 w.tracked) (full_in x w) (work_in c (push_in x Add w.log) (w.tracked + 1) w.idle)
by_effect Removes x c b w = work_in c (push_in x Remove w.log) (w.tracked - 1) w.idle

abbrev pub moved_in : ℕ → Move → Carried → Carried
moved_in x m w = by_effect m.effect x (place_in x m.next w.conf) (any_changed_in x m.next w.conf) w

-- one change, by the table; one with id 0 is skipped, and did nothing
unfoldable pub change_in : List ℕ → ℕ → Kind → Carried → Carried
change_in base x k w =
    cond (eqb x 0) (skipped_in w)
    (moved_in x (move_of (stands_in w.conf (tracked_in base w.log.count w.log x) x) k) w)

-- a list: it stops where there is no room, or where either list ends
unfoldable pub changes_in : List ℕ → List ℕ → List ℕ → Carried → Carried
changes_in base [] ks w = w
changes_in base (x ∷ xs) [] w = w
changes_in base (x ∷ xs) (k ∷ ks) w =
    let v : Carried = change_in base x (kind_in k) w in
    cond v.full v (changes_in base xs ks v)

-- ** The same on the struct that is worked on

abbrev pub started : Work → Carried
started w = work_in w.conf w.log w.tracked w.idle

-- what is left in it: where there was no room, as far as the list came
abbrev pub left_of : Carried → Work
left_of c = record { conf = c.conf; log = c.log; tracked = c.tracked; idle = c.idle }

-- 16, with the id for which there was no room
abbrev pub answer : Bool → ℕ → Result (Unit {0}) Refusal
answer true x = Err (NoRoom x)
answer false x = Ok tt

abbrev pub answer_of : Carried → Result (Unit {0}) Refusal
answer_of c = answer c.full c.id
