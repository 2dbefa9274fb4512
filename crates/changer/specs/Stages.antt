-- The calls stage by stage on structs, as the code goes, after the tests of specs/Before.antt; that they come to the answers of specs/Calls.antt is proofs/Same.antt. Assumes nothing.
use Rattle.std.specs.Prelude.{ℕ, min, Bool, false, ◌||◌, cond, List, [], ◌∷◌, eqb}
use Rattle.rules.specs.Ids.{is_empty}
use Rattle.rules.specs.State.{Entry, add, remove}
use Rattle.rules.specs.Calls.{removals}
use Rattle.idset.specs.Places.{first_is, two_apart}
use Rattle.idset.specs.Set.{held, set_of, insert_of, remove_of, union_of}
use Rattle.idset.specs.declared.IdSet.{IdSet}
use Rattle.tracker.specs.Bridge.{conf_of, log_of, change_log_of}
use Rattle.tracker.specs.Apply.{Verdict, verdict_of}
use Rattle.tracker.specs.declared.Configuration.{Configuration}
use Rattle.tracker.specs.declared.ChangeLog.{ChangeLog}
use Rattle.tracker.specs.declared.Tracker.{Tracker}
use Rattle.invariants.specs.Walk.{past}
use Rattle.invariants.specs.Check.{check_walk}
use Rattle.changes.specs.Change.{Carried, work_in, changes_in}
use Rattle.changer.specs.Before.{may_enter, may_leave, may_simple}
use Rattle.changer.specs.Calls.{Answer}

abbrev pub accepted_in : Configuration → ChangeLog → ℕ → Answer
accepted_in c log i = record { number = 0; id = 0; conf = c; log = log; idle = i }

abbrev pub refused_in : Configuration → ℕ → ℕ → Answer
refused_in c n x = record { number = n; id = x; conf = c; log = change_log_of []; idle = 0 }

-- where the tests refuse, the configuration that was given; else the rest
abbrev pub given : Verdict → Configuration → Answer → Answer
given v c a = cond (eqb v.number 0) a (refused_in c v.number v.id)

-- ** The changes

abbrev pub entering_in : Configuration → Configuration
entering_in c =
    record {
      incoming = c.incoming;
      outgoing = c.incoming;
      learners = c.learners;
      learners_next = c.learners_next;
      auto_leave = c.auto_leave;
    }

abbrev pub with_auto : Bool → Configuration → Configuration
with_auto auto c =
    record {
      incoming = c.incoming;
      outgoing = c.outgoing;
      learners = c.learners;
      learners_next = c.learners_next;
      auto_leave = auto;
    }

abbrev pub with_auto_in : Bool → Answer → Answer
with_auto_in auto a = record { number = a.number; id = a.id; conf = with_auto auto a.conf; log = a.log; idle = a.idle }

-- 16, 17, or what the list came to
abbrev pub after_list : Configuration → Carried → Answer
after_list c w =
    cond w.full (refused_in c 16 w.id)
    (cond (is_empty (held w.conf.incoming)) (refused_in c 17 0)
    (accepted_in w.conf w.log w.idle))

abbrev pub carried_in : IdSet → Configuration → List ℕ → List ℕ → Answer
carried_in tracked c ids kinds = after_list c (changes_in (held tracked) ids kinds (work_in c (change_log_of []) (min tracked.len 64) 0))

-- ** After the changes

-- one entry over the tracked ids, and a log over them
abbrev pub pending_one : Entry → IdSet → IdSet
pending_one (add x) s = (insert_of x s).set
pending_one (remove x) s = (remove_of x s).set

unfoldable pub pending_in : List Entry → IdSet → IdSet
pending_in [] s = s
pending_in (e ∷ es) s = pending_in es (pending_one e s)

-- the check again
abbrev pub again_in : IdSet → Configuration → Answer → Answer
again_in tracked c a = given (verdict_of (check_walk (held (pending_in (log_of a.log) tracked)) (conf_of a.conf))) c a

-- ** Leaving

-- those of outgoing that the walk meets neither in incoming nor in learners
unfoldable pub gone_walk : List ℕ → List ℕ → List ℕ → List ℕ
gone_walk [] is ls = []
gone_walk (x ∷ xs) is ls =
    cond (first_is x (past x is) || first_is x (past x ls))
    (gone_walk xs (past x is) (past x ls))
    (x ∷ gone_walk xs (past x is) (past x ls))

abbrev pub learners_after : Configuration → IdSet
learners_after c = (union_of c.learners_next c.learners).set

abbrev pub left_in : Configuration → Configuration
left_in c =
    record {
      incoming = c.incoming;
      outgoing = set_of [];
      learners = learners_after c;
      learners_next = set_of [];
      auto_leave = false;
    }

abbrev pub leaving_in : Configuration → Answer
leaving_in c = accepted_in (left_in c) (change_log_of (removals (gone_walk (held c.outgoing) (held c.incoming) (held (learners_after c))))) 0

-- ** The calls

-- an accepted answer goes on; a refused one is given with the configuration that was asked of
abbrev pub then_on : Configuration → Answer → Answer → Answer
then_on c a b = cond (eqb a.number 0) b (refused_in c a.number a.id)

unfoldable pub enter_in : Tracker → Bool → List ℕ → List ℕ → Answer
enter_in t auto ids kinds =
    given (may_enter t ids kinds) t.conf
    (let a : Answer = carried_in t.ids (entering_in t.conf) ids kinds in
    then_on t.conf a (again_in t.ids t.conf (with_auto_in auto a)))

unfoldable pub leave_in : Tracker → Answer
leave_in t = given (may_leave t) t.conf (again_in t.ids t.conf (leaving_in t.conf))

unfoldable pub simple_in : Tracker → List ℕ → List ℕ → Answer
simple_in t ids kinds =
    given (may_simple t ids kinds) t.conf
    (let a : Answer = carried_in t.ids t.conf ids kinds in
    then_on t.conf a
    (cond (two_apart false (held a.conf.incoming) (held t.conf.incoming)) (refused_in t.conf 18 0) (again_in t.ids t.conf a)))
