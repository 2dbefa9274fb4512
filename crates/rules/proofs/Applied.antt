-- An accepted answer of any well-formed state, in order or not, fits and is applied: apply_conf never refuses it. Assumes nothing.
use Prim.Native.Nat.{ℕ, ◌≤◌}
use mathlib.Core.Path.{◌≡◌, ap, ◌∙◌, sym, fun_ext}
use mathlib.Core.Bool.{true, false}
use mathlib.Core.List.{List}
use borrow.Author.Tests.{le-leb}
use lib.ListN.{length}
use Rattle.progress.specs.declared.Progress.{Progress}
use Rattle.progress.specs.Record.{fresh_record}
use Rattle.rules.specs.Ids.{memb}
use Rattle.rules.specs.State.{Conf, State, ids, conf_formed, formed, Entry, log_formed}
use Rattle.rules.specs.Answers.{ok, accepted}
use Rattle.rules.specs.Check.{check, is_tracked, joint}
use Rattle.rules.specs.Changes.{pending_tracked}
use Rattle.rules.specs.Apply.{enrol, applied, apply_conf}
use Rattle.rules.specs.Restore.{Step, ask}
use Rattle.rules.proofs.Formed.{Whole, whole_of, of-whole, sets_of}
use Rattle.rules.proofs.Changes.{ids-enrol, last_says_lem}
use Rattle.rules.proofs.Check.{Apart, passes_of, single-apart, stands_of}
use Rattle.rules.proofs.Means.{asked-apart, asked-passes}
use Rattle.rules.proofs.Steps.{Checked, Stepped}
use Rattle.rules.proofs.Order.{step_short, asked-checked, conf-formed}

-- a well-formed state that passes the check, and in which no staged id is an incoming voter
pub checked-of : (s : State) → formed s ≡ true → check (is_tracked s) s.conf ≡ ok → Apart s.conf → Checked s
checked-of s f k a =
    let w : Whole s = whole_of s f in
    record {
      sound = record {
        incoming↑ = w.sets.incoming.rises;
        outgoing↑ = w.sets.outgoing.rises;
        learners↑ = w.sets.learners.rises;
        staged↑ = w.sets.staged.rises;
        ids↑ = w.tracked.rises;
        stands = stands_of (is_tracked s) s.conf (passes_of (is_tracked s) s.conf k) a;
      };
      few = w.tracked.few;
      checked = k;
    }

-- one that is not joint has no staged id
pub single-checked : (s : State) → formed s ≡ true → check (is_tracked s) s.conf ≡ ok → joint s.conf ≡ false → Checked s
single-checked s f k j = checked-of s f k (single-apart (is_tracked s) s.conf (passes_of (is_tracked s) s.conf k) j)

-- one of which a call was accepted
pub asked-from : (s : State) → formed s ≡ true → (p : Step) (c : Conf) (log : List Entry) → ask s p ≡ accepted c log → Checked s
asked-from s f p c log e = checked-of s f (asked-passes s p c log e) (asked-apart s p c log e)

pub record Applied (s : State) (n : ℕ) (c : Conf) (log : List Entry) : Type 0 where
  pub fits : conf_formed c ≡ true
  pub short : length log ≤ 256
  pub done : apply_conf s c log n ≡ record { verdict = ok; state = applied s c log n }
  pub formed-after : formed (applied s c log n) ≡ true

pub any_applied : (s : State) → formed s ≡ true → (n : ℕ) (p : Step) → step_short p → (c : Conf) (log : List Entry) → ask s p ≡ accepted c log → Applied s n c log
unfolding apply_conf log_formed
any_applied s f n p h c log e =
    record {
      fits = inside;
      short = d.short;
      done = rw (f, inside, le-leb (length log) 256 d.short, d.fits);
      formed-after = of-whole (applied s c log n) (record { sets = sets_of c inside; tracked = record { rises = d.sound.ids↑; few = few } });
    }
  where
    r : Progress
    r = fresh_record n s.max_inflight

    k : Checked s
    k = asked-from s f p c log e

    d : Stepped s (fresh_record n s.max_inflight) p c log
    d = asked-checked s k (fresh_record n s.max_inflight) p h c log e

    same : pending_tracked (ids s.peers) log ≡ (λ y. memb y (ids (enrol (fresh_record n s.max_inflight) log s.peers)))
    same = fun_ext (λ y. last_says_lem y log (ids s.peers) k.sound.ids↑ ∙ ap (memb y) (sym (ids-enrol (fresh_record n s.max_inflight) log s.peers)))

    few : length (ids (enrol (fresh_record n s.max_inflight) log s.peers)) ≤ 64
    few = rw (ids-enrol (fresh_record n s.max_inflight) log s.peers) d.few

    inside : conf_formed c ≡ true
    inside = conf-formed c (enrol (fresh_record n s.max_inflight) log s.peers) d.sound (passes_of (λ y. memb y (ids (enrol (fresh_record n s.max_inflight) log s.peers))) c (rw (← same) d.checked)) few
