-- Demand 1 through the entries over lent bytes: what a refused dimecandle_replay and a refused dimecandle_call leave. Assumes nothing.
use Prim.Native.Nat.{ℕ, zero, suc, ◌+◌, ◌^◌}
use mathlib.Core.Path.{◌≡◌, refl, ap}
use mathlib.Core.Bool.{Bool, true, false, ◌||◌, cond, false≢true}
use mathlib.Core.List.{List, []}
use native.Mathlib.Omega.{arith}
use borrow.Author.Tests.{ltb-true}
use lib.Dec.{eqb, ltb}
use lib.ListN.{length}
use Rattle.rules.specs.Calls.{enter_joint, leave_joint, simple}
use Rattle.rules.specs.Idle.{enter_idles, simple_idles}
use Rattle.tracker.specs.Apply.{apply_of}
use Rattle.tracker.specs.Bridge.{change_log_of, state_of}
use Rattle.tracker.specs.ConfStates.{written_of}
use Rattle.tracker.specs.Apply.{Outcome}
use Rattle.tracker.specs.declared.Tracker.{Tracker}
use Rattle.invariants.specs.Check.{check_of, in_order_of}
use Rattle.changer.specs.Calls.{enter_answer, leave_answer, simple_answer}
use Rattle.changer.specs.Calls.{Answer}
use Rattle.restore.specs.Restore.{restore_of, step_by_step_of}
use Rattle.listing.specs.Listing.{listing, replay_answer, replay_leaves}
use Rattle.unplug.specs.Words.{flag}
use Rattle.calls.specs.Layout.{conf_at, conf_state_at, log_at, state_at, word}
use Rattle.calls.specs.Call.{call_answer, call_leaves, from_answer, from_outcome, from_verdict, from_written, ids_in, kinds_in, no_lists, no_log, reply, reply_to, with_conf}
use Rattle.calls.specs.declared.Reply.{Reply}
use Rattle.demands.specs.Demands.{AnswerUntouched, StateUntouched}
use Rattle.demands.proofs.Refused.{apply-untouched, asked-untouched, restore-untouched}

-- ** A script

pub replay_too_long : (script out : List ℕ) → ltb 65536 (length script) ≡ true → (replay_answer script (length out) ≡ 2 ^ 32 + 19) × (replay_leaves script out ≡ out)
unfolding replay_answer replay_leaves
replay_too_long script out h = (rw h, rw h)

pub replay_no_room : (script out : List ℕ) → ltb 65536 (length script) ≡ false → ltb (length out) (length (listing script)) ≡ true
    → (replay_answer script (length out) ≡ 2 ^ 32 + 20) × (replay_leaves script out ≡ out)
unfolding replay_answer replay_leaves
replay_no_room script out h k = (rw (h, k), rw (h, k))

-- ** A request

pub no_call : (request lent : List ℕ) → eqb (call_answer request (length lent)) 0 ≡ false → call_leaves request lent ≡ lent
unfolding call_leaves
no_call request lent h = rw h

-- the calls below 8 by their numbers
numbered : (n : ℕ) → ltb n 8 ≡ true → (eqb n 0 || (eqb n 1 || (eqb n 2 || (eqb n 3 || (eqb n 4 || (eqb n 5 || (eqb n 6 || eqb n 7))))))) ≡ true
numbered zero h = refl
numbered (suc zero) h = refl
numbered (suc (suc zero)) h = refl
numbered (suc (suc (suc zero))) h = refl
numbered (suc (suc (suc (suc zero)))) h = refl
numbered (suc (suc (suc (suc (suc zero))))) h = refl
numbered (suc (suc (suc (suc (suc (suc zero)))))) h = refl
numbered (suc (suc (suc (suc (suc (suc (suc zero))))))) h = refl
numbered (suc (suc (suc (suc (suc (suc (suc (suc n)))))))) h = absurd (omega (arith, ltb-true (suc (suc (suc (suc (suc (suc (suc (suc n)))))))) 8 h))

module _ (s : List ℕ) where
  abbrev t : Tracker
  t = state_at s 1

  -- refused, a reply has the state of the request, an empty log and 0
  abbrev Leaves : Reply → Type 0
  Leaves r = eqb r.number 0 ≡ false → (r.tracker ≡ t) × (r.log ≡ change_log_of []) × (r.idle ≡ 0)

  answered : (a : Answer) → AnswerUntouched t a → Leaves (from_answer t a)
  answered a u h = (ap (with_conf t) (u h).0, (u h).1, (u h).2)

  left : (o : Outcome) → StateUntouched t o → Leaves (from_outcome o)
  left o u h = (u h, refl, refl)

  -- which of them it is
  one : (b0 b1 b2 b3 b4 b5 b6 b7 : Bool) → (b0 || (b1 || (b2 || (b3 || (b4 || (b5 || (b6 || b7))))))) ≡ true
      → Leaves
      (cond b0 (from_verdict t (check_of t))
      (cond b1 (reply 0 0 (in_order_of t) t no_log no_lists 0)
      (cond b2 (from_answer t (simple_answer t (ids_in s) (kinds_in s)))
      (cond b3 (from_answer t (enter_answer t (flag (word s 968)) (ids_in s) (kinds_in s)))
      (cond b4 (from_answer t (leave_answer t))
      (cond b5 (from_outcome (apply_of t (conf_at s 1492) (log_at s 1753) (word s 969)))
      (cond b6 (from_written t (written_of t))
      (cond b7 (from_outcome (restore_of t (conf_state_at s 2266) (word s 969)))
      (from_outcome (step_by_step_of t (conf_state_at s 2266) (word s 969)))))))))))
  unfolding simple_answer enter_answer leave_answer
  one true b1 b2 b3 b4 b5 b6 b7 e h = (refl, refl, refl)
  one false true b2 b3 b4 b5 b6 b7 e h = (refl, refl, refl)
  one false false true b3 b4 b5 b6 b7 e h = answered (simple_answer t (ids_in s) (kinds_in s)) (asked-untouched t (simple_idles (state_of t) (ids_in s) (kinds_in s)) (simple (state_of t) (ids_in s) (kinds_in s))) h
  one false false false true b4 b5 b6 b7 e h = answered (enter_answer t (flag (word s 968)) (ids_in s) (kinds_in s)) (asked-untouched t (enter_idles (state_of t) (flag (word s 968)) (ids_in s) (kinds_in s)) (enter_joint (state_of t) (flag (word s 968)) (ids_in s) (kinds_in s))) h
  one false false false false true b5 b6 b7 e h = answered (leave_answer t) (asked-untouched t 0 (leave_joint (state_of t))) h
  one false false false false false true b6 b7 e h = left (apply_of t (conf_at s 1492) (log_at s 1753) (word s 969)) (apply-untouched t (conf_at s 1492) (log_at s 1753) (word s 969)) h
  one false false false false false false true b7 e h = (refl, refl, refl)
  one false false false false false false false true e h = left (restore_of t (conf_state_at s 2266) (word s 969)) (restore-untouched t (conf_state_at s 2266) (word s 969)) h
  one false false false false false false false false e h = absurd (false≢true e)

  pub call : ltb (word s 0) 8 ≡ true → Leaves (reply_to s)
  unfolding reply_to
  call h = one (eqb (word s 0) 0) (eqb (word s 0) 1) (eqb (word s 0) 2) (eqb (word s 0) 3) (eqb (word s 0) 4) (eqb (word s 0) 5) (eqb (word s 0) 6) (eqb (word s 0) 7) (numbered (word s 0) h)
