-- What is read back from what was written is what was written: each block, and a whole reply, whatever bytes stand after it. Of a value it is
-- asked only that it has its type (Typed.antt), as every value that the code holds has (TypedRows.antt). Assumes nothing.
use Prim.Native.Nat.{ℕ}
use mathlib.Core.Path.{◌≡◌, ap, ◌∙◌}
use mathlib.Core.List.{List, [], ◌∷◌, ◌++◌}
use native.Mathlib.Omega.{arith}
use lib.ListN.{length, drop}
use Rattle.idset.specs.declared.IdSet.{IdSet}
use Rattle.tracker.specs.declared.Configuration.{Configuration}
use Rattle.tracker.specs.declared.ChangeLog.{ChangeLog}
use Rattle.tracker.specs.declared.Tracker.{Tracker}
use Rattle.tracker.specs.declared.ConfState.{ConfState}
use Rattle.calls.specs.declared.Reply.{Reply}
use Rattle.unplug.specs.Words.{flag}
use Rattle.calls.specs.Layout.{word, set_at, conf_at, state_at, log_at, conf_state_at}
use Rattle.calls.specs.Reply.{all_bytes, set_words, conf_words, state_words, log_words, conf_state_words}
use Rattle.calls.specs.Call.{reply_to, reply_words, call_answer, call_leaves}
use Rattle.calls.proofs.Typed.{TypedSet, TypedConf, TypedState, TypedLog, TypedConfState, TypedReply}
use Rattle.calls.proofs.WriteLengths.{state-length, log-length, conf-state-length}
use Rattle.calls.proofs.RoundWords.{Reads, reads_all, reads-left, reads_right, reads_first, reads-next}
use Rattle.calls.proofs.RoundSmall.{set-small, conf-small, state-small, log-small, conf-state-small, reply-small}
use Rattle.calls.proofs.RoundSets.{flag-back, set-read, conf-read, conf-state-read}
use Rattle.calls.proofs.RoundStates.{state-read, log-read}

-- ** A block

module _ (r : List ℕ) where
  pub set_round : (x : IdSet) → TypedSet x → set_at (all_bytes (set_words x) ++ r) 0 ≡ x
  set_round x z = set-read z (reads_all r (set-small z))

  pub conf_round : (c : Configuration) → TypedConf c → conf_at (all_bytes (conf_words c) ++ r) 0 ≡ c
  conf_round c z = conf-read z (reads_all r (conf-small z))

  pub state_round : (t : Tracker) → TypedState t → state_at (all_bytes (state_words t) ++ r) 0 ≡ t
  state_round t z = state-read z (reads_all r (state-small z))

  pub log_round : (l : ChangeLog) → TypedLog l → log_at (all_bytes (log_words l) ++ r) 0 ≡ l
  log_round l z = log-read z (reads_all r (log-small z))

  pub conf_state_round : (c : ConfState) → TypedConfState c → conf_state_at (all_bytes (conf_state_words c) ++ r) 0 ≡ c
  conf_state_round c z = conf-state-read z (reads_all r (conf-state-small z))

-- ** A reply

-- the reply that bytes hold, each block at its place
abbrev pub reply_at : List ℕ → Reply
reply_at s = record {
  number = word s 0;
  id = word s 1;
  yes = flag (word s 2);
  tracker = state_at s 3;
  log = log_at s 970;
  conf_state = conf_state_at s 1483;
  idle = word s 1744;
}

reply-read : {s : List ℕ} {r : Reply} → TypedReply r → Reads s 0 (reply_words r) → reply_at s ≡ r
unfolding reply_words
reply-read {s} {r} z f =
    let a = state_words r.tracker in
    let b = log_words r.log in
    let c = conf_state_words r.conf_state in
    let d = r.idle ∷ [] in
    let f1 = reads-next f in
    let f2 = reads-next f1 in
    let f3 = reads-next f2 in
    let f4 = reads_right a (b ++ (c ++ d)) f3 970 (omega (arith, state-length z.tracker)) in
    let f5 = reads_right b (c ++ d) f4 1483 (omega (arith, log-length z.log)) in
    let f6 = reads_right c d f5 1744 (omega (arith, conf-state-length z.conf_state)) in
    let yes : flag (word s 2) ≡ r.yes = ap (λ (w : ℕ). flag w) (reads_first f2) ∙ flag-back r.yes in
    λ j. record {
      number = reads_first f j;
      id = reads_first f1 j;
      yes = yes j;
      tracker = state-read z.tracker (reads-left a (b ++ (c ++ d)) f3) j;
      log = log-read z.log (reads-left b (c ++ d) f4) j;
      conf_state = conf-state-read z.conf_state (reads-left c d f5) j;
      idle = reads_first f6 j;
    }

pub reply_round : (r : Reply) (rest : List ℕ) → TypedReply r → reply_at (all_bytes (reply_words r) ++ rest) ≡ r
reply_round r rest z = reply-read z (reads_all rest (reply-small z))

-- what the entry leaves where it accepts a request is read as the reply to that request
pub call_round : (s out : List ℕ) → call_answer s (length out) ≡ 0 → TypedReply (reply_to s) → reply_at (call_leaves s out) ≡ reply_to s
unfolding call_leaves
call_round s out e z = rw e (reply_round (reply_to s) (drop 13960 out) z)
