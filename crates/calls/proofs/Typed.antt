-- What the types of a reply say of its values: a number is below 2 ^ 64, an array has its places. Assumes nothing.
use Prim.Native.Nat.{ℕ, ◌^◌, ◌<◌}
use mathlib.Core.Path.{◌≡◌}
use mathlib.Core.List.{List, [], ◌∷◌, ◌++◌}
use lib.ListN.{length}
use Rattle.progress.specs.declared.Progress.{Progress}
use Rattle.idset.specs.declared.IdSet.{IdSet}
use Rattle.tracker.specs.declared.Configuration.{Configuration}
use Rattle.tracker.specs.declared.MapChange.{MapChange}
use Rattle.tracker.specs.declared.ChangeLog.{ChangeLog}
use Rattle.tracker.specs.declared.Tracker.{Tracker}
use Rattle.tracker.specs.declared.IdList.{IdList}
use Rattle.tracker.specs.declared.ConfState.{ConfState}
use Rattle.calls.specs.declared.Reply.{Reply}

-- `u64`, and `usize`
abbrev pub U64 : ℕ → Type 0
U64 n = n < 2 ^ 64

-- each of a list
pub data Each {A : Type 0} (P : A → Type 0) : List A → Type 0 where
  none : Each P []
  more : {x : A} {xs : List A} → P x → Each P xs → Each P (x ∷ xs)

pub each_append : {A : Type 0} {P : A → Type 0} {xs ys : List A} → Each P xs → Each P ys → Each P (xs ++ ys)
each_append none q = q
each_append (more a p) q = more a (each_append p q)

-- `[T; n]`
pub record ArrayOf {A : Type 0} (n : ℕ) (P : A → Type 0) (xs : List A) : Type 0 where
  pub places : length xs ≡ n
  pub each : Each P xs

pub record TypedSet (s : IdSet) : Type 0 where
  pub ids : ArrayOf 64 U64 s.ids
  pub len : U64 s.len

pub record TypedList (l : IdList) : Type 0 where
  pub ids : ArrayOf 64 U64 l.ids
  pub len : U64 l.len

pub record TypedConf (c : Configuration) : Type 0 where
  pub incoming : TypedSet c.incoming
  pub outgoing : TypedSet c.outgoing
  pub learners : TypedSet c.learners
  pub learners_next : TypedSet c.learners_next

pub record TypedRecord (p : Progress) : Type 0 where
  pub matched : U64 p.matched
  pub next_idx : U64 p.next_idx
  pub pending_snapshot : U64 p.pending_snapshot
  pub pending_request_snapshot : U64 p.pending_request_snapshot
  pub max_inflight : U64 p.max_inflight
  pub commit_group_id : U64 p.commit_group_id
  pub committed_index : U64 p.committed_index

pub record TypedState (t : Tracker) : Type 0 where
  pub conf : TypedConf t.conf
  pub ids : TypedSet t.ids
  pub records : ArrayOf 64 TypedRecord t.records
  pub max_inflight : U64 t.max_inflight

pub record TypedEntry (e : MapChange) : Type 0 where
  pub id : U64 e.id

pub record TypedLog (l : ChangeLog) : Type 0 where
  pub entries : ArrayOf 256 TypedEntry l.entries
  pub count : U64 l.count

pub record TypedConfState (c : ConfState) : Type 0 where
  pub voters : TypedList c.voters
  pub learners : TypedList c.learners
  pub voters_outgoing : TypedList c.voters_outgoing
  pub learners_next : TypedList c.learners_next

pub record TypedReply (r : Reply) : Type 0 where
  pub number : U64 r.number
  pub id : U64 r.id
  pub tracker : TypedState r.tracker
  pub log : TypedLog r.log
  pub conf_state : TypedConfState r.conf_state
  pub idle : U64 r.idle
