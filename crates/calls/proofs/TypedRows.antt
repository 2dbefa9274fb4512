-- A value that the code holds has its type (Typed.antt): its own relation (`c.good`, or `.ok` of a call) tells. Assumes nothing.
use Prim.Native.Nat.{ℕ}
use mathlib.Core.List.{List, [], ◌∷◌}
use mir.Val.{Val}
use denote.Shadow.{shadow}
use denote.Laws.{Is}
use denote.Array as A
use denote.RattleType.{RattleType}
use denote.Builtin.{u64}
use denote.Struct.Laws as LL
use Rattle.progress.specs.declared.Progress.{Progress}
use Rattle.progress.specs.contracts.Progress as P
use Rattle.progress.proofs.Progress.TheLaws as P'
use Rattle.idset.specs.declared.IdSet.{IdSet}
use Rattle.idset.specs.contracts.IdSet as I
use Rattle.idset.proofs.IdSet.TheLaws as I'
use Rattle.tracker.specs.declared.Configuration.{Configuration}
use Rattle.tracker.specs.declared.MapChange.{MapChange}
use Rattle.tracker.specs.declared.ChangeLog.{ChangeLog}
use Rattle.tracker.specs.declared.Tracker.{Tracker}
use Rattle.tracker.specs.declared.IdList.{IdList}
use Rattle.tracker.specs.declared.ConfState.{ConfState}
use Rattle.tracker.specs.contracts.Configuration as K
use Rattle.tracker.proofs.Configuration.TheLaws as K'
use Rattle.tracker.specs.contracts.MapChange as M
use Rattle.tracker.proofs.MapChange.TheLaws as M'
use Rattle.tracker.specs.contracts.ChangeLog as G
use Rattle.tracker.proofs.ChangeLog.TheLaws as G'
use Rattle.tracker.specs.contracts.Tracker as T
use Rattle.tracker.proofs.Tracker.TheLaws as T'
use Rattle.tracker.specs.contracts.IdList as L
use Rattle.tracker.proofs.IdList.TheLaws as L'
use Rattle.tracker.specs.contracts.ConfState as S
use Rattle.tracker.proofs.ConfState.TheLaws as S'
use Rattle.calls.specs.declared.Reply.{Reply}
use Rattle.calls.specs.contracts.Reply as R
use Rattle.calls.proofs.Reply.TheLaws as R'
use Rattle.calls.proofs.Typed.{Each, none, more, ArrayOf, TypedSet, TypedList, TypedConf, TypedRecord, TypedState, TypedEntry, TypedLog, TypedConfState, TypedReply}

-- ** Arrays

module _ (R : RattleType) {Q : R.Denot → Type 0} (h : (x : R.Denot) (v : Val) → Is R x (v ∷ []) → Q x) where
  each_typed : (xs : List R.Denot) (us : List Val) → shadow (A.each R.Denot R.own_val xs us) → Each Q xs
  each_typed [] us s = none
  each_typed (x ∷ xs) [] s = absurd s
  each_typed (x ∷ xs) (u ∷ us) s = more (h x u s.0) (each_typed xs us s.1)

  array_typed : {n : ℕ} {vs : List Val} (xs : List R.Denot) → Is (A.Array R n) xs vs → ArrayOf n Q xs
  array_typed xs p = record { places = p.1.0.1; each = each_typed xs p.0 p.1.1 }

-- ** Structs

pub set_typed : {vs : List Val} (s : IdSet) → Is I.the_row s vs → TypedSet s
set_typed {vs} s p =
    let o = LL.owed I.the_type I'.the_laws s vs p in
    record { ids = array_typed u64 (λ x v q. q.1) s.ids o.0; len = o.1.0.1 }

pub list_typed : {vs : List Val} (l : IdList) → Is L.the_row l vs → TypedList l
list_typed {vs} l p =
    let o = LL.owed L.the_type L'.the_laws l vs p in
    record { ids = array_typed u64 (λ x v q. q.1) l.ids o.0; len = o.1.0.1 }

pub conf_typed : {vs : List Val} (c : Configuration) → Is K.the_row c vs → TypedConf c
conf_typed {vs} c p =
    let o = LL.owed K.the_type K'.the_laws c vs p in
    record {
      incoming = set_typed c.incoming o.0;
      outgoing = set_typed c.outgoing o.1.0;
      learners = set_typed c.learners o.1.1.0;
      learners_next = set_typed c.learners_next o.1.1.1.0;
    }

pub record_typed : {vs : List Val} (p : Progress) → Is P.the_row p vs → TypedRecord p
record_typed {vs} p q =
    let o = LL.owed P.the_type P'.the_laws p vs q in
    record {
      matched = o.0.1;
      next_idx = o.1.0.1;
      pending_snapshot = o.1.1.1.1.0.1;
      pending_request_snapshot = o.1.1.1.1.1.0.1;
      max_inflight = o.1.1.1.1.1.1.1.0.1;
      commit_group_id = o.1.1.1.1.1.1.1.1.0.1;
      committed_index = o.1.1.1.1.1.1.1.1.1.0.1;
    }

pub state_typed : {vs : List Val} (t : Tracker) → Is T.the_row t vs → TypedState t
state_typed {vs} t p =
    let o = LL.owed T.the_type T'.the_laws t vs p in
    record {
      conf = conf_typed t.conf o.0;
      ids = set_typed t.ids o.1.0;
      records = array_typed P.the_row (λ x v q. record_typed x q) t.records o.1.1.0;
      max_inflight = o.1.1.1.0.1;
    }

entry_typed : {vs : List Val} (e : MapChange) → Is M.the_row e vs → TypedEntry e
entry_typed {vs} e p = record { id = (LL.owed M.the_type M'.the_laws e vs p).0.1 }

pub log_typed : {vs : List Val} (l : ChangeLog) → Is G.the_row l vs → TypedLog l
log_typed {vs} l p =
    let o = LL.owed G.the_type G'.the_laws l vs p in
    record { entries = array_typed M.the_row (λ x v q. entry_typed x q) l.entries o.0; count = o.1.0.1 }

pub conf_state_typed : {vs : List Val} (c : ConfState) → Is S.the_row c vs → TypedConfState c
conf_state_typed {vs} c p =
    let o = LL.owed S.the_type S'.the_laws c vs p in
    record {
      voters = list_typed c.voters o.0;
      learners = list_typed c.learners o.1.0;
      voters_outgoing = list_typed c.voters_outgoing o.1.1.0;
      learners_next = list_typed c.learners_next o.1.1.1.0;
    }

pub reply_typed : {vs : List Val} (r : Reply) → Is R.the_row r vs → TypedReply r
reply_typed {vs} r p =
    let o = LL.owed R.the_type R'.the_laws r vs p in
    record {
      number = o.0.1;
      id = o.1.0.1;
      tracker = state_typed r.tracker o.1.1.1.0;
      log = log_typed r.log o.1.1.1.1.0;
      conf_state = conf_state_typed r.conf_state o.1.1.1.1.1.0;
      idle = o.1.1.1.1.1.1.0.1;
    }
