-- The state and its numbers: document 01, the section of that name. Assumes nothing.
use Rattle.std.specs.Prelude.{ℕ, Bool, false, ◌&&◌, List, [], ◌∷◌, length, leb}
use Rattle.progress.specs.declared.Progress.{Progress}
use Rattle.rules.specs.Ids.{ascending, insert_all}

-- "Four id sets: incoming, outgoing, learners, staged (`learners_next`); a flag `auto_leave`"
pub record Conf : Type 0 where
  pub incoming : List ℕ
  pub outgoing : List ℕ
  pub learners : List ℕ
  pub staged : List ℕ
  pub auto_leave : Bool

-- "tracked ids, each with a record"
pub record Peer : Type 0 where
  pub id : ℕ
  pub progress : Progress

-- the tracked ids
unfoldable pub ids : List Peer → List ℕ
ids [] = []
ids (p ∷ ps) = p.id ∷ ids ps

-- a configuration, the tracked ids with their records, and `max_inflight`
pub record State : Type 0 where
  pub conf : Conf
  pub peers : List Peer
  pub max_inflight : ℕ

-- "Each set and the tracked list hold at most 64 ids, strictly ascending"
abbrev pub set_formed : List ℕ → Bool
set_formed xs = ascending xs && leb (length xs) 64

unfoldable pub conf_formed : Conf → Bool
conf_formed c = set_formed c.incoming && set_formed c.outgoing && set_formed c.learners && set_formed c.staged

unfoldable pub formed : State → Bool
formed s = conf_formed s.conf && set_formed (ids s.peers)

-- "Fresh: nothing in any set, nothing tracked, the flag false, `max_inflight` as given."
abbrev pub no_conf : Conf
no_conf = record { incoming = []; outgoing = []; learners = []; staged = []; auto_leave = false }

abbrev pub fresh : ℕ → State
fresh m = record { conf = no_conf; peers = []; max_inflight = m }

-- "A change list has at most 256 entries, given as ids and kinds of equal length: 0 AddNode, 1 RemoveNode, 2 AddLearnerNode."
pub data Kind : Type 0 where
  add_node add_learner remove_node : Kind

pub record Change : Type 0 where
  pub kind : Kind
  pub id : ℕ

-- "A log has at most 256 entries; each log entry holds an id and whether it is Add or Remove."
pub data Entry : Type 0 where
  add remove : ℕ → Entry

unfoldable pub log_formed : List Entry → Bool
log_formed log = leb (length log) 256

-- "A `ConfState` is four id lists of at most 64 entries each, in any order, repeats and zeros allowed, and the flag."
pub record ConfState : Type 0 where
  pub voters : List ℕ
  pub learners : List ℕ
  pub voters_outgoing : List ℕ
  pub learners_next : List ℕ
  pub auto_leave : Bool

-- the ids "in at least one of the four sets", ascending
abbrev pub members : Conf → List ℕ
members c = insert_all c.incoming (insert_all c.outgoing (insert_all c.learners c.staged))
