-- `apply_conf` and `to_conf_state`: document 01, "What one change does to one id". Assumes nothing.
use Rattle.std.specs.Prelude.{ℕ, false, ◌&&◌, ◌||◌, not, cond, List, [], ◌∷◌, length, eqb, ltb, leb}
use Rattle.progress.specs.Record.{fresh_record}
use Rattle.progress.specs.declared.Progress.{Progress}
use Rattle.rules.specs.Ids.{insert_id, memb, remove_id}
use Rattle.rules.specs.State.{Conf, ConfState, Entry, Peer, State, add, conf_formed, formed, ids, log_formed, remove}
use Rattle.rules.specs.Answers.{Outcome, Verdict, ◌▸◌, fault, ok, refuse, settle}

-- ** The tracked list

-- x tracked with the record r, over any old one
unfoldable pub track : ℕ → Progress → List Peer → List Peer
track x r [] = record { id = x; progress = r } ∷ []
track x r (p ∷ ps) =
    cond (ltb p.id x) (p ∷ track x r ps)
    (cond (eqb p.id x) (record { id = x; progress = r } ∷ ps)
    (record { id = x; progress = r } ∷ p ∷ ps))

-- x no longer tracked
unfoldable pub untrack : ℕ → List Peer → List Peer
untrack x [] = []
untrack x (p ∷ ps) = cond (eqb p.id x) ps (p ∷ untrack x ps)

-- ** apply_conf

-- "16 if an Add would need a 65th tracked id"
unfoldable pub room : List Entry → List ℕ → Verdict
room [] base = ok
room (add x ∷ es) base = refuse (not (memb x base) && leb 64 (length base)) 16 x ▸ room es (insert_id x base)
room (remove x ∷ es) base = room es (remove_id x base)

-- "takes log entries in order. Add writes a fresh record over any old one; Remove of an absent id does nothing." r is the fresh record.
unfoldable pub enrol : Progress → List Entry → List Peer → List Peer
enrol r [] ps = ps
enrol r (add x ∷ es) ps = enrol r es (track x r ps)
enrol r (remove x ∷ es) ps = enrol r es (untrack x ps)

-- "sets the configuration, then takes log entries"
abbrev pub applied : State → Conf → List Entry → ℕ → State
applied s c log next =
    record { conf = c; peers = enrol (fresh_record next s.max_inflight) log s.peers; max_inflight = s.max_inflight }

-- 1: "malformed state, configuration or log"; "It gives 1, or 16 .., and then nothing has changed."
unfoldable pub apply_conf : State → Conf → List Entry → ℕ → Outcome
apply_conf s c log next =
    settle (refuse (not (formed s) || not (conf_formed c) || not (log_formed log)) 1 0 ▸ room log (ids s.peers)) s (applied s c log next)

-- ** to_conf_state

-- what is written: the verdict and the lists
pub record Written : Type 0 where
  pub verdict : Verdict
  pub conf_state : ConfState

-- "four ascending lists"
abbrev pub written : Conf → ConfState
written c =
    record {
      voters = c.incoming;
      learners = c.learners;
      voters_outgoing = c.outgoing;
      learners_next = c.staged;
      auto_leave = c.auto_leave;
    }

-- "empty lists and a false flag"
abbrev pub no_conf_state : ConfState
no_conf_state = record { voters = []; learners = []; voters_outgoing = []; learners_next = []; auto_leave = false }

-- "A malformed state gets 1, empty lists and a false flag."
unfoldable pub to_conf_state : State → Written
to_conf_state s =
    cond (formed s)
    (record { verdict = ok; conf_state = written s.conf })
    (record { verdict = fault 1 0; conf_state = no_conf_state })
