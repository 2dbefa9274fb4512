-- Well formed, by parts. Assumes nothing.
use Prim.Native.Nat.{ℕ, ◌≤◌}
use mathlib.Core.Path.{◌≡◌}
use mathlib.Core.Bool.{Bool, true, ◌&&◌}
use mathlib.Core.List.{List}
use borrow.Author.Tests.{leb-true, le-leb}
use lib.Dec.{leb}
use lib.ListN.{length}
use Rattle.rules.specs.Ids.{ascending}
use Rattle.rules.specs.State.{Conf, State, ids, set_formed, conf_formed, formed}
use Rattle.rules.proofs.Sets.{and_left, and_right}

-- a set that holds at most 64 ids, strictly ascending
pub record Set (xs : List ℕ) : Type 0 where
  pub rises : ascending xs ≡ true
  pub few : length xs ≤ 64

pub set-of : (xs : List ℕ) → set_formed xs ≡ true → Set xs
set-of xs h =
    record { rises = and_left (ascending xs) (leb (length xs) 64) h; few = leb-true (length xs) 64 (and_right (ascending xs) (leb (length xs) 64) h) }

pub of-set : (xs : List ℕ) → Set xs → set_formed xs ≡ true
of-set xs s = rw (s.rises, le-leb (length xs) 64 s.few)

pub record Sets (c : Conf) : Type 0 where
  pub incoming : Set c.incoming
  pub outgoing : Set c.outgoing
  pub learners : Set c.learners
  pub staged : Set c.staged

pub sets_of : (c : Conf) → conf_formed c ≡ true → Sets c
unfolding conf_formed
sets_of c h =
    let i : Bool = set_formed c.incoming in
    let o : Bool = set_formed c.outgoing in
    let l : Bool = set_formed c.learners in
    let g : Bool = set_formed c.staged in
    let iol : i && o && l ≡ true = and_left (i && o && l) g h in
    let io : i && o ≡ true = and_left (i && o) l iol in
    record {
      incoming = set-of c.incoming (and_left i o io);
      outgoing = set-of c.outgoing (and_right i o io);
      learners = set-of c.learners (and_right (i && o) l iol);
      staged = set-of c.staged (and_right (i && o && l) g h);
    }

pub of-sets : (c : Conf) → Sets c → conf_formed c ≡ true
unfolding conf_formed
of-sets c s = rw (of-set c.incoming s.incoming, of-set c.outgoing s.outgoing, of-set c.learners s.learners, of-set c.staged s.staged)

-- a well-formed state: its sets, and its tracked ids
pub record Whole (s : State) : Type 0 where
  pub sets : Sets s.conf
  pub tracked : Set (ids s.peers)

pub whole_of : (s : State) → formed s ≡ true → Whole s
unfolding formed
whole_of s h =
    record {
      sets = sets_of s.conf (and_left (conf_formed s.conf) (set_formed (ids s.peers)) h);
      tracked = set-of (ids s.peers) (and_right (conf_formed s.conf) (set_formed (ids s.peers)) h);
    }

pub of-whole : (s : State) → Whole s → formed s ≡ true
unfolding formed
of-whole s w = rw (of-sets s.conf w.sets, of-set (ids s.peers) w.tracked)
