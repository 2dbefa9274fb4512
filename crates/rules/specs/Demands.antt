-- What demands 2 and 3, document 01's table, and document 02's g) and h) ask of the rules, as statements; proofs/Theorems.antt proves them.
-- Assumes nothing.
use Rattle.std.specs.Prelude.{ℕ, ◌≡◌, true, false, List, [], eqb}
use Rattle.progress.specs.Record.{fresh_record}
use Rattle.rules.specs.Ids.{memb}
use Rattle.rules.specs.State.{Change, ConfState, State, ids, fresh, members}
use Rattle.rules.specs.Answers.{fault, ok, Outcome}
use Rattle.rules.specs.Check.{is_tracked, in_order}
use Rattle.rules.specs.Table.{places_of, places_in}
use Rattle.rules.specs.Changes.{Work, change, changes, done, pending_tracked}
use Rattle.rules.specs.Calls.{entering, start}
use Rattle.rules.specs.Rust.{rust_changes}
use Rattle.rules.specs.Apply.{to_conf_state}
use Rattle.rules.specs.Restore.{restore, restore_step_by_step, restore_steps}
use Rattle.rules.specs.Sequences.{Call, after_calls, deeds, deeds_of, in_turn, restore_call, step_by_step_call}
use Rattle.rules.specs.Boxes.{found, record_of, box_of, replay, events}

-- "After the check, these rules stand as a table": the list cs, carried out from s by the table, is the list as changer.rs carries it out, with
-- the same work at its end or the same id for which there is no room. `enter_joint` begins with outgoing a copy of incoming.
pub record AsTheRust (s : State) (cs : List Change) : Type 0 where
  pub simple : changes (ids s.peers) cs (start s.conf) ≡ rust_changes (ids s.peers) cs (start s.conf)
  pub enter : changes (ids s.peers) cs (start (entering s.conf)) ≡ rust_changes (ids s.peers) cs (start (entering s.conf))

-- The list cs was carried out from b and left w; then the change c left v: an id y that it does not name is tracked as before, and in the same sets.
abbrev pub NextAltersItsOwn : State → Work → List Change → Type 0
NextAltersItsOwn s b cs = (w v : Work) (c : Change) → changes (ids s.peers) cs b ≡ done w → change (ids s.peers) c w ≡ done v → (y : ℕ) → eqb c.id y ≡ false
    → places_in (pending_tracked (ids s.peers) v.log y) v.conf y ≡ places_in (pending_tracked (ids s.peers) w.log y) w.conf y

pub record AltersItsOwn (s : State) (cs : List Change) : Type 0 where
  pub simple : NextAltersItsOwn s (start s.conf) cs
  pub enter : NextAltersItsOwn s (start (entering s.conf)) cs

-- Demand 3. After the calls cs, made from s: the state is in order, "the tracked boxes are exactly the members", a box's standing
-- tells in which sets it is, and "each box's standing and record are what a plain replay of the accepted changes naming that box, with
-- each enter and leave, gives".
pub record Kept (s : State) (cs : List Call) : Type 0 where
  pub ordered : in_order (after_calls s cs) ≡ true
  pub tracked : (x : ℕ) → is_tracked (after_calls s cs) x ≡ memb x (members (after_calls s cs).conf)
  pub standing : (x : ℕ) → places_in (is_tracked (after_calls s cs) x) (after_calls s cs).conf x ≡ places_of (box_of (after_calls s cs) x).standing
  pub boxes : (x : ℕ) → box_of (after_calls s cs) x ≡ replay (events s.max_inflight x (deeds s cs)) (box_of s x)

-- Demand 2's last sentence, of a restore of s to `fresh l` that left o: it was accepted, the configuration is that of s, the same ids
-- are tracked, each under a fresh record, and `max_inflight` is still l.
pub record Back (s : State) (l n : ℕ) (o : Outcome) : Type 0 where
  pub verdict : o.verdict ≡ ok
  pub conf : o.state.conf ≡ s.conf
  pub tracked : ids o.state.peers ≡ ids s.peers
  pub records : (x : ℕ) → memb x (ids o.state.peers) ≡ true → record_of x o.state.peers ≡ found (fresh_record n l)
  pub inflight : o.state.max_inflight ≡ l

-- "A configuration .., written out and restored to fresh, comes back the same."
pub record ComesBack (s : State) (l n : ℕ) : Type 0 where
  pub writes : (to_conf_state s).verdict ≡ ok
  pub back : Back s l n (restore (fresh l) (to_conf_state s).conf_state n)

-- Document 02, h), "So does the empty configuration", of a state s with that configuration, boxes that are tracked only included: it is written out, and
-- restored to `fresh l` by either name it is accepted and gives the configuration back. What is left is `fresh l`: no list that is written holds a box that
-- is tracked only, so none is tracked.
pub record EmptyComesBack (s : State) (l n : ℕ) : Type 0 where
  pub writes : (to_conf_state s).verdict ≡ ok
  pub accepted : (restore (fresh l) (to_conf_state s).conf_state n).verdict ≡ ok
  pub conf : (restore (fresh l) (to_conf_state s).conf_state n).state.conf ≡ s.conf
  pub left : (restore (fresh l) (to_conf_state s).conf_state n).state ≡ fresh l
  pub either_name : restore_step_by_step (fresh l) (to_conf_state s).conf_state n ≡ restore (fresh l) (to_conf_state s).conf_state n

-- Document 02, g), of a restore asked of s: it says what the one step by step says, "the same number and id".
pub record Whole (s : State) (cs : ConfState) (n : ℕ) : Type 0 where
  pub verdict : (restore s cs n).verdict ≡ (restore_step_by_step s cs n).verdict
  -- refused, it "returns the state it was given" and "counts no steps"
  pub refused : (m x : ℕ) → (restore s cs n).verdict ≡ fault m x → (restore s cs n).state ≡ s
  pub no_step : (m x : ℕ) → (restore s cs n).verdict ≡ fault m x → deeds_of s (restore_call cs n) ≡ []
  -- accepted, it is the one step by step, and counts its steps
  pub accepted : (restore s cs n).verdict ≡ ok → restore s cs n ≡ restore_step_by_step s cs n
  pub its_steps : (restore s cs n).verdict ≡ ok → deeds_of s (restore_call cs n) ≡ in_turn n (restore_steps cs)
  pub same-steps : (restore s cs n).verdict ≡ ok → deeds_of s (step_by_step_call cs n) ≡ in_turn n (restore_steps cs)
