-- What is claimed of the rules, one theorem after the other, for the reader. The P examples are specs/Examples.antt. Assumes nothing.
use Prim.Native.Nat.{ℕ, ◌-◌, ◌≤◌}
use mathlib.Core.Path.{◌≡◌, ap}
use mathlib.Core.Bool.{Bool, true, false}
use mathlib.Core.List.{List, [], ◌∷◌, ◌++◌}
use native.Mathlib.Omega.{arith}
use lib.Dec.{eqb}
use lib.ListN.{length}
use Rattle.progress.specs.declared.Progress.{Progress}
use Rattle.rules.specs.Ids.{memb, ascending, is_empty}
use Rattle.rules.specs.State.{Conf, ConfState, Peer, State, ids, formed, members, fresh, no_conf, Change, Entry}
use Rattle.rules.specs.Answers.{ok, fault, accepted}
use Rattle.rules.specs.Check.{check, is_tracked, in_order, joint}
use Rattle.rules.specs.Table.{places_in}
use Rattle.rules.specs.Changes.{pending_tracked, Work, done, change}
use Rattle.rules.specs.Calls.{list_of, simple, enter_joint, gone, leave_joint, leaving, removals}
use Rattle.rules.specs.Idle.{enter_idles, enter_works, simple_idles, simple_works}
use Rattle.rules.specs.Apply.{apply_conf, to_conf_state}
use Rattle.rules.specs.Restore.{Step, simple_step, enter_step, leave_step}
use Rattle.rules.specs.Sequences.{Call, perform, after_calls}
use Rattle.rules.specs.Boxes.{naming}
use Rattle.rules.specs.Unplug.{quick, straight, unplug}
use Rattle.rules.specs.Quorum.{CallsShare, Group, SequenceShares, quorum}
use Rattle.rules.specs.Rust.{by_kind}
use Rattle.rules.specs.Wire.{Field, found, field_in, row}
use Rattle.rules.specs.Message.{Few64, Below64, Answered, refused, taken, entered, read_row, read, number_read, encoded}
use Rattle.rules.specs.MessageFaults.{LowestTold}
use Rattle.rules.specs.Demands.{AltersItsOwn, AsTheRust, ComesBack, EmptyComesBack, Kept, Whole}
use Rattle.rules.proofs.Changes.{Fine}
use Rattle.rules.proofs.Steps.{Ordered}
use Rattle.rules.proofs.Order.{formed-of, ordered_of}
use Rattle.rules.proofs.Accept.{leave-accepted}
use Rattle.rules.proofs.Applied.{any_applied}
use Rattle.rules.proofs.Idle.{enter_counts, simple_counts}
use Rattle.rules.proofs.Whole.{whole}
use Rattle.rules.proofs.Quorum.{voterless}
use Rattle.rules.proofs.Demand3.{Taken, calls_share, demand_3, enter-taken, leave-taken, others_alter_nothing, sequence_shares, simple-taken}
use Rattle.rules.proofs.Table.{change_agrees}
use Rattle.rules.proofs.Rust.{alters_its_own, as_the_rust, only_its_own}
use Rattle.rules.proofs.Thirteen.{check_never_13, call_never_13}
use Rattle.rules.proofs.Unplug.{unplug-quick, unplug-straight}
use Rattle.rules.proofs.Refusals.{accepted_or_named}
use Rattle.rules.proofs.Lists64.{read-few}
use Rattle.rules.proofs.Below.{read_below}
use Rattle.rules.proofs.Lowest.{lowest}
use Rattle.rules.proofs.MessageFirst.{fault_stays, read_append, whole_fault_stays}
use Rattle.rules.proofs.MessageBack.{encoded-length, encoded-one, read-encoded, travels}
use Rattle.rules.proofs.Empty.{empty_back}
use Rattle.rules.proofs.RoundTrip.{empty_trip, fresh_in_order, order_trip, round_trip}

-- ** Number 13 is never given

pub never_13_by_the_check : (t : ℕ → Bool) (c : Conf) (x : ℕ) → check t c ≡ fault 13 x → ⊥
never_13_by_the_check = check_never_13

pub never_13_by_a_call : (s : State) (c : Call) (x : ℕ) → (perform s c).verdict ≡ fault 13 x → ⊥
never_13_by_a_call = call_never_13

-- ** The table

-- a change that is not skipped and not refused does what `make_voter`, `make_learner` or `remove` of changer.rs does
pub table_is_the_rust : (r : Progress) (ps : List Peer) (up : ascending (ids ps) ≡ true) (c : Change) (w v : Work) → Fine r ps up w → eqb c.id 0 ≡ false
    → change (ids ps) c w ≡ done v → v ≡ by_kind c.kind (pending_tracked (ids ps) w.log c.id) c.id w
table_is_the_rust = change_agrees

-- a change alters only its own id: any other is tracked as before, and in the same sets
pub change_alters_only_its_own : (r : Progress) (ps : List Peer) (up : ascending (ids ps) ≡ true) (c : Change) (w v : Work) → Fine r ps up w
    → change (ids ps) c w ≡ done v → (y : ℕ) → eqb c.id y ≡ false
    → places_in (pending_tracked (ids ps) v.log y) v.conf y ≡ places_in (pending_tracked (ids ps) w.log y) w.conf y
change_alters_only_its_own = only_its_own

-- Every change that `simple` and `enter_joint` carry out meets such a work (`Fine`): said of the lists themselves, from any well-formed state that
-- passed the check and is not joint, boxes that are tracked only and an id 0 included. Since it is said of every list it is so step by step.
pub list_is_the_rust : (s : State) → formed s ≡ true → check (is_tracked s) s.conf ≡ ok → joint s.conf ≡ false → (cs : List Change) → AsTheRust s cs
list_is_the_rust = as_the_rust

pub list_alters_only_its_own : (s : State) → formed s ≡ true → check (is_tracked s) s.conf ≡ ok → joint s.conf ≡ false → (cs : List Change) → AltersItsOwn s cs
list_alters_only_its_own = alters_its_own

-- ** An accepted answer is applied

-- of any well-formed state, in order or not, apply_conf takes every answer that a call accepted
module _ (s : State) (n : ℕ) (c : Conf) (log : List Entry) where
  applies : (p : Step) → Taken s p c log → (apply_conf s c log n).verdict ≡ ok
  applies p k = ap (λ o. o.verdict) (any_applied s k.well n p k.short c log k.step).done

  pub simple-is-applied : (xs ks : List ℕ) → simple s xs ks ≡ accepted c log → (apply_conf s c log n).verdict ≡ ok
  simple-is-applied xs ks h = applies (simple_step (list_of xs ks)) (simple-taken s c log xs ks h)

  pub enter-is-applied : (auto : Bool) (xs ks : List ℕ) → enter_joint s auto xs ks ≡ accepted c log → (apply_conf s c log n).verdict ≡ ok
  enter-is-applied auto xs ks h = applies (enter_step auto (list_of xs ks)) (enter-taken s c log auto xs ks h)

  pub leave-is-applied : leave_joint s ≡ accepted c log → (apply_conf s c log n).verdict ≡ ok
  leave-is-applied h = applies leave_step (leave-taken s c log h)

-- ** Which changes did nothing

-- The count of an accepted list is its length less the entries that moved their id or logged, and those are no more than it is long.
module _ (s : State) (xs ks : List ℕ) (c : Conf) (log : List Entry) where
  pub simple_count_is_the_rest : simple s xs ks ≡ accepted c log
      → (simple_idles s xs ks ≡ length xs - simple_works s xs ks) × (simple_works s xs ks ≤ length xs)
  simple_count_is_the_rest h = (omega (arith, simple_counts s xs ks c log h), omega (arith, simple_counts s xs ks c log h))

  pub enter_count_is_the_rest : (auto : Bool) → enter_joint s auto xs ks ≡ accepted c log
      → (enter_idles s auto xs ks ≡ length xs - enter_works s auto xs ks) × (enter_works s auto xs ks ≤ length xs)
  enter_count_is_the_rest auto h = (omega (arith, enter_counts s xs ks c log auto h), omega (arith, enter_counts s xs ks c log auto h))

-- ** In order is kept

-- a call made on a state in order ends in one
pub order_is_kept : (s : State) → in_order s ≡ true → (c : Call) → in_order (perform s c).state ≡ true
unfolding after_calls
order_is_kept s h c = (demand_3 s h (c ∷ [])).ordered

-- and its tracked boxes are exactly the members
pub tracked_are_the_members : (s : State) → in_order s ≡ true → (c : Call) (x : ℕ) → is_tracked (perform s c).state x ≡ memb x (members (perform s c).state.conf)
unfolding after_calls
tracked_are_the_members s h c = (demand_3 s h (c ∷ [])).tracked

-- ** In order: document 02, h)

-- "from every joint state in order, leaving is accepted": staged ids join learners, and who was outgoing only is removed
pub joint_can_be_left : (s : State) → in_order s ≡ true → joint s.conf ≡ true → leave_joint s ≡ accepted (leaving s.conf) (removals (gone s.conf))
unfolding leave_joint
joint_can_be_left s h j =
    let o : Ordered s = ordered_of s h in
    rw (formed-of s o) (leave-accepted s o j)

-- "every state in order with an incoming voter, written out and restored to fresh, gives its configuration back"
pub order_comes_back : (s : State) → in_order s ≡ true → is_empty s.conf.incoming ≡ false → (l n : ℕ) → ComesBack s l n
order_comes_back = order_trip

-- "So does the empty configuration": of any well-formed state
pub empty_configuration_comes_back : (s : State) → formed s ≡ true → s.conf ≡ no_conf → (l n : ℕ) → EmptyComesBack s l n
empty_configuration_comes_back = empty_back

-- and of a state in order all comes back, since there nothing else is tracked
pub empty_comes_back : (s : State) → in_order s ≡ true → s.conf ≡ no_conf → (l n : ℕ) → ComesBack s l n
empty_comes_back = empty_trip

-- "No change list makes such a state from fresh", nor do any calls
pub fresh_leads_to_order : (m : ℕ) (cs : List Call) → in_order (after_calls (fresh m) cs) ≡ true
fresh_leads_to_order m cs = (demand_3 (fresh m) (fresh_in_order m) cs).ordered

-- ** Whole restore: document 02, g)

-- "a refused `restore` now returns the state it was given, with the same number and id"; an accepted one is the one step by step; "in demand 3 a
-- refused whole restore counts no steps", an accepted one its steps
pub restore-is-whole : (s : State) (cs : ConfState) (n : ℕ) → Whole s cs n
restore-is-whole = whole

-- ** Can this box be unplugged?: document 02, d)

-- of any state the full call's number and id are told without it: 1, 6, the check, and whether a voter is left
pub unplug-is-told : (s : State) (x : ℕ) → unplug s x ≡ straight s x
unplug-is-told = unplug-straight

-- "For every state in order and every id": from joint or not, and whether another incoming voter exists
pub unplug-is-quick : (s : State) → in_order s ≡ true → (x : ℕ) → unplug s x ≡ quick s x
unplug-is-quick = unplug-quick

-- ** Any two neighbours share a box: document 02, i)

-- "For any accepted `simple`, enter or leave .. each quorum of the configuration before has a box in common with each quorum after it": "from a
-- state in order", and from any other
pub neighbours-share : (s : State) → CallsShare s
neighbours-share = calls_share

-- "This is to hold at each step of any sequence, restore's own steps included."
pub neighbours_share_throughout : (s : State) → in_order s ≡ true → (cs : List Call) → SequenceShares s cs
neighbours_share_throughout = sequence_shares

-- "with an incoming voter before the call": without one no group is a quorum, and there is nothing to share
pub no_voter_no_quorum : (c : Conf) → is_empty c.incoming ≡ true → (g : Group) → quorum g c ≡ false
no_voter_no_quorum = voterless

-- ** ConfState as it travels: document 02, k)

-- "reading it gives the same four lists and flag"
pub message_comes_back : (m : ConfState) → Few64 m → Below64 m → read (encoded m) ≡ taken m
message_comes_back = read-encoded

-- "The writer has one encoding for each message", and no encoding is that of two
pub one-message-each : (m n : ConfState) → Few64 m → Below64 m → Few64 n → Below64 n → encoded m ≡ encoded n → m ≡ n
one-message-each = encoded-one

-- the longest message
pub message-fits : (m : ConfState) → Few64 m → length (encoded m) ≤ 2574
message-fits = encoded-length

-- a configuration written out, written to bytes and read is the one that was written out
pub configuration_travels : (s : State) → Below64 (to_conf_state s).conf_state → read (encoded (to_conf_state s).conf_state) ≡ taken (to_conf_state s).conf_state
configuration_travels = travels

-- what is accepted has at most 64 ids in each list
pub at_most_64 : (l : List ℕ) {m : ConfState} → read l ≡ taken m → Few64 m
at_most_64 = read-few

-- and each of them is a 64-bit number
pub ids_of_64_bits : (l : List ℕ) {m : ConfState} → read l ≡ taken m → Below64 m
ids_of_64_bits = read_below

-- any bytes are accepted, or refused with 28, 29 or 30
pub accepted_or_refused : (l : List ℕ) → Answered (number_read (read l))
accepted_or_refused = accepted_or_named

-- "The first faulty field wins": 29 and 30 stay, whatever follows; and so does 28 where the faulty field is whole, a packed number past its end
pub fault-is-told : (a b : List ℕ) {e : ℕ} → read a ≡ refused e → (e ≡ 28 → ⊥) → read (a ++ b) ≡ refused e
fault-is-told = fault_stays

pub whole-fault-is-told : (a c b : List ℕ) {m : ConfState} {f : Field} {n e : ℕ} → read a ≡ taken m → field_in c ≡ found f n → entered f m ≡ refused e → read (a ++ (c ++ b)) ≡ refused e
whole-fault-is-told = whole_fault_stays

-- "and within it the lower number": of a field the least of all its faults is told, and a field that is taken has none
pub lowest_is_told : (l : List ℕ) (m : ConfState) → LowestTold l m
lowest_is_told = lowest

-- a message is its parts one after the other
pub parts_in_turn : (a b : List ℕ) {m : ConfState} → read a ≡ taken m → read (a ++ b) ≡ read_row (row b) m
parts_in_turn = read_append

-- ** The demands

-- Demand 3: after any sequence of calls from a state in order
pub boxes_are_their_replay : (s : State) → in_order s ≡ true → (cs : List Call) → Kept s cs
boxes_are_their_replay = demand_3

-- "In an accepted list, changes naming other boxes alter neither": with or without such a change, a list says the same to the box
pub others_alter_neither : (r : Progress) (x : ℕ) (cs ds : List Change) (c : Change) → eqb c.id x ≡ false → naming r x (cs ++ (c ∷ ds)) ≡ naming r x (cs ++ ds)
others_alter_neither = others_alter_nothing

-- Demand 2's last sentence: from fresh by any calls, written out, and restored to fresh
pub reached_comes_back : (m l n : ℕ) (cs : List Call) → ComesBack (after_calls (fresh m) cs) l n
reached_comes_back = round_trip
