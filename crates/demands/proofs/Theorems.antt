-- What is claimed of the public calls, one theorem for each of the maintainer's sentences. They speak of the definitions that the public
-- contracts are equal to; the statements are specs/Demands.antt, Statements.antt, Neighbours.antt, Numbers.antt, Messages.antt and Comparisons.antt.
-- Assumes nothing.
use Prim.Native.Nat.{ℕ, ◌<◌, ◌≤◌}
use mathlib.Core.Path.{◌≡◌, ap, ◌∙◌, sym}
use mathlib.Core.Bool.{Bool, true, false}
use mathlib.Core.List.{List}
use lib.Dec.{eqb, ltb}
use lib.ListN.{length}
use Rattle.rules.specs.Check.{joint}
use Rattle.rules.specs.Ids.{is_empty}
use Rattle.rules.specs.State.{Change, fresh, no_conf}
use Rattle.rules.specs.Calls.{enter_joint, leave_joint, simple}
use Rattle.rules.specs.Demands.{AltersItsOwn, AsTheRust}
use Rattle.rules.specs.Message.{Below64}
use Rattle.rules.specs.Idle.{enter_idles, simple_idles}
use Rattle.tracker.specs.Bridge.{conf_of, state_of, tracker_of}
use Rattle.tracker.specs.Form.{tracker_well_formed}
use Rattle.tracker.specs.declared.ConfState.{ConfState}
use Rattle.tracker.specs.declared.Tracker.{Tracker}
use Rattle.tracker.specs.Apply.{Verdict}
use Rattle.invariants.specs.Check.{check_of, in_order_of}
use Rattle.changer.specs.Calls.{enter_answer, leave_answer, simple_answer}
use Rattle.changer.proofs.View.{enter_alike, leave_alike, simple_alike}
use Rattle.restore.proofs.Restored.{stepped_runs}
use Rattle.demands.specs.Sequences.{Call, after_calls}
use Rattle.demands.specs.Demands.{AcceptedIsApplied, CanBeLeft, ComesBack, CopyIsTheView, Counted, EmptyComesBack, Kept, Unplugged, Whole}
use Rattle.confstate.specs.Words.{message_in}
use Rattle.confstate.specs.Entries.{write_number}
use Rattle.comparison.specs.Compare.{lines_read, refusal}
use Rattle.demands.specs.Comparisons.{Compared, NotCompared, Printed}
use Rattle.demands.specs.Messages.{NotRead, NotWritten, Reading, Travels}
use Rattle.demands.specs.Neighbours.{CallsShare, SequenceShares}
use Rattle.demands.specs.Numbers.{FirstTold, FirstToldByEntries, Never13}
use Rattle.demands.specs.Statements.{AsksSimple, OneAnswer, OthersAlterNeither, RefusedUntouched}
use Rattle.demands.proofs.Accepted.{all-applied}
use Rattle.demands.proofs.Boxes.{kept}
use Rattle.demands.proofs.Bytes.{call, no_call, replay_no_room, replay_too_long}
use Rattle.demands.proofs.Comparisons.{compared, no_room, not_compared, printed}
use Rattle.demands.proofs.Counts.{all-counted}
use Rattle.demands.proofs.FirstTold.{entries_told, first-told}
use Rattle.demands.proofs.Listed.{listed, own_altered}
use Rattle.demands.proofs.Messages.{not-read, not_written, reading, travels}
use Rattle.demands.proofs.Neighbours.{calls_share, sequence_shares}
use Rattle.demands.proofs.Ordered.{can_be_left, empty_back, fresh_leads, order_back}
use Rattle.demands.proofs.Others.{others}
use Rattle.demands.proofs.Refused.{applied-untouched, apply-untouched, asked-untouched, restore-untouched, steps-stay, steps-untouched, whole-untouched, written-nothing}
use Rattle.demands.proofs.RoundTrip as trips
use Rattle.demands.proofs.RoundTrip.{reached_back}
use Rattle.demands.proofs.Thirteen.{all_other}
use Rattle.demands.proofs.Unplugs.{no_unplug, one_answer, unplugged}
use Rattle.demands.proofs.Whole.{whole}
use Rattle.demands.proofs.AllSettled.{Settled, all_settled}

-- Demand 1: "A refused call gives the number .., with state and lent memory untouched." A restore_step_by_step that a step ends is the exception:
-- the steps accepted before it stay.
pub refused-untouched : (t : Tracker) → RefusedUntouched t
unfolding simple_answer enter_answer leave_answer
refused-untouched t =
    record {
      simple = λ ids kinds. asked-untouched t (simple_idles (state_of t) ids kinds) (simple (state_of t) ids kinds);
      enter = λ auto ids kinds. asked-untouched t (enter_idles (state_of t) auto ids kinds) (enter_joint (state_of t) auto ids kinds);
      leave = asked-untouched t 0 (leave_joint (state_of t));
      apply-answer = applied-untouched t;
      apply = apply-untouched t;
      apply-conf = λ c log n v u p q h. q ∙ apply-untouched t c log n (ap (λ (v : Verdict). eqb v.number 0) (sym p) ∙ h);
      to-conf-state = written-nothing t;
      restore = restore-untouched t;
      whole = whole-untouched t;
      step-by-step = steps-untouched t;
      step_by_step_runs = λ w cs n h. stepped_runs t w cs h n;
      step_by_step_stays = steps-stay t;
      too_long = replay_too_long;
      no_room = replay_no_room;
      no_call = no_call;
      call = call;
      no_unplug = no_unplug;
    }

-- Demand 2's last sentence: "A configuration .., written out and restored to fresh, comes back the same." It was reached from fresh by any
-- calls; fresh is what `Tracker::new` gives.
pub round_trip : (m l n : ℕ) (cs : List Call) → ComesBack (after_calls (tracker_of (fresh m)) cs) l n
round_trip = reached_back

-- Demand 3: after "any sequence of simple, enter, leave and restore calls, refused ones included", made from a state in order, "the tracked boxes
-- are exactly the members" and "each box's standing and record are what a plain replay of the accepted changes naming that box, with each enter
-- and leave, gives".
pub boxes : (t : Tracker) → in_order_of t ≡ true → (cs : List Call) → Kept t cs
boxes = kept

-- Demand 3: "apply each accepted answer at once to the state it was asked of." An accepted answer is applied: of any tracker, with any `next_idx`.
pub accepted-is-applied : (t : Tracker) → AcceptedIsApplied t
accepted-is-applied = all-applied

-- Demand 3: "In an accepted list, changes naming other boxes alter neither."
pub others_alter_neither : (t : Tracker) → in_order_of t ≡ true → (n x : ℕ) → OthersAlterNeither t n x
others_alter_neither = others

-- Document 02, b): "Each accepted `simple` and `enter_joint` then also gives the number of list entries that left their id's standing unchanged and
-- logged nothing".
pub counted : (t : Tracker) → Counted t
counted = all-counted

-- Document 02, g): "a refused `restore` now returns the state it was given, with the same number and id"; an accepted one equals the step-by-step one;
-- "in demand 3 a refused whole restore counts no steps", an accepted one its steps.
pub restore-is-whole : (t : Tracker) (cs : ConfState) (n : ℕ) → Whole t cs n
restore-is-whole = whole

-- Document 02, h): "from every joint state in order, leaving is accepted."
pub joint_can_be_left : (t : Tracker) → in_order_of t ≡ true → joint (conf_of t.conf) ≡ true → CanBeLeft t
joint_can_be_left = can_be_left

-- Document 02, h): "every state in order with an incoming voter, written out and restored to fresh, gives its configuration back. So does the empty
-- configuration."
pub order_comes_back : (t : Tracker) → in_order_of t ≡ true → is_empty (conf_of t.conf).incoming ≡ false → (l n : ℕ) → ComesBack t l n
order_comes_back = order_back

pub empty_configuration_comes_back : (t : Tracker) → tracker_well_formed t ≡ true → conf_of t.conf ≡ no_conf → (l n : ℕ) → EmptyComesBack t l n
empty_configuration_comes_back t w e l n = trips.empty_comes_back t w l n e

-- of a tracker in order all comes back, since there nothing else is tracked
pub empty_comes_back : (t : Tracker) → in_order_of t ≡ true → conf_of t.conf ≡ no_conf → (l n : ℕ) → ComesBack t l n
empty_comes_back = empty_back

-- Document 02, h): "No change list makes such a state from fresh", nor does any sequence of calls.
pub fresh_leads_to_order : (m : ℕ) (cs : List Call) → in_order_of (after_calls (tracker_of (fresh m)) cs) ≡ true
fresh_leads_to_order = fresh_leads

-- Document 02, d): "For every state in order and every id the number and id returned equal those of `simple` with that single removal. Any other state
-- gets the full call's answer."
pub box-is-unplugged : (t : Tracker) (x : ℕ) → Unplugged t x
box-is-unplugged = unplugged

-- and so do the two entries: dimecandle_unplug of a state's words, and dimecandle_call of a request with that state
pub entries_agree : (request state : List ℕ) (x : ℕ) → AsksSimple request state x → OneAnswer request state x
entries_agree = one_answer

-- Document 02, i): "For any accepted `simple`, enter or leave .. each quorum of the configuration before has a box in common with each quorum after
-- it": "from a state in order", and from any other.
pub neighbours-share : (t : Tracker) → CallsShare t
neighbours-share = calls_share

-- Document 02, i): "This is to hold at each step of any sequence, restore's own steps included."
pub neighbours_share_throughout : (t : Tracker) → in_order_of t ≡ true → (cs : List Call) → SequenceShares t cs
neighbours_share_throughout = sequence_shares

-- Document 02, k): "Read and write it on byte slices." Bytes read into lent words: the number, the words of a refused and of an accepted message, and those
-- after them. Less than 261 words are not touched.
pub message-is-read : (l lent : List ℕ) → 261 ≤ length lent → Reading l lent
message-is-read = reading

pub no_room_to_read : (l lent : List ℕ) → length lent < 261 → NotRead l lent
no_room_to_read = not-read

-- Document 02, k): "The writer has one encoding for each message, and reading it gives the same four lists and flag." Every word is a 64-bit number.
pub message_travels : (ws old lent : List ℕ) → write_number ws (length old) ≡ 0 → Below64 (message_in ws) → 261 ≤ length lent → Travels ws old lent
message_travels = travels

-- Document 02, k): "the writer first refuses lists over 64 with 2", "31, output too small, buffer untouched"
pub refused-is-not-written : (ws old : List ℕ) → eqb (write_number ws (length old)) 0 ≡ false → NotWritten ws old
refused-is-not-written = not_written

-- Document 02, l): "prints for every id whose standing differs the id and both standings ..", "A fault prints `refused N` alone. Equal meaning gives no line,
-- and a reader of the lines with the first message can state the second's sets exactly." What is printed of two files.
pub files_are_compared : (readable : Bool) (l m : List ℕ) → Printed readable l m
files_are_compared = printed

-- The same of two slices, where there is no fault and the lines fit: 20,761 bytes are always enough.
pub slices_are_compared : (l m out : List ℕ) → refusal true l m ≡ 0 → length (lines_read l m) ≤ length out → Compared l m out
slices_are_compared = compared

-- Refused, `out` is as it was.
pub refused_is_not_compared : (l m out : List ℕ) → eqb (refusal true l m) 0 ≡ false → NotCompared l m out (refusal true l m)
refused_is_not_compared = not_compared

pub no_room_to_compare : (l m out : List ℕ) → refusal true l m ≡ 0 → ltb (length out) (length (lines_read l m)) ≡ true → NotCompared l m out 100
no_room_to_compare = no_room

-- Document 01: "After the check, these rules stand as a table". Of a tracker that passes the check and is not joint: a list of changes, carried out by the
-- table, is the list as changer.rs carries it out; and each change alters only its own id.
pub list_is_the_rust : (t : Tracker) → (check_of t).number ≡ 0 → joint (conf_of t.conf) ≡ false → (cs : List Change) → AsTheRust (state_of t) cs
list_is_the_rust = listed

pub list_alters_only_its_own : (t : Tracker) → (check_of t).number ≡ 0 → joint (conf_of t.conf) ≡ false → (cs : List Change) → AltersItsOwn (state_of t) cs
list_alters_only_its_own = own_altered

-- Document 01: "Number 13 is kept for the Rust's message but never given, since 11 or 12 comes first; that is proved." Of any tracker, any
-- lists, any state in words, any request and any turn of a replay.
pub never_13 : Never13
never_13 = all_other

-- Document 01: "Order: 1, 2, 3; then 4, 5 or 6; the check; 15; the changes, stopping at the first 16; 17; 18; the check again." Number and id are those of the
-- first test that refuses: of every tracker, and through the entries.
pub numbers_in_order : (t : Tracker) → FirstTold t
numbers_in_order = first-told

pub numbers_in_order_through_the_entries : FirstToldByEntries
numbers_in_order_through_the_entries = entries_told

-- Document 01: "Tracked is asked of the base ids with the pending log over them": the check again, which is asked of a copy of the ids, asks what the view would.
pub copy_is_the_view : (t : Tracker) → CopyIsTheView t
copy_is_the_view t = record { simple = simple_alike t; enter = λ auto. enter_alike t; leave = leave_alike t }

-- Document 01: "That any two results allowed by it are equal is itself proved".
pub settled : Settled
settled = all_settled
