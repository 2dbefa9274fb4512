-- Quorums, and the box that two neighbours share: document 02, i). Assumes nothing.
use Rattle.std.specs.Prelude.{ℕ, suc, ◌+◌, ◌≡◌, Bool, true, false, ◌&&◌, ◌||◌, not, cond, List, [], ◌∷◌, ltb, length}
use Rattle.rules.specs.Ids.{is_empty, memb}
use Rattle.rules.specs.State.{Conf, Entry, State}
use Rattle.rules.specs.Answers.{accepted, ok}
use Rattle.rules.specs.Check.{in_order, joint}
use Rattle.rules.specs.Calls as calls
use Rattle.rules.specs.Restore.{attempt}
use Rattle.rules.specs.Sequences.{Call, Deed, after_calls, after_deeds, deeds}

-- ** A quorum

-- "a group of ids": those of which it says yes
abbrev pub Group : Type 0
Group = ℕ → Bool

-- how many of xs are in the group
unfoldable pub count : Group → List ℕ → ℕ
count g [] = 0
count g (x ∷ xs) = cond (g x) (suc (count g xs)) (count g xs)

-- "more than half of" xs
abbrev pub more_than_half : Group → List ℕ → Bool
more_than_half g xs = ltb (length xs) (count g xs + count g xs)

-- "A quorum is a group of ids with more than half of incoming and, when joint, more than half of outgoing, as the Raft dissertation's
-- section 4.3 has it."
unfoldable pub quorum : Group → Conf → Bool
quorum g c = more_than_half g c.incoming && (not (joint c) || more_than_half g c.outgoing)

-- ** Neighbours: the configuration before an accepted step, and the one after it

-- incoming or outgoing
abbrev pub is_voter : Conf → ℕ → Bool
is_voter c x = memb x c.incoming || memb x c.outgoing

-- "a box in common": in both groups, and a voter of both configurations
pub record InCommon (g h : Group) (c d : Conf) : Type 0 where
  pub box : ℕ
  pub first : g box ≡ true
  pub second : h box ≡ true
  pub before : is_voter c box ≡ true
  pub after : is_voter d box ≡ true

abbrev pub everyone : Group
everyone x = true

-- c is before, d after
pub record Neighbours (c d : Conf) : Type 0 where
  -- "each quorum of the configuration before has a box in common with each quorum after it"
  pub share : (g h : Group) → quorum g c ≡ true → quorum h d ≡ true → InCommon g h c d
  -- "with an incoming voter before the call": then there are quorums on both sides, everyone being one. Without, there is none before it
  -- (`no-voter-no-quorum`), so that `share` need not ask for one.
  pub quorums : is_empty c.incoming ≡ false → (quorum everyone c ≡ true) × (quorum everyone d ≡ true)

-- ** The calls, and sequences of them

-- "For any accepted `simple`, enter or leave", asked of s
pub record CallsShare (s : State) : Type 0 where
  pub simple : (xs ks : List ℕ) (c : Conf) (log : List Entry) → calls.simple s xs ks ≡ accepted c log → Neighbours s.conf c
  pub enter : (auto : Bool) (xs ks : List ℕ) (c : Conf) (log : List Entry) → calls.enter_joint s auto xs ks ≡ accepted c log → Neighbours s.conf c
  pub leave : (c : Conf) (log : List Entry) → calls.leave_joint s ≡ accepted c log → Neighbours s.conf c

-- one accepted step, from a state in order to one in order
pub record StepShares (s : State) (d : Deed) : Type 0 where
  pub taken : (attempt d.next s d.step).verdict ≡ ok
  pub before : in_order s ≡ true
  pub after : in_order (attempt d.next s d.step).state ≡ true
  pub neighbours : Neighbours s.conf (attempt d.next s d.step).state.conf

-- each of these steps, asked of the state that those before it left
unfoldable pub EachStepShares : State → List Deed → Type 0
EachStepShares s [] = Unit {0}
EachStepShares s (d ∷ ds) = StepShares s d × EachStepShares (attempt d.next s d.step).state ds

-- "This is to hold at each step of any sequence, restore's own steps included": the calls cs, made from s. Their accepted steps lead to where the
-- calls lead.
pub record SequenceShares (s : State) (cs : List Call) : Type 0 where
  pub steps : EachStepShares s (deeds s cs)
  pub end : after_deeds s (deeds s cs) ≡ after_calls s cs
