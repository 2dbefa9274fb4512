-- A refusal as an enum, and this paper's number and values for each of its cases: document 01, "Refusal numbers". Assumes nothing.
use Rattle.std.specs.Prelude.{ℕ, Result, Ok, Err}
use Rattle.rules.specs.Answers as rules
use Rattle.rules.specs.Answers.{ok, fault}
use Rattle.tracker.specs.declared.refusal.Refusal.{Refusal}
use Rattle.tracker.specs.declared.refusal.Refusal.TheVariants.{Malformed, ListTooLong, KindAbove2, AlreadyJoint, NotJoint, SimpleWhileJoint, VoterNotTracked, LearnerNotTracked, LearnerIsOutgoing, LearnerIsIncoming, StagedNotTracked, StagedNotOutgoing, StagedWhileNotJoint, AutoLeaveWhileNotJoint, EnterWithoutVoter, NoRoom, NoVoterLeft, TwoVotersChanged}

abbrev pub number_at : Refusal → ℕ
number_at Malformed = 1
number_at ListTooLong = 2
number_at KindAbove2 = 3
number_at AlreadyJoint = 4
number_at NotJoint = 5
number_at SimpleWhileJoint = 6
number_at (VoterNotTracked x) = 7
number_at (LearnerNotTracked x) = 8
number_at (LearnerIsOutgoing x) = 9
number_at (LearnerIsIncoming x) = 10
number_at (StagedNotTracked x) = 11
number_at (StagedNotOutgoing x) = 12
number_at StagedWhileNotJoint = 13
number_at AutoLeaveWhileNotJoint = 14
number_at EnterWithoutVoter = 15
number_at (NoRoom x) = 16
number_at NoVoterLeft = 17
number_at TwoVotersChanged = 18

-- "the id named here, else id 0"
abbrev pub id_at : Refusal → ℕ
id_at Malformed = 0
id_at ListTooLong = 0
id_at KindAbove2 = 0
id_at AlreadyJoint = 0
id_at NotJoint = 0
id_at SimpleWhileJoint = 0
id_at (VoterNotTracked x) = x
id_at (LearnerNotTracked x) = x
id_at (LearnerIsOutgoing x) = x
id_at (LearnerIsIncoming x) = x
id_at (StagedNotTracked x) = x
id_at (StagedNotOutgoing x) = x
id_at StagedWhileNotJoint = 0
id_at AutoLeaveWhileNotJoint = 0
id_at EnterWithoutVoter = 0
id_at (NoRoom x) = x
id_at NoVoterLeft = 0
id_at TwoVotersChanged = 0

-- what a refusal says
abbrev pub fault_of : Refusal → rules.Verdict
fault_of r = fault (number_at r) (id_at r)

-- what an answer says: nothing ("0 is accepted"), or the refusal
abbrev pub said : {A : Type 0} → Result A Refusal → rules.Verdict
said (Ok a) = ok
said (Err r) = fault_of r
