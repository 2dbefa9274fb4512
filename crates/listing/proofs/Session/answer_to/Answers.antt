-- `Session::answer_to` meets its contract: the first `len` places of both arrays, or all. Assumes nothing.
use mathlib.Core.Path.{ap, sym, ◌∙◌}
use Rattle.listing.specs.Kinds.{byte_of}
use Rattle.listing.specs.Sessions.{answer_in}
use Rattle.listing.proofs.Turns.{leave-is, simple-is, enter-is}
use borrow.Author.Rules.{rules}
use Rattle.listing.proofs.Session.answer_to.Goals as goal

pub returns-in-Simple : goal.returns-in-Simple
returns-in-Simple c = let z = c.args.self.now in
    c.simple.ensures ∙ simple-is z c.min-n.ensures (search rules) (search rules) ∙ sym (ap (λ r. answer_in z (byte_of r)) c.in-Simple.is)

pub returns-in-Enter : goal.returns-in-Enter
returns-in-Enter c = let z = c.args.self.now in
    c.enter_joint.ensures ∙ enter-is z c.min-n.ensures (search rules) (search rules) _ ∙ sym (ap (λ r. answer_in z (byte_of r)) c.in-Enter.is)

pub returns-in-Leave : goal.returns-in-Leave
returns-in-Leave c = let z = c.args.self.now in
    c.leave_joint.ensures ∙ leave-is z ∙ sym (ap (λ r. answer_in z (byte_of r)) c.in-Leave.is)
