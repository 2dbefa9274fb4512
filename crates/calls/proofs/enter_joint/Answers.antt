-- `calls::enter_joint` meets its contract: the flag, and the ids and the kinds that the list says. Assumes nothing.
use mathlib.Core.Path.{◌∙◌}
use Rattle.changer.specs.Calls.{enter_answer}
use Rattle.unplug.specs.Words.{flag}
use Rattle.calls.proofs.WriteCalls.{ids_listed, kinds_listed}
use Rattle.calls.proofs.enter_joint.Goals as goal

pub returns : goal.returns
returns c = let a = ids_listed c.args.s.now c.change_list-list.ensures in
    let b = kinds_listed c.args.s.now c.change_list-list.ensures in
    c.enter_joint.ensures ∙ (λ i. enter_answer c.args.t.now (flag (c.word.ensures i)) ((c.ids.ensures ∙ a) i) ((c.kinds.ensures ∙ b) i))
