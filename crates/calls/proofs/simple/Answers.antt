-- `calls::simple` meets its contract: the ids and the kinds that the list says. Assumes nothing.
use mathlib.Core.Path.{◌∙◌}
use Rattle.changer.specs.Calls.{simple_answer}
use Rattle.calls.proofs.WriteCalls.{ids_listed, kinds_listed}
use Rattle.calls.proofs.simple.Goals as goal

pub returns : goal.returns
returns c = let a = ids_listed c.args.s.now c.change_list-list.ensures in
    let b = kinds_listed c.args.s.now c.change_list-list.ensures in
    c.simple.ensures ∙ (λ i. simple_answer c.args.t.now ((c.ids.ensures ∙ a) i) ((c.kinds.ensures ∙ b) i))
