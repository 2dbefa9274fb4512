-- `unplug::none_left` meets its contract: `all` asks whether each voter is `id`. Assumes nothing.
use mathlib.Core.Path.{◌≡◌, ◌∙◌}
use mathlib.Core.Bool.{not}
use lib.Dec.{eqb}
use borrow.Author.Rules.{rules}
use borrow.Author.Tests.{tests}
use Rattle.std.proofs.lemmas.Iterator.{YieldsList-from_slice}
use Rattle.std.proofs.lemmas.Iterator.Search.{all_from_yields_List}
use Rattle.rules.specs.Unplug.{another}
use Rattle.unplug.proofs.Unplugged.{all_voters}
use Rattle.unplug.proofs.none_left.Goals as goal

pub returns : goal.returns
returns c =
    let x = c.args.id in
    let e : c.all.result ≡ not (another x c.args.voters.now) =
    all_from_yields_List (λ y. eqb y x) _ _ c.all.result c.all.ensures.ran (YieldsList-from_slice c.args.voters.now cc) (λ y b q k. search (rules, tests))
    ∙ all_voters x _ in
    search (rules, tests, e)
