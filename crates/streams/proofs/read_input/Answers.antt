-- `streams::read_input`: one read more. What it gave stands after what was there, and is what the reader gave after that. Assumes nothing.
use Rattle.std.proofs.Common.{◌++◌, take, drop, ap, ◌∙◌, sym, subst, rules}
use Rattle.std.proofs.Math.Seq.{take-add}
use Rattle.std.proofs.KnownBytes.{Consumes-trans}
use Rattle.std.specs.Io.KnownBytes.{Consumes}
use Rattle.streams.proofs.read_input.Goals as goal

pub loop-n-preserved : goal.loop-n-preserved
loop-n-preserved g c =
    let old = take c.loop-n.n c.loop-n.buf in
    let got = take c.in-Ok.got (drop c.loop-n.n c.read_from.new.buf) in
    let grown = take-add c.loop-n.n c.in-Ok.got c.read_from.new.buf ∙ ap (λ l. l ++ got) c.read_from.ensures.front in
    (search rules, subst (Consumes _ _) (sym grown) (Consumes-trans _ _ _ old got c.loop-n.invariant.1 c.in-Ok.ensures.bytes.0))
