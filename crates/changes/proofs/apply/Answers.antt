-- `changes::apply` meets its contract. `zip_turn` says which id and kind an iteration has, `zip_end` how many there were. Assumes nothing.
use borrow.Author.Rules.{rules}
use lib.ListN.{length-append}
use mathlib.Core.List.{[], ◌∷◌}
use mathlib.Core.Path.{ap, ◌∙◌}
use Rattle.std.proofs.lemmas.Result.{err_from_is_err_and}
use Rattle.std.proofs.lemmas.Slice.Zip.{zip_turn, zip_end}
use Rattle.changes.specs.Change.{left_of, answer_of}
use Rattle.changes.proofs.Run.{run_end, work_halts, work_goes}
use Rattle.changes.proofs.apply.Goals as goal

pub returns-in_err-change : goal.returns-in_err-change
returns-in_err-change c =
    let l = c.loop-id in
    let t = zip_turn c.args.ids.now c.args.kinds.now l.yielded c.into_iter-id-iterator.result l.id-iterator c.next.new.self c.next.result (search rules) (search rules) l.yielded_by (c.in-Some.id, c.in-Some.kind) c.in-Some.is c.next.ensures.steps in
    let h = work_halts l.invariant t c.from.ensures c.in_err-change.ensures.answer in
    let p = err_from_is_err_and c.from_residual.result c.from_residual.ensures.1 in
    record {
      after = c.in_err-change.ensures.after ∙ ap left_of h;
      answer = rw (p.1, p.2) (c.in_err-change.ensures.answer ∙ ap answer_of h);
    }

pub loop-id-preserved : goal.loop-id-preserved
loop-id-preserved c =
    let l = c.loop-id in
    let t = zip_turn c.args.ids.now c.args.kinds.now l.yielded c.into_iter-id-iterator.result l.id-iterator c.next.new.self c.next.result (search rules) (search rules) l.yielded_by (c.in-Some.id, c.in-Some.kind) c.in-Some.is c.next.ensures.steps in
    work_goes l.invariant t c.from.ensures c.in_ok-change.ensures.answer _ c.in_ok-change.ensures.after _
    (length-append l.yielded ((c.in-Some.id, c.in-Some.kind) ∷ []))

pub returns : goal.returns
returns c =
    let l = c.loop-id in
    let e = run_end l.invariant (zip_end c.args.ids.now c.args.kinds.now l.yielded c.into_iter-id-iterator.result l.id-iterator c.next.new.self c.next.result (search rules) (search rules) l.yielded_by c.in-None.is c.next.ensures.steps) in
    record { after = ap left_of e; answer = ap answer_of e }
