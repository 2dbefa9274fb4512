-- `wire::end_of` meets its contract: where `position` finds no byte, and where it finds one. Assumes nothing.
use Rattle.std.proofs.Common.{rules, arith, tests, ltb}
use Rattle.std.proofs.lemmas.Iterator.{YieldsList-from_slice}
use Rattle.std.proofs.lemmas.Iterator.Search.{position_from_yields_List}
use Rattle.wire.proofs.Reading.{none_ends, some_ends}
use Rattle.wire.proofs.end_of.Goals as goal

pub returns-in_err-length : goal.returns-in_err-length
returns-in_err-length c =
    let e = position_from_yields_List (λ b. ltb b 128) _ _ c.position.result c.position.ensures.ran (YieldsList-from_slice _ c.iter.ensures.rest) (λ x b q k. search (rules, tests)) in
    none_ends c.args.bytes.now c.args.at e (omega arith) c.in_err-length.was c.from_residual.ensures

pub returns : goal.returns
returns c =
    let e = position_from_yields_List (λ b. ltb b 128) _ _ c.position.result c.position.ensures.ran (YieldsList-from_slice _ c.iter.ensures.rest) (λ x b q k. search (rules, tests)) in
    some_ends c.args.bytes.now c.args.at e (omega arith) c.in_ok-length.was
