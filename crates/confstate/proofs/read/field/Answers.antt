-- `confstate::read::field` meets its contract. Assumes nothing.
use native.Mathlib.Omega.{arith}
use mathlib.Core.Path.{refl}
use Rattle.confstate.specs.Words.{message_in}
use Rattle.confstate.proofs.Fields.{given_back, next-within}
use Rattle.confstate.proofs.Tags.{tag-bad, tag_0, tag_1, tag_2, tag_5, tag_none}
use Rattle.confstate.proofs.read.field.Goals as goal

pub returns-in_err-tag : goal.returns-in_err-tag
returns-in_err-tag c = tag-bad c.args.bytes.now c.args.at (message_in c.args.words.now) c.read_varint.ensures _ _ c.in_err-tag.was (given_back c.from_residual.ensures.1)

pub fixed_field-requires : goal.fixed_field-requires
fixed_field-requires c = next-within c.args.bytes.now c.args.at 0 (message_in c.args.words.now) c.read_varint.ensures c.in_ok-tag.was

pub fixed_field-requires-in-5 : goal.fixed_field-requires-in-5
fixed_field-requires-in-5 c = next-within c.args.bytes.now c.args.at 0 (message_in c.args.words.now) c.read_varint.ensures c.in_ok-tag.was

pub returns-in-0 : goal.returns-in-0
returns-in-0 c = tag_0 c.args.bytes.now c.args.at (message_in c.args.words.now) c.read_varint.ensures c.in_ok-tag.was _ _ (omega arith) c.varint_field.ensures

pub returns-in-2 : goal.returns-in-2
returns-in-2 c = tag_2 c.args.bytes.now c.args.at (message_in c.args.words.now) c.read_varint.ensures c.in_ok-tag.was _ _ (omega arith) c.length_field.ensures

pub returns-in-1 : goal.returns-in-1
returns-in-1 c = tag_1 c.requires c.args.bytes.now c.args.at c.read_varint.ensures c.in_ok-tag.was _ (omega arith) c.fixed_field.ensures

pub returns-in-5 : goal.returns-in-5
returns-in-5 c = tag_5 c.requires c.args.bytes.now c.args.at c.read_varint.ensures c.in_ok-tag.was _ (omega arith) c.fixed_field-in-5.ensures

pub returns-in_default : goal.returns-in_default
returns-in_default c = tag_none c.args.bytes.now c.args.at (message_in c.args.words.now) c.read_varint.ensures c.in_ok-tag.was _ _ (λ e. omega arith) (λ e. omega arith) (λ e. omega arith) (λ e. omega arith) refl
