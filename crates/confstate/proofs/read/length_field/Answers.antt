-- `confstate::read::length_field` meets its contract. Assumes nothing.
use Prim.Native.Nat.{◌+◌, ◌-◌, ◌*◌}
use native.Mathlib.Omega.{arith}
use mathlib.Core.Path.{refl}
use Rattle.rules.specs.Wire.{bytes}
use Rattle.confstate.specs.Words.{message_in}
use Rattle.confstate.proofs.Fields.{misnumbered_no, past_5, length-bad, length_28, length_29, length-go, next-within, flag-bytes, grown_part, given_back, lent_list, list_refused, list_taken, unknown-taken}
use Rattle.confstate.proofs.read.length_field.Goals as goal

pub returns-in_err-v : goal.returns-in_err-v
returns-in_err-v c = length-bad c.args.bytes.now c.args.at c.args.number (message_in c.args.words.now) c.read_varint.ensures _ _ c.in_err-v.was (given_back c.from_residual.ensures.1)

pub overflow_sub-left : goal.overflow_sub-left
overflow_sub-left c = omega (arith, next-within c.args.bytes.now c.args.at c.args.number (message_in c.args.words.now) c.read_varint.ensures c.in_ok-v.was)

pub returns-then-left-v : goal.returns-then-left-v
returns-then-left-v c = length_28 c.args.bytes.now c.args.at c.args.number (message_in c.args.words.now) c.read_varint.ensures c.in_ok-v.was _ _ c.if-left-v.true refl

pub returns-then-misnumbered : goal.returns-then-misnumbered
returns-then-misnumbered c = length_29 c.args.bytes.now c.args.at c.args.number (message_in c.args.words.now) c.read_varint.ensures c.in_ok-v.was c.if-left-v.false _ _ c.misnumbered.ensures c.if-misnumbered.true refl

pub slice_bounds-packed-end : goal.slice_bounds-packed-end
slice_bounds-packed-end c = omega (arith, next-within c.args.bytes.now c.args.at c.args.number (message_in c.args.words.now) c.read_varint.ensures c.in_ok-v.was, c.if-left-v.false)

pub packed-requires : goal.packed-requires
packed-requires c = lent_list c.requires c.args.number (65 * (c.args.number - 1) + 65 - 65 * (c.args.number - 1)) (misnumbered_no c.args.number c.misnumbered.ensures c.if-misnumbered.false) c.if-number-lt-FLAG_FIELD.true (omega arith)

pub returns-in_err-packed : goal.returns-in_err-packed
returns-in_err-packed c =
    let b = misnumbered_no c.args.number c.misnumbered.ensures c.if-misnumbered.false in
    let v = c.in_ok-v.v in
    length-go c.args.bytes.now c.args.at c.args.number (message_in c.args.words.now) c.read_varint.ensures c.in_ok-v.was c.if-left-v.false _ _ b
    (list_refused c.requires c.args.number _ _ (bytes _) _ _ b c.if-number-lt-FLAG_FIELD.true (omega arith)
    (grown_part _ c.args.bytes.now v.next (v.next + v.value - v.next) v.value _ _ (omega arith) c.packed.ensures) c.in_err-packed.was (given_back c.from_residual-in_err-packed.ensures.1))

pub returns-then-number-lt-FLAG_FIELD : goal.returns-then-number-lt-FLAG_FIELD
returns-then-number-lt-FLAG_FIELD c =
    let b = misnumbered_no c.args.number c.misnumbered.ensures c.if-misnumbered.false in
    let v = c.in_ok-v.v in
    length-go c.args.bytes.now c.args.at c.args.number (message_in c.args.words.now) c.read_varint.ensures c.in_ok-v.was c.if-left-v.false _ _ b
    (list_taken c.requires c.args.number _ _ (bytes _) _ _ b c.if-number-lt-FLAG_FIELD.true (omega arith)
    (grown_part _ c.args.bytes.now v.next (v.next + v.value - v.next) v.value _ _ (omega arith) c.packed.ensures) c.in_ok-packed.was)

pub returns-then-number-eq-FLAG_FIELD : goal.returns-then-number-eq-FLAG_FIELD
returns-then-number-eq-FLAG_FIELD c =
    let b = misnumbered_no c.args.number c.misnumbered.ensures c.if-misnumbered.false in
    length-go c.args.bytes.now c.args.at c.args.number (message_in c.args.words.now) c.read_varint.ensures c.in_ok-v.was c.if-left-v.false _ _ b
    (flag-bytes c.args.bytes.now c.args.at c.args.number (message_in c.args.words.now) c.read_varint.ensures _ _ _ _ c.if-number-eq-FLAG_FIELD.true refl)

pub returns : goal.returns
returns c =
    let b = misnumbered_no c.args.number c.misnumbered.ensures c.if-misnumbered.false in
    length-go c.args.bytes.now c.args.at c.args.number (message_in c.args.words.now) c.read_varint.ensures c.in_ok-v.was c.if-left-v.false _ _ b
    (unknown-taken c.requires c.args.number _ _ (past_5 c.if-number-lt-FLAG_FIELD.false c.if-number-eq-FLAG_FIELD.false))
