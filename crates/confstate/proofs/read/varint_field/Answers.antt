-- `confstate::read::varint_field` meets its contract. Assumes nothing.
use Prim.Native.Nat.{◌+◌, ◌-◌, ◌*◌}
use native.Mathlib.Omega.{arith}
use mathlib.Core.Path.{refl}
use Rattle.rules.specs.Wire.{varint}
use Rattle.confstate.specs.Words.{message_in}
use Rattle.confstate.proofs.Fields.{misnumbered_no, past_5, varint-bad, varint_29, varint-go, given_back, lent_list, list_refused, list_taken, flag-taken, unknown-taken}
use Rattle.confstate.proofs.read.varint_field.Goals as goal

pub returns-in_err-v : goal.returns-in_err-v
returns-in_err-v c = varint-bad c.args.bytes.now c.args.at c.args.number (message_in c.args.words.now) c.read_varint.ensures _ _ c.in_err-v.was (given_back c.from_residual.ensures.1)

pub returns-then-misnumbered : goal.returns-then-misnumbered
returns-then-misnumbered c = varint_29 c.args.bytes.now c.args.at c.args.number (message_in c.args.words.now) c.read_varint.ensures c.in_ok-v.was _ _ c.misnumbered.ensures c.if-misnumbered.true refl

pub single-requires : goal.single-requires
single-requires c = lent_list c.requires c.args.number (65 * (c.args.number - 1) + 65 - 65 * (c.args.number - 1)) (misnumbered_no c.args.number c.misnumbered.ensures c.if-misnumbered.false) c.if-number-lt-FLAG_FIELD.true (omega arith)

pub returns-in_err-single : goal.returns-in_err-single
returns-in_err-single c =
    let b = misnumbered_no c.args.number c.misnumbered.ensures c.if-misnumbered.false in
    varint-go c.args.bytes.now c.args.at c.args.number (message_in c.args.words.now) c.read_varint.ensures c.in_ok-v.was _ _ b
    (list_refused c.requires c.args.number _ _ (varint _) _ _ b c.if-number-lt-FLAG_FIELD.true (omega arith) c.single.ensures c.in_err-single.was (given_back c.from_residual-in_err-single.ensures.1))

pub returns-then-number-lt-FLAG_FIELD : goal.returns-then-number-lt-FLAG_FIELD
returns-then-number-lt-FLAG_FIELD c =
    let b = misnumbered_no c.args.number c.misnumbered.ensures c.if-misnumbered.false in
    varint-go c.args.bytes.now c.args.at c.args.number (message_in c.args.words.now) c.read_varint.ensures c.in_ok-v.was _ _ b
    (list_taken c.requires c.args.number _ _ (varint _) _ _ b c.if-number-lt-FLAG_FIELD.true (omega arith) c.single.ensures c.in_ok-single.was)

pub returns-then-number-eq-FLAG_FIELD : goal.returns-then-number-eq-FLAG_FIELD
returns-then-number-eq-FLAG_FIELD c =
    let b = misnumbered_no c.args.number c.misnumbered.ensures c.if-misnumbered.false in
    varint-go c.args.bytes.now c.args.at c.args.number (message_in c.args.words.now) c.read_varint.ensures c.in_ok-v.was _ _ b
    (flag-taken c.requires c.args.number _ _ _ c.if-number-eq-FLAG_FIELD.true c.flag.ensures)

pub returns-else-number-eq-FLAG_FIELD : goal.returns-else-number-eq-FLAG_FIELD
returns-else-number-eq-FLAG_FIELD c =
    let b = misnumbered_no c.args.number c.misnumbered.ensures c.if-misnumbered.false in
    varint-go c.args.bytes.now c.args.at c.args.number (message_in c.args.words.now) c.read_varint.ensures c.in_ok-v.was _ _ b
    (unknown-taken c.requires c.args.number _ _ (past_5 c.if-number-lt-FLAG_FIELD.false c.if-number-eq-FLAG_FIELD.false))
