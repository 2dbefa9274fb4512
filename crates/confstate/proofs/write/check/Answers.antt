-- `write::check` meets its contract: the tests in the order of the refusals. Assumes nothing.
use Rattle.confstate.proofs.Sizing.{refused-words, refused-flag, refused_1, refused_2, refused_3, refused_4, refused_none}
use Rattle.confstate.proofs.write.check.Goals as goal
use Rattle.confstate.proofs.write.check.Goals.{then-words-ne-WORDS-via-then-words-ne-WORDS, then-words-ne-WORDS-via-else-words-ne-WORDS+then-words-gt1, then-most-words-via-then-most-words, then-most-words-via-else-most-words+then-most-words-2, then-most-words-via-else-most-words+else-most-words-2+then-most-words-3, then-most-words-via-else-most-words+else-most-words-2+else-most-words-3+then-most-words-4}

pub returns-then-words-ne-WORDS : goal.returns-then-words-ne-WORDS
returns-then-words-ne-WORDS c = elim c.then-words-ne-WORDS.branch [
  | then-words-ne-WORDS-via-then-words-ne-WORDS w ↦ refused-words c.args.words.now w.if-words-ne-WORDS.true
  | then-words-ne-WORDS-via-else-words-ne-WORDS+then-words-gt1 w ↦ refused-flag c.args.words.now w.if-words-ne-WORDS.false w.if-words-gt1.true
]

pub returns-then-most-words : goal.returns-then-most-words
returns-then-most-words c =
    let ws = c.args.words.now in
    let a = c.if-words-ne-WORDS.false in
    let b = c.if-words-gt1.false in
    elim c.then-most-words.branch [
      | then-most-words-via-then-most-words w ↦ refused_1 ws a b w.if-most-words.true
      | then-most-words-via-else-most-words+then-most-words-2 w ↦ refused_2 ws a b w.if-most-words.false w.if-most-words-2.true
      | then-most-words-via-else-most-words+else-most-words-2+then-most-words-3 w ↦ refused_3 ws a b w.if-most-words.false w.if-most-words-2.false w.if-most-words-3.true
      | then-most-words-via-else-most-words+else-most-words-2+else-most-words-3+then-most-words-4 w ↦ refused_4 ws a b w.if-most-words.false w.if-most-words-2.false w.if-most-words-3.false w.if-most-words-4.true
    ]

pub returns : goal.returns
returns c = refused_none c.args.words.now c.if-words-ne-WORDS.false c.if-words-gt1.false c.if-most-words.false c.if-most-words-2.false c.if-most-words-3.false c.if-most-words-4.false
