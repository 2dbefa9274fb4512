-- `calls::write::put_words` meets its contract. Assumes nothing.
use borrow.Author.Rules.{rules}
use Rattle.calls.specs.Reply.{word_bytes}
use Rattle.calls.proofs.WriteWords.{each_word}
use Rattle.calls.proofs.write.put_words.Goals as goal

pub returns : goal.returns
returns c = rw each_word at (c.put_each.ensures word_bytes (λ p x q k. search rules))
