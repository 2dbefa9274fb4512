-- Text that is put into an output. Assumes nothing.
use Rattle.std.specs.Prelude.{ℕ, ◌≡◌, List}
use Rattle.text.specs.Put.{Put}
use Rattle.text.specs.declared.Output.{Output}

-- of the output `old`, `new` has the same slice, with `text` put there at its place, and its place is where the text ends
pub record Writes (old : Output) (text : List ℕ) (new : Output) : Type 0 where
  pub same : new.bytes.ghost_name ≡ old.bytes.ghost_name
  pub put : Put old.bytes.now old.at text new.bytes.now new.at
