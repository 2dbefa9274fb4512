-- The byte that each kind of record begins with: document 01, "The replay script". Assumes nothing.
use Rattle.std.specs.Prelude.{ℕ, ◌≤◌, ◌≡◌, cond}
use Rattle.listing.specs.declared.Kind.{Kind}
use Rattle.listing.specs.declared.Kind.TheVariants as kind
use Rattle.listing.specs.declared.Run.{Run}
use Rattle.listing.specs.declared.Run.TheVariants.{Simple, Enter, Leave}

abbrev pub byte_of : Run → ℕ
byte_of Simple = 3
byte_of (Enter auto_leave) = cond auto_leave 5 4
byte_of Leave = 6

abbrev pub IsByteOf : Kind → ℕ → Type 0
IsByteOf kind.Change byte = byte ≤ 2
IsByteOf (kind.Run run) byte = byte ≡ byte_of run
