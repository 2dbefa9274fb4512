-- How many bytes reading put at the front of a buffer, also where a read failed. Assumes nothing.
use Rattle.std.specs.Prelude.{ℕ, Result, Ok, Err}
use Rattle.streams.specs.declared.Unread.{Unread}

abbrev pub len_read : Result ℕ Unread → ℕ
len_read (Ok n) = n
len_read (Err e) = e.len
