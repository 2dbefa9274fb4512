-- What `replay` answers: "the listing's length, .., or 2^32 plus 19 or 20". Assumes nothing.
use Rattle.std.specs.Prelude.{ℕ, ◌+◌, ◌^◌, Result, Ok, Err}
use Rattle.listing.specs.declared.Unlisted.{Unlisted}
use Rattle.listing.specs.declared.Unlisted.TheVariants.{ScriptTooLong, ListingTooLong}

abbrev pub number_of : Unlisted → ℕ
number_of ScriptTooLong = 19
number_of ListingTooLong = 20

abbrev pub answer_as : Result ℕ Unlisted → ℕ
answer_as (Ok length) = length
answer_as (Err unlisted) = 2 ^ 32 + number_of unlisted
