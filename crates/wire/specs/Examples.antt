-- What is found at a place, tried on small bytes: each line rules out a program that does otherwise. Assumes nothing.
use Rattle.std.specs.Prelude.{◌^◌, ◌≡◌, refl, [], ◌∷◌, ◌++◌, replicate}
use Rattle.rules.specs.Wire.{front, fits}
use Rattle.wire.specs.Varints.{varint_at}

-- 300 in two bytes; 5 at place 2, of one byte; nothing at place 3; a first byte that goes on, and no second
pub placed : (varint_at (172 ∷ 2 ∷ 5 ∷ []) 0 ≡ record { fault = 0; value = 300; next = 2 }) × (varint_at (172 ∷ 2 ∷ 5 ∷ []) 2 ≡ record { fault = 0; value = 5; next = 3 })
    × (varint_at (172 ∷ 2 ∷ 5 ∷ []) 3 ≡ record { fault = 28; value = 0; next = 3 }) × (varint_at (7 ∷ 172 ∷ []) 1 ≡ record { fault = 28; value = 0; next = 1 })
unfolding varint_at front fits
placed = (refl, refl, refl, refl)

-- ten bytes, the last of them 1 and 2; after one that is over the place is known
pub tenth : (varint_at (replicate 9 128 ++ (1 ∷ [])) 0 ≡ record { fault = 0; value = 2 ^ 63; next = 10 })
    × (varint_at (replicate 9 128 ++ (2 ∷ 0 ∷ [])) 0 ≡ record { fault = 29; value = 0; next = 10 })
    × (varint_at (replicate 11 128 ++ (0 ∷ 0 ∷ [])) 0 ≡ record { fault = 29; value = 0; next = 12 })
unfolding varint_at front fits
tenth = (refl, refl, refl)
