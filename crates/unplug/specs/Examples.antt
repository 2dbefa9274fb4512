-- What is told tried on words: each line rules out a program that does otherwise. Assumes nothing.
use Rattle.std.specs.Prelude.{◌≡◌, refl, [], ◌∷◌, true, false, replicate}
use Rattle.unplug.specs.Unplugs.{told_of}
use Rattle.unplug.specs.Words.{at, within_by, words_by}

-- no words, and one too many: 1, and no number
pub no_state : (told_of [] 1 ≡ record { returned = 1; number = 0; id = 0 }) × (told_of (replicate 968 0) 1 ≡ record { returned = 1; number = 0; id = 0 })
unfolding told_of
no_state = (refl, refl)

-- a word that is not there counts as 0; the first word first
pub words_in_place : (at (7 ∷ 8 ∷ []) 1 ≡ 8) × (at (7 ∷ []) 1 ≡ 0) × (words_by 2 (at (7 ∷ 8 ∷ 9 ∷ [])) 1 ≡ 8 ∷ 9 ∷ [])
unfolding words_by
words_in_place = (refl, refl, refl)

-- a flag of 1 can be held and one of 2 not, wherever it stands
pub held : (within_by 2 1 2 (at (1 ∷ 9 ∷ 1 ∷ [])) 0 ≡ true) × (within_by 2 1 2 (at (1 ∷ 9 ∷ 2 ∷ [])) 0 ≡ false)
unfolding within_by
held = (refl, refl)
