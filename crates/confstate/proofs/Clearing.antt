-- Cleared words are a message's. Assumes nothing.
use mathlib.Core.Path.{◌≡◌, refl}
use lib.ListN.{replicate}
use Rattle.rules.specs.Apply.{no_conf_state}
use Rattle.confstate.specs.Words.{list_words, conf_state_words}

-- 261 zeros are four empty lists and a false flag
pub cleared : replicate 261 0 ≡ conf_state_words no_conf_state
unfolding conf_state_words list_words
cleared = refl
