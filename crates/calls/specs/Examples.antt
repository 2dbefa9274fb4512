-- The definitions tried on small lists: each line rules out a layout or an entry that does otherwise. Assumes nothing.
use Rattle.std.specs.Prelude.{◌≡◌, refl, true, false, [], ◌∷◌, replicate}
use Rattle.idset.specs.declared.IdSet.{IdSet}
use Rattle.tracker.specs.declared.IdList.{IdList}
use Rattle.tracker.specs.declared.MapChangeType.TheVariants.{Remove}
use Rattle.tracker.specs.declared.Tracker.{Tracker}
use Rattle.unplug.specs.Words.{words_by, within_by}
use Rattle.calls.specs.Layout.{number, word, words, within}
use Rattle.calls.specs.Reply.{bytes, word_bytes, all_bytes, conf_words, records_words, state_words, entries_words, log_words, conf_state_words}
use Rattle.calls.specs.Call.{call_answer, call_leaves, reply, reply_words}
use Rattle.calls.specs.Unplugs.{unplug_answer, unplug_leaves}

-- not the most significant byte first; a byte that is not there counts as 0
pub numbers : (number 2 (1 ∷ 2 ∷ []) 0 ≡ 513) × (number 2 (7 ∷ 1 ∷ 2 ∷ []) 1 ≡ 513) × (number 8 (1 ∷ 2 ∷ []) 0 ≡ 513)
unfolding number
numbers = (refl, refl, refl)

pub number-bytes : (bytes 2 513 ≡ 1 ∷ 2 ∷ []) × (word_bytes 513 ≡ 1 ∷ 2 ∷ 0 ∷ 0 ∷ 0 ∷ 0 ∷ 0 ∷ 0 ∷ [])
unfolding bytes word_bytes
number-bytes = (refl, refl)

-- the first word first
pub word-places : (words 2 (all_bytes (513 ∷ 7 ∷ [])) 0 ≡ 513 ∷ 7 ∷ []) × (word (all_bytes (513 ∷ 7 ∷ [])) 1 ≡ 7)
unfolding number words_by bytes word_bytes all_bytes
word-places = (refl, refl)

-- a log's entries, and then its count
pub log-places : log_words (record { entries = record { id = 5; kind = Remove } ∷ []; count = 9 }) ≡ 5 ∷ 1 ∷ 9 ∷ []
unfolding entries_words log_words
log-places = refl

-- sets and arrays of no places: number, id and yes come first, then the state, the log and the lists; how many entries did nothing comes last
abbrev no_set : IdSet
no_set = record { ids = []; len = 0 }

abbrev no_list : IdList
no_list = record { ids = []; len = 0 }

abbrev little : Tracker
little =
    record {
      conf = record { incoming = no_set; outgoing = no_set; learners = no_set; learners_next = no_set; auto_leave = false };
      ids = no_set;
      records = [];
      max_inflight = 3;
    }

pub reply-places :
    reply_words (reply 5 6 true little (record { entries = []; count = 4 }) (record { voters = no_list; learners = no_list; voters_outgoing = no_list; learners_next = no_list; auto_leave = true }) 9)
    ≡ 5 ∷ 6 ∷ 1 ∷ 0 ∷ 0 ∷ 0 ∷ 0 ∷ 0 ∷ 0 ∷ 3 ∷ 4 ∷ 0 ∷ 0 ∷ 0 ∷ 0 ∷ 1 ∷ 9 ∷ []
unfolding reply_words state_words conf_words records_words log_words entries_words conf_state_words
reply-places = refl

-- a flag of 1 can be held and one of 2 not; a kind of 255 can be and one of 256 not, though its least significant byte is 0
pub held : (within 1 1 1 (1 ∷ []) 0 ≡ true) × (within 1 1 1 (2 ∷ []) 0 ≡ false) × (within 2 255 1 (all_bytes (0 ∷ 255 ∷ [])) 0 ≡ true) × (within 2 255 1 (all_bytes (0 ∷ 256 ∷ [])) 0 ≡ false)
unfolding number within_by bytes word_bytes all_bytes
held = (refl, refl, refl, refl)

-- a request of no bytes: 1, also where the reply is too short, and the reply is as it was
pub wrong_length : (call_answer [] 0 ≡ 1) × (call_answer [] 13960 ≡ 1) × (call_leaves [] (9 ∷ []) ≡ 9 ∷ [])
unfolding call_answer call_leaves
wrong_length = (refl, refl, refl)

-- a request of the right length, all zeros, and a reply one byte too short: 2
pub short-reply : call_answer (replicate 20216 0) 13959 ≡ 2
unfolding call_answer
short-reply = refl

-- a request of the right length whose call is 9: 3
pub unknown-call : call_answer (9 ∷ replicate 20215 0) 13960 ≡ 3
unfolding call_answer number
unknown-call = refl

-- a STATE of no words: 1, also where the verdict is too short, and the verdict is as it was; one of 967 zeros and a verdict of one word: 2
pub no_state : (unplug_answer [] 0 ≡ 1) × (unplug_leaves [] 1 (9 ∷ []) ≡ 9 ∷ []) × (unplug_answer (replicate 967 0) 1 ≡ 2)
unfolding unplug_answer unplug_leaves
no_state = (refl, refl, refl)
