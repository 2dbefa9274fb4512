-- Laws of the words of a CONFSTATE: what they hold, a list of them lent and given back, the flag set. Assumes nothing.
use Prim.Native.Nat.{ℕ, zero, suc, ◌+◌, ◌-◌, ◌*◌, ◌≤◌, ◌<◌}
use mathlib.Core.Path.{◌≡◌, refl, ap, sym, subst, ◌∙◌}
use mathlib.Core.Bool.{Bool, true, false, cond}
use mathlib.Core.List.{List, [], ◌∷◌, ◌++◌, append_assoc}
use native.Mathlib.Omega.{arith}
use lib.Dec.{eqb}
use lib.ListN.{length, take, drop, get_or, set, replicate, length-append, length-replicate}
use lib.Seq.{take_at, take-take, drop_at, get_or_at, get_or-take, get_or-drop, set_at, append_snoc, take-append_seam}
use Rattle.rules.specs.State.{ConfState}
use Rattle.rules.specs.Message.{Few64, with_voters, with_learners, with_outgoing, with_next, with_flag}
use Rattle.confstate.specs.Words.{list_words, flag_word, conf_state_words, list_in, message_in}
use Rattle.confstate.specs.Steps.{Holding, Listing}

-- ** A list in its 65 words

places : (xs : List ℕ) → length xs ≤ 64 → length (xs ++ replicate (64 - length xs) 0) ≡ 64
places xs h = length-append xs (replicate (64 - length xs) 0) ∙ (ap (λ (n : ℕ). length xs + n) (length-replicate (64 - length xs) 0) ∙ omega arith)

-- the places, then the count
apart : (xs : List ℕ) → list_words xs ≡ (xs ++ replicate (64 - length xs) 0) ++ (length xs ∷ [])
unfolding list_words
apart xs = sym (append_assoc xs (replicate (64 - length xs) 0) (length xs ∷ []))

pub list_length : (xs : List ℕ) → length xs ≤ 64 → length (list_words xs) ≡ 65
list_length xs h = ap length (apart xs) ∙ (length-append (xs ++ replicate (64 - length xs) 0) (length xs ∷ []) ∙ ap (λ (n : ℕ). n + 1) (places xs h))

pub list_count : (xs : List ℕ) → length xs ≤ 64 → get_or (list_words xs) 64 0 ≡ length xs
list_count xs h = ap (λ (l : List ℕ). get_or l 64 0) (apart xs) ∙ get_or_at (xs ++ replicate (64 - length xs) 0) (length xs) [] 0 64 (places xs h)

pub list_places : (xs : List ℕ) → length xs ≤ 64 → take 64 (list_words xs) ≡ xs ++ replicate (64 - length xs) 0
list_places xs h = ap (take 64) (apart xs) ∙ take_at (xs ++ replicate (64 - length xs) 0) (length xs ∷ []) 64 (places xs h)

pub list_back : (xs : List ℕ) → length xs ≤ 64 → list_in (list_words xs) 0 ≡ xs
unfolding list_in list_words
list_back xs h =
    ap (λ (n : ℕ). take n (xs ++ (replicate (64 - length xs) 0 ++ (length xs ∷ [])))) (list_count xs h) ∙ take-append_seam xs (replicate (64 - length xs) 0 ++ (length xs ∷ []))

-- its ids are in front
front_of : (xs : List ℕ) → take (length xs) (list_words xs) ≡ xs
unfolding list_words
front_of xs = take-append_seam xs (replicate (64 - length xs) 0 ++ (length xs ∷ []))

pub listing : (xs : List ℕ) → length xs ≤ 64 → Listing (list_words xs)
listing xs h = record { long = list_length xs h; words = sym (ap list_words (list_back xs h)); few = subst (λ (l : List ℕ). length l ≤ 64) (sym (list_back xs h)) h }

pub listed-count : {ws : List ℕ} (k : Listing ws) → get_or ws 64 0 ≡ length (list_in ws 0)
listed-count {ws} k = ap (λ (l : List ℕ). get_or l 64 0) k.words ∙ list_count (list_in ws 0) k.few

-- a list whose last word is c
abbrev pub counted : List ℕ → ℕ → List ℕ
counted xs c = xs ++ (replicate (64 - length xs) 0 ++ (c ∷ []))

pub told : (xs : List ℕ) {n : ℕ} → n ≡ length xs → counted xs n ≡ list_words xs
unfolding list_words
told xs e = ap (counted xs) e

pub count_set : (xs : List ℕ) (c d : ℕ) → length xs ≤ 64 → set (counted xs c) 64 d ≡ counted xs d
count_set xs c d h =
    ap (λ (l : List ℕ). set l 64 d) (sym (append_assoc xs (replicate (64 - length xs) 0) (c ∷ [])))
    ∙ (set_at (xs ++ replicate (64 - length xs) 0) c [] d 64 (places xs h) ∙ append_assoc xs (replicate (64 - length xs) 0) (d ∷ []))

-- the id after the last, in a list whose count is not yet told
pub id-set : (xs : List ℕ) (c x : ℕ) → length xs < 64 → set (counted xs c) (length xs) x ≡ counted (xs ++ (x ∷ [])) c
id-set xs c x h =
    let a : 64 - length xs ≡ suc (63 - length xs) = omega arith in
    let b : 64 - length (xs ++ (x ∷ [])) ≡ 63 - length xs = omega (arith, length-append xs (x ∷ [])) in
    rw (a, b) (set_at xs 0 (replicate (63 - length xs) 0 ++ (c ∷ [])) x (length xs) refl ∙ sym (append_snoc xs x (replicate (63 - length xs) 0 ++ (c ∷ []))))

-- ** The four lists and the flag

-- the words by their blocks
abbrev row : List ℕ → List ℕ → List ℕ → List ℕ → ℕ → List ℕ
row a b c d f = a ++ (b ++ (c ++ (d ++ (f ∷ []))))

module _ (a b c d : List ℕ) (f : ℕ) (la : length a ≡ 65) (lb : length b ≡ 65) (lc : length c ≡ 65) (ld : length d ≡ 65) where
  drop_1 : drop 65 (row a b c d f) ≡ b ++ (c ++ (d ++ (f ∷ [])))
  drop_1 = drop_at a (b ++ (c ++ (d ++ (f ∷ [])))) 65 la

  ab : length (a ++ b) ≡ 130
  ab = omega (arith, length-append a b)

  abc : length (a ++ (b ++ c)) ≡ 195
  abc = omega (arith, length-append a (b ++ c), length-append b c)

  abcd : length (a ++ (b ++ (c ++ d))) ≡ 260
  abcd = omega (arith, length-append a (b ++ (c ++ d)), length-append b (c ++ d), length-append c d)

  by_2 : row a b c d f ≡ (a ++ b) ++ (c ++ (d ++ (f ∷ [])))
  by_2 = sym (append_assoc a b (c ++ (d ++ (f ∷ []))))

  by_3 : row a b c d f ≡ (a ++ (b ++ c)) ++ (d ++ (f ∷ []))
  by_3 = rw (append_assoc a (b ++ c) (d ++ (f ∷ [])), append_assoc b c (d ++ (f ∷ [])))

  by_4 : row a b c d f ≡ (a ++ (b ++ (c ++ d))) ++ (f ∷ [])
  by_4 = rw (append_assoc a (b ++ (c ++ d)) (f ∷ []), append_assoc b (c ++ d) (f ∷ []), append_assoc c d (f ∷ []))

  drop_2 : drop 130 (row a b c d f) ≡ c ++ (d ++ (f ∷ []))
  drop_2 = ap (drop 130) by_2 ∙ drop_at (a ++ b) (c ++ (d ++ (f ∷ []))) 130 ab

  drop_3 : drop 195 (row a b c d f) ≡ d ++ (f ∷ [])
  drop_3 = ap (drop 195) by_3 ∙ drop_at (a ++ (b ++ c)) (d ++ (f ∷ [])) 195 abc

  drop_4 : drop 260 (row a b c d f) ≡ f ∷ []
  drop_4 = ap (drop 260) by_4 ∙ drop_at (a ++ (b ++ (c ++ d))) (f ∷ []) 260 abcd

  row-flag : get_or (row a b c d f) 260 0 ≡ f
  row-flag = ap (λ (l : List ℕ). get_or l 260 0) by_4 ∙ get_or_at (a ++ (b ++ (c ++ d))) f [] 0 260 abcd

  row-flag-set : (g : ℕ) → set (row a b c d f) 260 g ≡ row a b c d g
  row-flag-set g =
      ap (λ (l : List ℕ). set l 260 g) by_4
      ∙ (set_at (a ++ (b ++ (c ++ d))) f [] g 260 abcd ∙ rw (append_assoc a (b ++ (c ++ d)) (g ∷ []), append_assoc b (c ++ d) (g ∷ []), append_assoc c d (g ∷ [])))

  row-length : length (row a b c d f) ≡ 261
  row-length = ap length by_4 ∙ omega (arith, length-append (a ++ (b ++ (c ++ d))) (f ∷ []), abcd)

-- ** A block of 65 words, lent and given back

-- the words before and after are kept
abbrev pub replaced : ℕ → List ℕ → List ℕ → List ℕ
replaced k p l = take k l ++ (p ++ drop 65 (drop k l))

module _ (a b c d : List ℕ) (f : ℕ) (la : length a ≡ 65) (lb : length b ≡ 65) (lc : length c ≡ 65) (ld : length d ≡ 65) where
  part_1 : take 65 (drop 0 (row a b c d f)) ≡ a
  part_1 = take_at a (b ++ (c ++ (d ++ (f ∷ [])))) 65 la

  part_2 : take 65 (drop 65 (row a b c d f)) ≡ b
  part_2 = ap (take 65) (drop_1 a b c d f la lb lc ld) ∙ take_at b (c ++ (d ++ (f ∷ []))) 65 lb

  part_3 : take 65 (drop 130 (row a b c d f)) ≡ c
  part_3 = ap (take 65) (drop_2 a b c d f la lb lc ld) ∙ take_at c (d ++ (f ∷ [])) 65 lc

  part_4 : take 65 (drop 195 (row a b c d f)) ≡ d
  part_4 = ap (take 65) (drop_3 a b c d f la lb lc ld) ∙ take_at d (f ∷ []) 65 ld

  back_1 : (p : List ℕ) → replaced 0 p (row a b c d f) ≡ row p b c d f
  back_1 p = ap (λ (l : List ℕ). p ++ l) (drop_1 a b c d f la lb lc ld)

  back_2 : (p : List ℕ) → replaced 65 p (row a b c d f) ≡ row a p c d f
  back_2 p = rw (take_at a (b ++ (c ++ (d ++ (f ∷ [])))) 65 la, drop_1 a b c d f la lb lc ld, drop_at b (c ++ (d ++ (f ∷ []))) 65 lb)

  back_3 : (p : List ℕ) → replaced 130 p (row a b c d f) ≡ row a b p d f
  back_3 p =
      rw (drop_2 a b c d f la lb lc ld, drop_at c (d ++ (f ∷ [])) 65 lc, by_2 a b c d f la lb lc ld, take_at (a ++ b) (c ++ (d ++ (f ∷ []))) 130 (ab a b c d f la lb lc ld))
      (append_assoc a b (p ++ (d ++ (f ∷ []))))

  back_4 : (p : List ℕ) → replaced 195 p (row a b c d f) ≡ row a b c p f
  back_4 p =
      rw (drop_3 a b c d f la lb lc ld, drop_at d (f ∷ []) 65 ld, by_3 a b c d f la lb lc ld, take_at (a ++ (b ++ c)) (d ++ (f ∷ [])) 195 (abc a b c d f la lb lc ld))
      (append_assoc a (b ++ c) (p ++ (f ∷ [])) ∙ ap (λ (l : List ℕ). a ++ l) (append_assoc b c (p ++ (f ∷ []))))

-- ** A message in its words

flag-back : (b : Bool) → eqb (flag_word b) 1 ≡ b
flag-back true = refl
flag-back false = refl

-- a list read off a block that stands at k: its count, and its ids
pub count_at : (ws xs : List ℕ) (k : ℕ) → length xs ≤ 64 → take 65 (drop k ws) ≡ list_words xs → get_or ws (k + 64) 0 ≡ length xs
count_at ws xs k h e = sym (get_or-drop k ws 64 0) ∙ (sym (get_or-take 65 (drop k ws) 64 0 (omega arith)) ∙ (ap (λ (l : List ℕ). get_or l 64 0) e ∙ list_count xs h))

list_at : (ws xs : List ℕ) (k : ℕ) → length xs ≤ 64 → take 65 (drop k ws) ≡ list_words xs → list_in ws k ≡ xs
unfolding list_in
list_at ws xs k h e =
    ap (λ (c : ℕ). take c (drop k ws)) (count_at ws xs k h e) ∙ (sym (take-take (length xs) 65 (drop k ws) (omega arith)) ∙ (ap (take (length xs)) e ∙ front_of xs))

-- the list of a field's number, and the message with another one there
abbrev pub list_of : ℕ → ConfState → List ℕ
list_of f m = cond (eqb f 1) m.voters (cond (eqb f 2) m.learners (cond (eqb f 3) m.voters_outgoing m.learners_next))

abbrev pub with_list : ℕ → List ℕ → ConfState → ConfState
with_list f xs m = cond (eqb f 1) (with_voters xs m) (cond (eqb f 2) (with_learners xs m) (cond (eqb f 3) (with_outgoing xs m) (with_next xs m)))

module _ (m : ConfState) (few : Few64 m) where
  la : length (list_words m.voters) ≡ 65
  la = list_length m.voters few.voters

  lb : length (list_words m.learners) ≡ 65
  lb = list_length m.learners few.learners

  lc : length (list_words m.voters_outgoing) ≡ 65
  lc = list_length m.voters_outgoing few.voters_outgoing

  ld : length (list_words m.learners_next) ≡ 65
  ld = list_length m.learners_next few.learners_next

  pub words-length : length (conf_state_words m) ≡ 261
  unfolding conf_state_words
  words-length = row-length (list_words m.voters) (list_words m.learners) (list_words m.voters_outgoing) (list_words m.learners_next) (flag_word m.auto_leave) la lb lc ld

  -- its block, as it is lent
  pub block_in : (f : ℕ) → 0 < f → f < 5 → take 65 (drop (65 * (f - 1)) (conf_state_words m)) ≡ list_words (list_of f m)
  unfolding conf_state_words
  block_in zero p q = absurd (omega arith)
  block_in (suc zero) p q = part_1 (list_words m.voters) (list_words m.learners) (list_words m.voters_outgoing) (list_words m.learners_next) (flag_word m.auto_leave) la lb lc ld
  block_in (suc (suc zero)) p q = part_2 (list_words m.voters) (list_words m.learners) (list_words m.voters_outgoing) (list_words m.learners_next) (flag_word m.auto_leave) la lb lc ld
  block_in (suc (suc (suc zero))) p q = part_3 (list_words m.voters) (list_words m.learners) (list_words m.voters_outgoing) (list_words m.learners_next) (flag_word m.auto_leave) la lb lc ld
  block_in (suc (suc (suc (suc zero)))) p q = part_4 (list_words m.voters) (list_words m.learners) (list_words m.voters_outgoing) (list_words m.learners_next) (flag_word m.auto_leave) la lb lc ld
  block_in (suc (suc (suc (suc (suc f))))) p q = absurd (omega arith)

  -- and given back
  pub block_out : (f : ℕ) (xs : List ℕ) → 0 < f → f < 5 → replaced (65 * (f - 1)) (list_words xs) (conf_state_words m) ≡ conf_state_words (with_list f xs m)
  unfolding conf_state_words
  block_out zero xs p q = absurd (omega arith)
  block_out (suc zero) xs p q = back_1 (list_words m.voters) (list_words m.learners) (list_words m.voters_outgoing) (list_words m.learners_next) (flag_word m.auto_leave) la lb lc ld (list_words xs)
  block_out (suc (suc zero)) xs p q = back_2 (list_words m.voters) (list_words m.learners) (list_words m.voters_outgoing) (list_words m.learners_next) (flag_word m.auto_leave) la lb lc ld (list_words xs)
  block_out (suc (suc (suc zero))) xs p q = back_3 (list_words m.voters) (list_words m.learners) (list_words m.voters_outgoing) (list_words m.learners_next) (flag_word m.auto_leave) la lb lc ld (list_words xs)
  block_out (suc (suc (suc (suc zero)))) xs p q = back_4 (list_words m.voters) (list_words m.learners) (list_words m.voters_outgoing) (list_words m.learners_next) (flag_word m.auto_leave) la lb lc ld (list_words xs)
  block_out (suc (suc (suc (suc (suc f))))) xs p q = absurd (omega arith)

  pub list_few : (f : ℕ) → length (list_of f m) ≤ 64
  list_few f = by (eqb f 1) (eqb f 2) (eqb f 3)
    where
      by : (a b c : Bool) → length (cond a m.voters (cond b m.learners (cond c m.voters_outgoing m.learners_next))) ≤ 64
      by true b c = few.voters
      by false true c = few.learners
      by false false true = few.voters_outgoing
      by false false false = few.learners_next

  pub flag-set : (b : Bool) → set (conf_state_words m) 260 (flag_word b) ≡ conf_state_words (with_flag b m)
  unfolding conf_state_words
  flag-set b = row-flag-set (list_words m.voters) (list_words m.learners) (list_words m.voters_outgoing) (list_words m.learners_next) (flag_word m.auto_leave) la lb lc ld (flag_word b)

  pub words-flag : get_or (conf_state_words m) 260 0 ≡ flag_word m.auto_leave
  unfolding conf_state_words
  words-flag = row-flag (list_words m.voters) (list_words m.learners) (list_words m.voters_outgoing) (list_words m.learners_next) (flag_word m.auto_leave) la lb lc ld

  pub words_back : message_in (conf_state_words m) ≡ m
  unfolding message_in
  words_back =
      let a : list_in (conf_state_words m) 0 ≡ m.voters = list_at (conf_state_words m) m.voters 0 few.voters (block_in 1 (omega arith) (omega arith)) in
      let b : list_in (conf_state_words m) 65 ≡ m.learners = list_at (conf_state_words m) m.learners 65 few.learners (block_in 2 (omega arith) (omega arith)) in
      let c : list_in (conf_state_words m) 130 ≡ m.voters_outgoing
      = list_at (conf_state_words m) m.voters_outgoing 130 few.voters_outgoing (block_in 3 (omega arith) (omega arith)) in
      let d : list_in (conf_state_words m) 195 ≡ m.learners_next = list_at (conf_state_words m) m.learners_next 195 few.learners_next (block_in 4 (omega arith) (omega arith)) in
      let f : eqb (get_or (conf_state_words m) 260 0) 1 ≡ m.auto_leave = ap (λ (w : ℕ). eqb w 1) words-flag ∙ flag-back m.auto_leave in
      λ i. record { voters = a i; learners = b i; voters_outgoing = c i; learners_next = d i; auto_leave = f i }

  pub holding : Holding (conf_state_words m)
  holding = record { long = words-length; words = sym (ap conf_state_words words_back); few = subst Few64 (sym words_back) few }
