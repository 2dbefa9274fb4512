-- Laws of one field: its number, and what it comes to. Assumes nothing.
use Prim.Native.Nat.{ℕ, zero, suc, ◌+◌, ◌-◌, ◌*◌, ◌≤◌, ◌<◌}
use mathlib.Core.Path.{◌≡◌, refl, ap, sym, subst, ◌∙◌}
use mathlib.Core.Bool.{Bool, true, false, not, cond}
use mathlib.Core.List.{List, [], ◌∷◌, ◌++◌}
use native.Mathlib.Omega.{arith}
use borrow.Author.Tests.{le-leb, lt-leb, ne_eqb, not-true, not-false}
use lib.Dec.{eqb}
use lib.ListN.{length, take, drop, get_or, set, length-append, length-drop}
use lib.Seq.{drop-drop}
use Rattle.std.specs.Prelude.{Result, Ok, Err, IsErrAnd}
use Rattle.rules.specs.State.{ConfState}
use Rattle.rules.specs.Wire.{Found, bad, found, Payload, varint, bytes, single, length_in, numbered, varint_in}
use Rattle.rules.specs.Message.{Numbers, faulty, all, numbers, grown, packed, Read, taken, with_flag, listed, flagged, entered}
use Rattle.wire.specs.Varints.{read_at}
use Rattle.wire.specs.Varints as wire
use Rattle.wire.specs.declared.Varint.{Varint}
use Rattle.wire.specs.declared.Fault.{Fault}
use Rattle.wire.specs.declared.Fault.TheVariants as faults
use Rattle.wire.proofs.Found.{read-bad, read_found, found_within}
use Rattle.confstate.specs.Words.{flag_word, list_words, conf_state_words, list_in, message_in}
use Rattle.confstate.specs.Steps.{Holding, Listing, Grows, stop, Takes, closed, held_at}
use Rattle.confstate.specs.Refusals.{number_of, refusal_for, told}
use Rattle.confstate.specs.declared.read.Refusal.{Refusal}
use Rattle.confstate.specs.declared.read.Refusal.TheVariants.{CutShort, Malformed, LongList, FewWords}
use Rattle.confstate.proofs.Words.{counted, count_set, id-set, told as told-count, listed-count, list_back, listing, list_of, with_list, replaced, block_in, block_out, list_few, flag-set}

-- ** Its number

pub numbered-some : (f : ℕ) → numbered f ≡ true → 0 < f
numbered-some zero e = let z : ◌≡◌ {A = ℕ} 0 1 = cc in absurd (omega arith)
numbered-some (suc f) e = omega arith

-- ** What is told of a refusal

pub named : (d : Refusal) → number_of d ≡ 0 → ⊥
named CutShort e = omega arith
named Malformed e = omega arith
named LongList e = omega arith
named FewWords e = omega arith

-- what a `?` gives back
pub given_back : {A E : Type 0} {r : Result A E} {d : E} → IsErrAnd r (λ e. e ≡ d) → r ≡ Err d
given_back {r = Ok x} h = absurd h
given_back {r = Err e} h = ap Err h

-- ** A single number after a list

module _ {ws : List ℕ} (k : Listing ws) (x : ℕ) where
  pub single-full : 64 ≤ get_or ws 64 0 → Grows (grown (list_in ws 0) (all (x ∷ []))) (Err LongList) ws
  unfolding Grows
  single-full h =
      let e : grown (list_in ws 0) (all (x ∷ [])) ≡ faulty 30
      = rw (lt-leb (length (list_in ws 0 ++ (x ∷ []))) 64 (omega (arith, length-append (list_in ws 0) (x ∷ []), listed-count k))) in
      subst (λ (r : Numbers). Grows r (Err LongList) ws) (sym e) refl

  pub single_more : get_or ws 64 0 < 64 → Grows (grown (list_in ws 0) (all (x ∷ []))) (Ok tt) (set (set ws (get_or ws 64 0) x) 64 (get_or ws 64 0 + 1))
  unfolding Grows list_words
  single_more h =
      let n : get_or ws 64 0 ≡ length (list_in ws 0) = listed-count k in
      let few : length (list_in ws 0) < 64 = omega arith in
      let long : length (list_in ws 0 ++ (x ∷ [])) ≡ get_or ws 64 0 + 1 = omega (arith, length-append (list_in ws 0) (x ∷ [])) in
      let e : grown (list_in ws 0) (all (x ∷ [])) ≡ all (list_in ws 0 ++ (x ∷ [])) = rw (le-leb (length (list_in ws 0 ++ (x ∷ []))) 64 (omega arith)) in
      let a : set ws (get_or ws 64 0) x ≡ counted (list_in ws 0 ++ (x ∷ [])) (length (list_in ws 0))
      = ap (λ (j : ℕ). set ws j x) n ∙ (ap (λ (l : List ℕ). set l (length (list_in ws 0)) x) k.words ∙ id-set (list_in ws 0) (length (list_in ws 0)) x few) in
      let b : set (set ws (get_or ws 64 0) x) 64 (get_or ws 64 0 + 1) ≡ list_words (list_in ws 0 ++ (x ∷ []))
      = ap (λ (l : List ℕ). set l 64 (get_or ws 64 0 + 1)) a
      ∙ (count_set (list_in ws 0 ++ (x ∷ [])) (length (list_in ws 0)) (get_or ws 64 0 + 1) (omega arith) ∙ told-count (list_in ws 0 ++ (x ∷ [])) (sym long)) in
      subst (λ (r : Numbers). Grows r (Ok tt) (set (set ws (get_or ws 64 0) x) 64 (get_or ws 64 0 + 1))) (sym e) (refl, b)

-- ** A field taken in

entered_list : (f : ℕ) (p : Payload) (m : ConfState) → 0 < f → f < 5
    → entered (record { number = f; payload = p }) m ≡ listed (λ xs. with_list f xs m) (grown (list_of f m) (numbers p))
unfolding entered
entered_list zero p m a b = absurd (omega arith)
entered_list (suc zero) p m a b = refl
entered_list (suc (suc zero)) p m a b = refl
entered_list (suc (suc (suc zero))) p m a b = refl
entered_list (suc (suc (suc (suc zero)))) p m a b = refl
entered_list (suc (suc (suc (suc (suc f))))) p m a b = absurd (omega arith)

entered-unknown : (f : ℕ) (p : Payload) (m : ConfState) → 5 < f → entered (record { number = f; payload = p }) m ≡ taken m
unfolding entered
entered-unknown f p m h =
    rw (ne_eqb f 1 (λ e. omega arith), ne_eqb f 2 (λ e. omega arith), ne_eqb f 3 (λ e. omega arith), ne_eqb f 4 (λ e. omega arith), ne_eqb f 5 (λ e. omega arith))

entered-flag : (f : ℕ) (p : Payload) (m : ConfState) → f ≡ 5 → entered (record { number = f; payload = p }) m ≡ flagged p m
unfolding entered
entered-flag f p m h = ap (λ (g : ℕ). entered (record { number = g; payload = p }) m) h

module _ {ws : List ℕ} (k : Holding ws) where
  abbrev m : ConfState
  m = message_in ws

  -- the block that is lent is a list
  lent : (f : ℕ) → 0 < f → f < 5 → take 65 (drop (65 * (f - 1)) ws) ≡ list_words (list_of f m)
  lent f a b = ap (λ (l : List ℕ). take 65 (drop (65 * (f - 1)) l)) k.words ∙ block_in m k.few f a b

  pub lent_list : (f n : ℕ) → numbered f ≡ true → f < 5 → n ≡ 65 → Listing (take n (drop (65 * (f - 1)) ws))
  lent_list f n a b e =
      subst Listing (sym (ap (λ (j : ℕ). take j (drop (65 * (f - 1)) ws)) e ∙ lent f (numbered-some f a) b)) (listing (list_of f m) (list_few m k.few f))

  -- the block after the numbers of a field were put, and what is told of them
  module _ (f n q : ℕ) (p : Payload) (new : List ℕ) (r : Result (Unit {0}) Refusal) (a : numbered f ≡ true) (b : f < 5) (e : n ≡ 65)
      (h : Grows (grown (list_in (take n (drop (65 * (f - 1)) ws)) 0) (numbers p)) r new) where
    list-step : (t : Result ℕ Refusal) → told t ≡ told r → (told r ≡ 0 → t ≡ Ok q) → Takes (closed q (entered (record { number = f; payload = p }) m)) t (take (65 * (f - 1)) ws ++ (new ++ drop n (drop (65 * (f - 1)) ws)))
    unfolding Grows Takes
    list-step t same go =
        by (grown (list_of f m) (numbers p)) refl
        (subst (λ (l : List ℕ). Grows (grown l (numbers p)) r new)
        (ap (λ (j : ℕ). list_in (take j (drop (65 * (f - 1)) ws)) 0) e ∙ (ap (λ (l : List ℕ). list_in l 0) (lent f (numbered-some f a) b) ∙ list_back (list_of f m) (list_few m k.few f))) h)
      where
        by : (x : Numbers) → grown (list_of f m) (numbers p) ≡ x → Grows x r new → Takes (closed q (entered (record { number = f; payload = p }) m)) t (take (65 * (f - 1)) ws ++ (new ++ drop n (drop (65 * (f - 1)) ws)))
        by (faulty d) z w =
            subst (λ (y : Read). Takes (closed q y) t (take (65 * (f - 1)) ws ++ (new ++ drop n (drop (65 * (f - 1)) ws)))) (sym (entered_list f p m (numbered-some f a) b ∙ ap (listed (λ xs. with_list f xs m)) z)) (same ∙ w)
        by (all xs) z w =
            let u : take (65 * (f - 1)) ws ++ (new ++ drop n (drop (65 * (f - 1)) ws)) ≡ conf_state_words (with_list f xs m)
            = ap (λ (j : ℕ). take (65 * (f - 1)) ws ++ (new ++ drop j (drop (65 * (f - 1)) ws))) e
            ∙ (ap (λ (l : List ℕ). replaced (65 * (f - 1)) new l) k.words
            ∙ (ap (λ (l : List ℕ). replaced (65 * (f - 1)) l (conf_state_words m)) w.1 ∙ block_out m k.few f xs (numbered-some f a) b)) in
            subst (λ (y : Read). Takes (closed q y) t (take (65 * (f - 1)) ws ++ (new ++ drop n (drop (65 * (f - 1)) ws)))) (sym (entered_list f p m (numbered-some f a) b ∙ ap (listed (λ xs. with_list f xs m)) z)) (go w.0, u)

    pub list_refused : {t : Result ℕ Refusal} {d : Refusal} → r ≡ Err d → t ≡ Err d → Takes (closed q (entered (record { number = f; payload = p }) m)) t (take (65 * (f - 1)) ws ++ (new ++ drop n (drop (65 * (f - 1)) ws)))
    list_refused {t} {d} x y = list-step t (rw (x, y)) (λ z. absurd (named d (sym (ap told x) ∙ z)))

    pub list_taken : {u : Unit {0}} → r ≡ Ok u → Takes (closed q (entered (record { number = f; payload = p }) m)) (Ok q) (take (65 * (f - 1)) ws ++ (new ++ drop n (drop (65 * (f - 1)) ws)))
    list_taken x = list-step (Ok q) (sym (ap told x)) (λ z. refl)

  pub unknown-taken : (f q : ℕ) (p : Payload) → 5 < f → Takes (closed q (entered (record { number = f; payload = p }) m)) (Ok q) ws
  unfolding Takes
  unknown-taken f q p h =
      subst (λ (r : Read). Takes (closed q r) (Ok q) ws) (sym (entered-unknown f p m h)) (refl, k.words)

  pub flag-taken : (f q v w : ℕ) → f ≡ 5 → w ≡ flag_word (not (eqb v 0))
      → Takes (closed q (entered (record { number = f; payload = varint v }) m)) (Ok q) (set ws 260 w)
  unfolding Takes
  flag-taken f q v w h e =
      let u : set ws 260 w ≡ conf_state_words (with_flag (not (eqb v 0)) m)
      = ap (λ (j : ℕ). set ws 260 j) e ∙ (ap (λ (l : List ℕ). set l 260 (flag_word (not (eqb v 0)))) k.words ∙ flag-set m k.few (not (eqb v 0))) in
      subst (λ (r : Read). Takes (closed q r) (Ok q) (set ws 260 w)) (sym (entered-flag f (varint v) m h)) (refl, u)

-- ** A field whose payload was looked for at q

module _ (q f : ℕ) (w : ConfState) (t : Result ℕ Refusal) (ws : List ℕ) {x : Found Payload} where
  pub held-bad : {e : ℕ} → x ≡ bad e → told t ≡ e → Takes (held_at q f w x) t ws
  unfolding Takes
  held-bad h g = subst (λ (y : Found Payload). Takes (held_at q f w y) t ws) (sym h) g

  pub held_29 : {p : Payload} {n : ℕ} → x ≡ found p n → numbered f ≡ false → told t ≡ 29 → Takes (held_at q f w x) t ws
  unfolding Takes
  held_29 {p} {n} h b g =
      subst (λ (y : Found Payload). Takes (held_at q f w y) t ws) (sym h)
      (subst (λ (c : Bool). Takes (cond c (closed (q + n) (entered (record { number = f; payload = p }) w)) (stop 29)) t ws) (sym b) g)

  pub held-go : {p : Payload} {n : ℕ} → x ≡ found p n → numbered f ≡ true → Takes (closed (q + n) (entered (record { number = f; payload = p }) w)) t ws → Takes (held_at q f w x) t ws
  held-go {p} {n} h b g =
      subst (λ (y : Found Payload). Takes (held_at q f w y) t ws) (sym h)
      (subst (λ (c : Bool). Takes (cond c (closed (q + n) (entered (record { number = f; payload = p }) w)) (stop 29)) t ws) (sym b) g)

-- what `misnumbered` says
misnumbered_yes : (f : ℕ) {b : Bool} → b ≡ not (numbered f) → b ≡ true → numbered f ≡ false
misnumbered_yes f e h = not-true (numbered f) (sym e ∙ h)

pub misnumbered_no : (f : ℕ) {b : Bool} → b ≡ not (numbered f) → b ≡ false → numbered f ≡ true
misnumbered_no f e h = not-false (numbered f) (sym e ∙ h)

pub past_5 : {f : ℕ} → 5 ≤ f → (f ≡ 5 → ⊥) → 5 < f
past_5 h g = omega arith

-- a number's fault has its refusal's number
pub fault-number : (d : Fault) → number_of (refusal_for d) ≡ wire.number_of d
fault-number faults.CutShort = refl
fault-number (faults.Malformed n) = refl

pub bad-told : {t : Result ℕ Refusal} (d : Fault) → t ≡ Err (refusal_for d) → told t ≡ wire.number_of d
bad-told d g = ap told g ∙ fault-number d

-- ** A varint

module _ (l : List ℕ) (q f : ℕ) (w : ConfState) {x : Result Varint Fault} (e : x ≡ read_at l q) where
  pub varint-bad : (t : Result ℕ Refusal) (ws : List ℕ) {d : Fault} → x ≡ Err d → t ≡ Err (refusal_for d) → Takes (held_at q f w (single (varint_in (drop q l)))) t ws
  varint-bad t ws {d} h g = held-bad q f w t ws (ap single (read-bad l q (sym h ∙ e))) (bad-told d g)

  module _ {v : Varint} (h : x ≡ Ok v) where
    at-varint : single (varint_in (drop q l)) ≡ found (varint v.value) (read_found l q (sym h ∙ e)).0
    at-varint = ap single (read_found l q (sym h ∙ e)).1.1

    pub varint_29 : {b : Bool} (t : Result ℕ Refusal) (ws : List ℕ) → b ≡ not (numbered f) → b ≡ true → t ≡ Err Malformed → Takes (held_at q f w (single (varint_in (drop q l)))) t ws
    varint_29 t ws a b g = held_29 q f w t ws at-varint (misnumbered_yes f a b) (ap told g)

    pub varint-go : (t : Result ℕ Refusal) (ws : List ℕ) → numbered f ≡ true → Takes (closed v.next (entered (record { number = f; payload = varint v.value }) w)) t ws
        → Takes (held_at q f w (single (varint_in (drop q l)))) t ws
    varint-go t ws b g =
        held-go q f w t ws at-varint b (subst (λ (j : ℕ). Takes (closed j (entered (record { number = f; payload = varint v.value }) w)) t ws) (read_found l q (sym h ∙ e)).1.0 g)

-- ** A length and as many bytes

module _ (l : List ℕ) (q f : ℕ) (w : ConfState) {x : Result Varint Fault} (e : x ≡ read_at l q) where
  pub length-bad : (t : Result ℕ Refusal) (ws : List ℕ) {d : Fault} → x ≡ Err d → t ≡ Err (refusal_for d) → Takes (held_at q f w (length_in (drop q l) (varint_in (drop q l)))) t ws
  length-bad t ws {d} h g = held-bad q f w t ws (ap (length_in (drop q l)) (read-bad l q (sym h ∙ e))) (bad-told d g)

  module _ {v : Varint} (h : x ≡ Ok v) where
    abbrev n : ℕ
    n = (read_found l q (sym h ∙ e)).0

    ends : v.next ≡ q + n
    ends = (read_found l q (sym h ∙ e)).1.0

    at_length : length_in (drop q l) (varint_in (drop q l)) ≡ length_in (drop q l) (found v.value n)
    at_length = ap (length_in (drop q l)) (read_found l q (sym h ∙ e)).1.1

    pub next-within : v.next ≤ length l
    next-within = omega (arith, ends, (found_within (drop q l) (read_found l q (sym h ∙ e)).1.1).0, (found_within (drop q l) (read_found l q (sym h ∙ e)).1.1).1, length-drop q l)

    pub length_28 : (t : Result ℕ Refusal) (ws : List ℕ) → length l - v.next < v.value → t ≡ Err CutShort → Takes (held_at q f w (length_in (drop q l) (varint_in (drop q l)))) t ws
    length_28 t ws a g =
        let b : length (drop q l) - n < v.value = omega (arith, length-drop q l, ends) in
        held-bad q f w t ws (at_length ∙ rw (lt-leb v.value (length (drop q l) - n) b)) (ap told g)

    module _ (fit : v.value ≤ length l - v.next) where
      at-bytes : length_in (drop q l) (varint_in (drop q l)) ≡ found (bytes (take v.value (drop v.next l))) (n + v.value)
      at-bytes =
          let b : v.value ≤ length (drop q l) - n = omega (arith, length-drop q l, ends) in
          let d : drop n (drop q l) ≡ drop v.next l = drop-drop n q l ∙ ap (λ (j : ℕ). drop j l) (sym ends) in
          at_length ∙ rw (le-leb v.value (length (drop q l) - n) b, d)

      pub length_29 : {b : Bool} (t : Result ℕ Refusal) (ws : List ℕ) → b ≡ not (numbered f) → b ≡ true → t ≡ Err Malformed
          → Takes (held_at q f w (length_in (drop q l) (varint_in (drop q l)))) t ws
      length_29 t ws a b g = held_29 q f w t ws at-bytes (misnumbered_yes f a b) (ap told g)

      pub length-go : (t : Result ℕ Refusal) (ws : List ℕ) → numbered f ≡ true
          → Takes (closed (v.next + v.value) (entered (record { number = f; payload = bytes (take v.value (drop v.next l)) }) w)) t ws
          → Takes (held_at q f w (length_in (drop q l) (varint_in (drop q l)))) t ws
      length-go t ws b g =
          let k : v.next + v.value ≡ q + (n + v.value) = omega (arith, ends) in
          held-go q f w t ws at-bytes b (subst (λ (j : ℕ). Takes (closed j (entered (record { number = f; payload = bytes (take v.value (drop v.next l)) }) w)) t ws) k g)

  -- the flag is no bytes
  pub flag-bytes : (j : ℕ) (y : List ℕ) (t : Result ℕ Refusal) (ws : List ℕ) → f ≡ 5 → t ≡ Err Malformed → Takes (closed j (entered (record { number = f; payload = bytes y }) w)) t ws
  unfolding Takes
  flag-bytes j y t ws g b = subst (λ (r : Read). Takes (closed j r) t ws) (sym (entered-flag f (bytes y) w g)) (ap told b)

-- the bytes that are lent, as many as the length says
pub grown_part : (old l : List ℕ) (s j n : ℕ) (g : Result (Unit {0}) Refusal) (new : List ℕ) → j ≡ n → Grows (grown old (packed (take j (drop s l)))) g new → Grows (grown old (numbers (bytes (take n (drop s l))))) g new
grown_part old l s j n g new e h = subst (λ (i : ℕ). Grows (grown old (packed (take i (drop s l)))) g new) e h
