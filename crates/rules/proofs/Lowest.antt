-- "Within it the lower number": of a field at the front of bytes the least of its faults is told, and a field that is taken has none. Assumes nothing.
use Prim.Native.Nat.{ℕ, zero, suc, ◌+◌, ◌/◌, ◌%◌, ◌≤◌, min}
use mathlib.Core.Path.{◌≡◌, refl, ap, sym, subst, ◌∙◌}
use mathlib.Core.Bool.{Bool, true, false, cond}
use mathlib.Core.List.{List, [], ◌∷◌, ◌++◌, append-nil}
use native.Mathlib.Omega.{arith}
use borrow.Author.Tests.{ltb-true, ltb-false, ne_eqb}
use lib.Dec.{eqb, leb, ltb}
use lib.ListN.{length, drop, length-append}
use Rattle.rules.specs.State.{ConfState}
use Rattle.rules.specs.Wire.{Front, cut, num, fits, Found, bad, found, Payload, varint, fixed, bytes, payload_in, numbered, held, tagged, judged, varint_in, field_in}
use Rattle.rules.specs.Message.{Numbers, faulty, all, fronts, lower, before, gathered, packed, numbers, grown, refused, taken, with_voters, with_learners, with_outgoing, with_next, listed, flagged, entered}
use Rattle.rules.specs.MessageFaults.{varint_faults, packed_faults, length_faults, list_faults, flag_faults, meaning_faults, field_faults, tag_faults, faults, least_of, step, Least, LowestTold}
use Rattle.rules.proofs.Refusals.{payload-named}

-- ** Packed numbers

-- gathered numbers: the least of the faults, which is no 30; or none, and as many as there are varints
abbrev Gathers : Numbers → List ℕ → ℕ → Type 0
Gathers (faulty e) [] n = ⊥
Gathers (faulty e) (x ∷ xs) n = (e ≡ least_of x xs) × (e ≤ 29)
Gathers (all ys) fs n = (fs ≡ []) × (length ys ≡ n)

lower-min : (e d : ℕ) → cond (ltb e d) e d ≡ min e d
lower-min e d = by (ltb e d) refl
  where
    by : (t : Bool) → ltb e d ≡ t → cond t e d ≡ min e d
    by true t = omega (arith, ltb-true e d t)
    by false t = omega (arith, ltb-false e d t)

gathers_bad : (e : ℕ) → e ≤ 29 → (r : Numbers) (fs : List ℕ) (n : ℕ) → Gathers r fs n → Gathers (lower e r) (e ∷ fs) (suc n)
gathers_bad e k (faulty d) [] n h = absurd h
gathers_bad e k (faulty d) (x ∷ xs) n h = (lower-min e d ∙ ap (min e) h.0, omega (arith, lower-min e d))
gathers_bad e k (all ys) fs n h = subst (λ (l : List ℕ). Gathers (faulty e) (e ∷ l) (suc n)) (sym h.0) (refl, k)

gathers_good : (v k : ℕ) (r : Numbers) (fs : List ℕ) (n : ℕ) → Gathers r fs n → Gathers (before (found v k) r) fs (suc n)
gathers_good v k (faulty d) [] n h = absurd h
gathers_good v k (faulty d) (x ∷ xs) n h = h
gathers_good v k (all ys) fs n h = (h.0, ap suc h.1)

gathers_one : (f : Front) (r : Numbers) (fs : List ℕ) (n : ℕ) → Gathers r fs n → Gathers (before (judged f) r) (varint_faults f ++ fs) (suc n)
gathers_one cut r fs n h = gathers_bad 28 (omega arith) r fs n h
gathers_one (num v k) r fs n h = by (fits v k)
  where
    by : (t : Bool) → Gathers (before (cond t (found v k) (bad 29)) r) (cond t [] (29 ∷ []) ++ fs) (suc n)
    by true = gathers_good v k r fs n h
    by false = gathers_bad 29 (omega arith) r fs n h

gathers : (fs : List Front) → Gathers (gathered fs) (packed_faults fs) (length fs)
unfolding gathered packed_faults
gathers [] = (refl, refl)
gathers (f ∷ fs) = gathers_one f (gathered fs) (packed_faults fs) (length fs) (gathers fs)

-- ** A list

least_append : (x : ℕ) (xs : List ℕ) (y : ℕ) → least_of x (xs ++ (y ∷ [])) ≡ min (least_of x xs) y
least_append x [] y = refl
least_append x (z ∷ zs) y = ap (min x) (least_append z zs y) ∙ omega arith

-- behind the faults of its numbers, whether it is too long does not matter
least_longer : (e x : ℕ) (xs : List ℕ) (t : Bool) → e ≡ least_of x xs → e ≤ 29 → e ≡ least_of x (xs ++ cond t [] (30 ∷ []))
least_longer e x xs true h k = h ∙ ap (least_of x) (sym (append-nil xs))
least_longer e x xs false h k = omega (arith, least_append x xs 30)

module _ (put : List ℕ → ConfState) (old : List ℕ) where
  grown_least : (ys : List ℕ) (n : ℕ) → length (old ++ ys) ≡ n → Least (listed put (grown old (all ys))) (length_faults n)
  grown_least ys n e = subst (λ (k : ℕ). Least (listed put (grown old (all ys))) (length_faults k)) e (by (leb (length (old ++ ys)) 64))
    where
      by : (t : Bool) → Least (listed put (cond t (all (old ++ ys)) (faulty 30))) (cond t [] (30 ∷ []))
      by true = refl
      by false = refl

  packed_least : (r : Numbers) (fs : List ℕ) (n : ℕ) → Gathers r fs n → Least (listed put (grown old r)) (fs ++ length_faults (length old + n))
  packed_least (faulty e) [] n h = absurd h
  packed_least (faulty e) (x ∷ xs) n h = least_longer e x xs (leb (length old + n) 64) h.0 h.1
  packed_least (all ys) fs n h =
      subst (λ (l : List ℕ). Least (listed put (grown old (all ys))) (l ++ length_faults (length old + n))) (sym h.0)
      (grown_least ys (length old + n) (length-append old ys ∙ ap (λ (k : ℕ). length old + k) h.1))

  list_least : (p : Payload) → Least (listed put (grown old (numbers p))) (list_faults (length old) p)
  unfolding packed
  list_least (varint v) = grown_least (v ∷ []) (length old + 1) (length-append old (v ∷ []))
  list_least fixed = refl
  list_least (bytes l) = packed_least (gathered (fronts l)) (packed_faults (fronts l)) (length (fronts l)) (gathers (fronts l))

flag_least : (p : Payload) (m : ConfState) → Least (flagged p m) (flag_faults p)
flag_least (varint v) m = refl
flag_least fixed m = refl
flag_least (bytes l) m = refl

-- ** A field

entered_least : (f : ℕ) (p : Payload) (m : ConfState) → Least (entered (record { number = f; payload = p }) m) (meaning_faults f p m)
unfolding entered meaning_faults
entered_least f p m = by (eqb f 1) (eqb f 2) (eqb f 3) (eqb f 4) (eqb f 5)
  where
    by : (a b c d e : Bool) → Least
        (cond a (listed (λ xs. with_voters xs m) (grown m.voters (numbers p)))
        (cond b (listed (λ xs. with_learners xs m) (grown m.learners (numbers p)))
        (cond c (listed (λ xs. with_outgoing xs m) (grown m.voters_outgoing (numbers p)))
        (cond d (listed (λ xs. with_next xs m) (grown m.learners_next (numbers p))) (cond e (flagged p m) (taken m))))))
        (cond a (list_faults (length m.voters) p)
        (cond b (list_faults (length m.learners) p)
        (cond c (list_faults (length m.voters_outgoing) p) (cond d (list_faults (length m.learners_next) p) (cond e (flag_faults p) [])))))
    by true b c d e = list_least (λ xs. with_voters xs m) m.voters p
    by false true c d e = list_least (λ xs. with_learners xs m) m.learners p
    by false false true d e = list_least (λ xs. with_outgoing xs m) m.voters_outgoing p
    by false false false true e = list_least (λ xs. with_next xs m) m.learners_next p
    by false false false false true = flag_least p m
    by false false false false false = refl

-- a number that is none means nothing
misnumbered_means : (f : ℕ) (p : Payload) (m : ConfState) → numbered f ≡ false → meaning_faults f p m ≡ []
unfolding meaning_faults
misnumbered_means zero p m e = refl
misnumbered_means (suc zero) p m e = let z : ◌≡◌ {A = ℕ} 0 1 = cc in absurd (omega arith)
misnumbered_means (suc (suc zero)) p m e = let z : ◌≡◌ {A = ℕ} 0 1 = cc in absurd (omega arith)
misnumbered_means (suc (suc (suc zero))) p m e = let z : ◌≡◌ {A = ℕ} 0 1 = cc in absurd (omega arith)
misnumbered_means (suc (suc (suc (suc zero)))) p m e = let z : ◌≡◌ {A = ℕ} 0 1 = cc in absurd (omega arith)
misnumbered_means (suc (suc (suc (suc (suc zero))))) p m e = let z : ◌≡◌ {A = ℕ} 0 1 = cc in absurd (omega arith)
misnumbered_means (suc (suc (suc (suc (suc (suc f)))))) p m e =
    let n : ℕ = suc (suc (suc (suc (suc (suc f))))) in
    rw (ne_eqb n 1 (λ z. omega arith), ne_eqb n 2 (λ z. omega arith), ne_eqb n 3 (λ z. omega arith), ne_eqb n 4 (λ z. omega arith), ne_eqb n 5 (λ z. omega arith))

field_least : (f n w : ℕ) (l : List ℕ) (x : Found Payload) (m : ConfState) → payload_in w l ≡ x → Least (step (held f n x) m) (field_faults f x m)
field_least f n w l (bad e) m h = by (numbered f)
  where
    by : (t : Bool) → e ≡ least_of e (cond t [] (29 ∷ []))
    by true = refl
    by false = omega (arith, (payload-named w l h).1)
field_least f n w l (found p k) m h = by (numbered f) refl
  where
    by : (t : Bool) → numbered f ≡ t
        → Least (step (cond t (found (record { number = f; payload = p }) (n + k)) (bad 29)) m) (cond t [] (29 ∷ []) ++ meaning_faults f p m)
    by true t = entered_least f p m
    by false t = subst (λ (l : List ℕ). Least (refused 29) (29 ∷ l)) (sym (misnumbered_means f p m t)) refl

tag_least : (l : List ℕ) (x : Found ℕ) (m : ConfState) → Least (step (tagged l x) m) (tag_faults l x m)
tag_least l (bad e) m = refl
tag_least l (found t n) m = field_least (t / 8) n (t % 8) (drop n l) (payload_in (t % 8) (drop n l)) m refl

pub lowest : (l : List ℕ) (m : ConfState) → LowestTold l m
unfolding field_in faults
lowest l m = tag_least l (varint_in l) m
