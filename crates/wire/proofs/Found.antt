-- What a reader returns, in the rules' words: for the crates above; and told as a flat record. Assumes nothing.
use Prim.Native.Nat.{ℕ, ◌+◌, ◌≤◌, ◌<◌}
use mathlib.Core.Path.{◌≡◌, refl, ap}
use mathlib.Core.Bool.{Bool, true, false, cond}
use mathlib.Core.List.{List}
use lib.ListN.{length, drop}
use Rattle.std.specs.Prelude.{Result, Ok, Err}
use Rattle.rules.specs.Wire.{Front, cut, num, front, fits, Found, bad, found, judged, varint_in}
use Rattle.wire.specs.Varints.{placed, varint_at, number_of, outcome, read_at, told}
use Rattle.wire.specs.declared.Varint.{Varint}
use Rattle.wire.specs.declared.Fault.{Fault}
use Rattle.wire.specs.declared.Fault.TheVariants.{CutShort, Malformed}
use Rattle.rules.proofs.Wire.{front-within}

-- the flat record of what is returned is that of what stands there
told-placed : (at : ℕ) (f : Front) → told at (outcome at f) ≡ placed at f
told-placed at cut = refl
told-placed at (num v n) = by (fits v n)
  where
    by : (t : Bool) → told at (cond t (Ok (record { value = v; next = at + n })) (Err (Malformed (at + n))))
        ≡ cond t (record { fault = 0; value = v; next = at + n }) (record { fault = 29; value = 0; next = at + n })
    by true = refl
    by false = refl

pub told_read : (l : List ℕ) (at : ℕ) → told at (read_at l at) ≡ varint_at l at
unfolding read_at varint_at
told_read l at = told-placed at (front (drop at l))

-- ** By what is returned

-- what a number that is taken, or not, comes to
abbrev judged_as : Bool → ℕ → ℕ → ℕ → Result Varint Fault
judged_as t at w n = cond t (Ok (record { value = w; next = at + n })) (Err (Malformed (at + n)))

outcome-bad : (at : ℕ) (f : Front) {e : Fault} → Err e ≡ outcome at f → judged f ≡ bad (number_of e)
outcome-bad at cut {e} h = let d : e ≡ CutShort = cc in rw d
outcome-bad at (num w n) {e} h = by (fits w n) h
  where
    by : (t : Bool) → Err e ≡ judged_as t at w n → cond t (found w n) (bad 29) ≡ bad (number_of e)
    by true h = cc
    by false h = let d : e ≡ Malformed (at + n) = cc in rw d

outcome-found : (at : ℕ) (f : Front) {v : Varint} → Ok v ≡ outcome at f → (n : ℕ) × ((v.next ≡ at + n) × (judged f ≡ found v.value n))
outcome-found at cut h = cc
outcome-found at (num w n) {v} h = by (fits w n) h
  where
    by : (t : Bool) → Ok v ≡ judged_as t at w n → (k : ℕ) × ((v.next ≡ at + k) × (cond t (found w n) (bad 29) ≡ found v.value k))
    by true h = let d : v ≡ record { value = w; next = at + n } = cc in rw d (n, (refl, refl))
    by false h = cc

outcome_over : (at : ℕ) (f : Front) {next : ℕ} → Err (Malformed next) ≡ outcome at f → (w n : ℕ) × ((next ≡ at + n) × ((f ≡ num w n) × (fits w n ≡ false)))
outcome_over at cut h = cc
outcome_over at (num w n) {next} h = by (fits w n) refl h
  where
    by : (t : Bool) → fits w n ≡ t → Err (Malformed next) ≡ judged_as t at w n
        → (v m : ℕ) × ((next ≡ at + m) × ((num w n ≡ num v m) × (fits v m ≡ false)))
    by true e h = cc
    by false e h = let d : next ≡ at + n = cc in (w, n, (d, (refl, e)))

-- the same of what was read
pub read-bad : (l : List ℕ) (at : ℕ) {e : Fault} → Err e ≡ read_at l at → varint_in (drop at l) ≡ bad (number_of e)
unfolding read_at varint_in
read-bad l at h = outcome-bad at (front (drop at l)) h

pub read_found : (l : List ℕ) (at : ℕ) {v : Varint} → Ok v ≡ read_at l at → (n : ℕ) × ((v.next ≡ at + n) × (varint_in (drop at l) ≡ found v.value n))
unfolding read_at varint_in
read_found l at h = outcome-found at (front (drop at l)) h

pub read_over : (l : List ℕ) (at : ℕ) {next : ℕ} → Err (Malformed next) ≡ read_at l at
    → (w n : ℕ) × ((next ≡ at + n) × ((front (drop at l) ≡ num w n) × (fits w n ≡ false)))
unfolding read_at
read_over l at h = outcome_over at (front (drop at l)) h

-- what is found takes a byte at least, and none but those that are there
abbrev standing : Found ℕ → Front
standing (bad e) = cut
standing (found v n) = num v n

judged-standing : (f : Front) {v n : ℕ} → judged f ≡ found v n → f ≡ num v n
judged-standing cut e = ap standing e
judged-standing (num w m) {v} {n} e = by (fits w m) e
  where
    by : (t : Bool) → cond t (found w m) (bad 29) ≡ found v n → num w m ≡ num v n
    by true e = ap standing e
    by false e = cc

pub found_within : (l : List ℕ) {v n : ℕ} → varint_in l ≡ found v n → (0 < n) × (n ≤ length l)
unfolding varint_in
found_within l e = front-within l (judged-standing (front l) e)
