-- Laws of the loop over packed numbers, and of a single one. Assumes nothing.
use Prim.Native.Nat.{ℕ, ◌+◌, ◌≤◌, ◌<◌}
use mathlib.Core.Path.{◌≡◌, refl, ap, sym, subst, ◌∙◌}
use mathlib.Core.Bool.{Bool, true, false, cond}
use mathlib.Core.List.{List, [], ◌∷◌, ◌++◌, append-nil}
use native.Mathlib.Omega.{arith}
use borrow.Author.Tests.{le-leb, lt-leb, ltb-true, ltb-false}
use lib.Dec.{leb, ltb}
use lib.ListN.{length, take, drop, get_or, set, length-set, length-drop, length-append, drop_of_length-le}
use lib.Seq.{append_snoc, take_all, take-append-le, drop-drop}
use Rattle.std.specs.Prelude.{Result, Ok, Err}
use Rattle.rules.specs.Wire.{Front, cut, num, front, fits, Found, bad, found, judged, varint_in}
use Rattle.rules.specs.Message.{Numbers, faulty, all, lower, before, packed, grown}
use Rattle.rules.proofs.Wire.{fits-yes, front-within}
use Rattle.rules.proofs.Packed.{packed_none, packed-cut, packed-num}
use Rattle.wire.specs.Varints.{read_at}
use Rattle.wire.specs.declared.Varint.{Varint}
use Rattle.wire.specs.declared.Fault.{Fault}
use Rattle.wire.specs.declared.Fault.TheVariants as faults
use Rattle.wire.proofs.Fronts.{front-last}
use Rattle.wire.proofs.Found.{read-bad, read_found, read_over, found_within}
use Rattle.confstate.specs.Words.{list_words, list_in}
use Rattle.confstate.specs.Refusals.{number_of}
use Rattle.confstate.specs.Steps.{Listing, Grows}
use Rattle.confstate.specs.declared.read.Refusal.{Refusal}
use Rattle.confstate.specs.declared.read.Refusal.TheVariants.{CutShort, LongList}
use Rattle.confstate.proofs.Words.{counted, count_set, told, id-set, listed-count}

-- ** Packed numbers, by what is read first

abbrev bad_of : {A : Type 0} → Found A → ℕ
bad_of (bad e) = e
bad_of (found x n) = 0

abbrev size_of : {A : Type 0} → Found A → ℕ
size_of (bad e) = 0
size_of (found x n) = n

packed_28 : (l : List ℕ) → 0 < length l → varint_in l ≡ bad 28 → packed l ≡ faulty 28
unfolding varint_in
packed_28 l h e = by (front l) refl e
  where
    fit : (t : Bool) (v n : ℕ) → cond t (found v n) (bad 29) ≡ bad 28 → packed l ≡ faulty 28
    fit true v n z = absurd (omega (arith, ap bad_of z))
    fit false v n z = absurd (omega (arith, ap bad_of z))

    by : (f : Front) → front l ≡ f → judged f ≡ bad 28 → packed l ≡ faulty 28
    by cut g z = packed-cut l h g
    by (num v n) g z = fit (fits v n) v n z

packed-found : (l : List ℕ) {v n : ℕ} → varint_in l ≡ found v n → packed l ≡ before (found v n) (packed (drop n l))
unfolding varint_in
packed-found l {v} {n} e = by (front l) refl e
  where
    fit : (w m : ℕ) → front l ≡ num w m → (t : Bool) → fits w m ≡ t → cond t (found w m) (bad 29) ≡ found v n → packed l ≡ before (found v n) (packed (drop n l))
    fit w m g true t z =
        let k : m ≡ n = ap size_of z in
        packed-num l g ∙ (ap (λ (b : Bool). before (cond b (found w m) (bad 29)) (packed (drop m l))) t ∙ (ap (λ (x : Found ℕ). before x (packed (drop m l))) z ∙ ap (λ (j : ℕ). before (found v n) (packed (drop j l))) k))
    fit w m g false t z = absurd (omega (arith, ap bad_of z))

    by : (f : Front) → front l ≡ f → judged f ≡ found v n → packed l ≡ before (found v n) (packed (drop n l))
    by cut g z = absurd (omega (arith, ap bad_of z))
    by (num w m) g z = fit w m g (fits w m) refl z

packed_over : (l : List ℕ) {v n : ℕ} → front l ≡ num v n → fits v n ≡ false → packed l ≡ lower 29 (packed (drop n l))
packed_over l {v} {n} g t = packed-num l g ∙ ap (λ (b : Bool). before (cond b (found v n) (bad 29)) (packed (drop n l))) t

one_found : (l : List ℕ) (p : ℕ) → p < length l → {b : ℕ} → b ≡ get_or l p 0 → b < 128 → varint_in (drop p l) ≡ found b 1
unfolding varint_in
one_found l p h {b} e k = ap judged (front-last l p h (omega arith)) ∙ rw (← e, fits-yes b 1 (omega arith) (omega arith))

-- ** The loop

-- what comes of the numbers zs and of the rest, where `over` says that one before the rest was over
abbrev pub result : Bool → List ℕ → Numbers → Numbers
result true zs r = lower 29 r
result false zs r = grown zs r

twice : (e : ℕ) → cond (ltb 29 (cond (ltb 29 e) 29 e)) 29 (cond (ltb 29 e) 29 e) ≡ cond (ltb 29 e) 29 e
twice e = by (ltb 29 e) refl
  where
    by : (t : Bool) → ltb 29 e ≡ t → cond (ltb 29 (cond t 29 e)) 29 (cond t 29 e) ≡ cond t 29 e
    by true t = refl
    by false t = rw t

result_over : (b : Bool) (zs : List ℕ) (r : Numbers) → result b zs (lower 29 r) ≡ result true zs r
result_over true zs (faulty e) = ap faulty (twice e)
result_over true zs (all xs) = refl
result_over false zs (faulty e) = refl
result_over false zs (all xs) = refl

result_value : (b : Bool) (zs : List ℕ) (v n : ℕ) (r : Numbers) → result b zs (before (found v n) r) ≡ result b (zs ++ (v ∷ [])) r
result_value true zs v n (faulty e) = refl
result_value true zs v n (all xs) = refl
result_value false zs v n (faulty e) = refl
result_value false zs v n (all xs) = rw (append_snoc zs v xs)

result_cut : (b : Bool) (zs : List ℕ) → result b zs (faulty 28) ≡ faulty 28
result_cut true zs = refl
result_cut false zs = refl

-- an id put where there is room for it
pub stored : (zs : List ℕ) (c x : ℕ) → cond (ltb (length zs) 64) (set (counted (take 64 zs) c) (length zs) x) (counted (take 64 zs) c) ≡ counted (take 64 (zs ++ (x ∷ []))) c
stored zs c x = by (ltb (length zs) 64) refl
  where
    by : (t : Bool) → ltb (length zs) 64 ≡ t → cond t (set (counted (take 64 zs) c) (length zs) x) (counted (take 64 zs) c) ≡ counted (take 64 (zs ++ (x ∷ []))) c
    by true t =
        let h : length zs < 64 = ltb-true _ _ t in
        ap (λ (l : List ℕ). set (counted l c) (length zs) x) (take_all 64 zs (omega arith))
        ∙ (id-set zs c x h ∙ ap (λ (l : List ℕ). counted l c) (sym (take_all 64 (zs ++ (x ∷ [])) (omega (arith, length-append zs (x ∷ []))))))
    by false t = ap (λ (l : List ℕ). counted l c) (sym (take-append-le 64 zs (x ∷ []) (ltb-false _ _ t)))

-- the loop has come to p: `old` was there before, c is the count that stands in the words meanwhile
pub record Packing (l old : List ℕ) (c : ℕ) (ws : List ℕ) (n p : ℕ) : Type 0 where
  pub seen : List ℕ
  pub long : length ws ≡ 65
  pub spot : p ≤ length l
  pub count : n ≡ length seen
  pub bound : n ≤ 64 + p
  pub holds : ws ≡ counted (take 64 seen) c
  pub same : grown seen (packed (drop p l)) ≡ grown old (packed l)

pub packing_start : {l : List ℕ} {ws : List ℕ} → Listing ws → Packing l (list_in ws 0) (length (list_in ws 0)) ws (get_or ws 64 0) 0
unfolding list_words
packing_start {l} {ws} k =
    record {
      long = k.long;
      seen = list_in ws 0;
      spot = omega arith;
      count = listed-count k;
      bound = omega (arith, k.few, listed-count k);
      holds = k.words ∙ ap (λ (x : List ℕ). counted x (length (list_in ws 0))) (sym (take_all 64 (list_in ws 0) k.few));
      same = refl;
    }

module _ {l old : List ℕ} {c : ℕ} {ws : List ℕ} {n p : ℕ} (k : Packing l old c ws n p) where
  here : {r : Numbers} → packed (drop p l) ≡ r → grown k.seen r ≡ grown old (packed l)
  here e = ap (grown k.seen) (sym e) ∙ k.same

  kept : (t : Bool) (x : ℕ) → length (cond t (set ws n x) ws) ≡ length ws
  kept true x = length-set ws n x
  kept false x = refl

  -- one more number, of so many bytes
  packing_found : {x size : ℕ} {m : List ℕ} → varint_in (drop p l) ≡ found x size → m ≡ cond (ltb n 64) (set ws n x) ws → Packing l old c m (n + 1) (p + size)
  packing_found {x} {size} {m} reads g =
      let d : drop size (drop p l) ≡ drop (p + size) l = drop-drop size p l in
      record {
        long = ap length g ∙ (kept (ltb n 64) x ∙ k.long);
        seen = k.seen ++ (x ∷ []);
        spot = omega (arith, (found_within (drop p l) reads).0, (found_within (drop p l) reads).1, length-drop p l);
        count = omega (arith, k.count, length-append k.seen (x ∷ []));
        bound = omega (arith, k.bound, (found_within (drop p l) reads).0);
        holds = g ∙ (rw (k.holds, k.count) (stored k.seen c x));
        same = ap (λ (y : List ℕ). grown (k.seen ++ (x ∷ [])) (packed y)) (sym d)
            ∙ (sym (result_value false k.seen x size (packed (drop size (drop p l)))) ∙ here (packed-found (drop p l) reads));
      }

  -- one of one byte
  pub packing_one : p < length l → {b : ℕ} → b ≡ get_or l p 0 → b < 128 → {m : List ℕ} → m ≡ cond (ltb n 64) (set ws n b) ws → Packing l old c m (n + 1) (p + 1)
  packing_one h e k g = packing_found (one_found l p h e k) g

  module _ (h : p < length l) {x : Result Varint Fault} (e : x ≡ read_at l p) where
    left : 0 < length (drop p l)
    left = simp length-drop (omega arith)

    pub packing_cut : x ≡ Err faults.CutShort → Grows (grown old (packed l)) (Err CutShort) ws
    unfolding Grows
    packing_cut f =
        let a : varint_in (drop p l) ≡ bad 28 = read-bad l p (sym f ∙ e) in
        let b : grown old (packed l) ≡ faulty 28 = sym (here (packed_28 (drop p l) left a)) ∙ result_cut false k.seen in
        subst (λ (r : Numbers). Grows r (Err CutShort) ws) (sym b) refl

    module _ {v : Varint} (f : x ≡ Ok v) where
      abbrev size : ℕ
      size = (read_found l p (sym f ∙ e)).0

      ends : v.next ≡ p + size
      ends = (read_found l p (sym f ∙ e)).1.0

      reads : varint_in (drop p l) ≡ found v.value size
      reads = (read_found l p (sym f ∙ e)).1.1

      pub value-within : (p < v.next) × (v.next ≤ length l)
      value-within = (omega (arith, (found_within (drop p l) reads).0, ends), omega (arith, (found_within (drop p l) reads).1, ends, length-drop p l))

      pub packing_next : {m : List ℕ} → m ≡ cond (ltb n 64) (set ws n v.value) ws → Packing l old c m (n + 1) v.next
      packing_next {m} g = subst (λ (j : ℕ). Packing l old c m (n + 1) j) (sym ends) (packing_found reads g)

    module _ {next : ℕ} (f : x ≡ Err (faults.Malformed next)) where
      abbrev wide : ℕ
      wide = (read_over l p (sym f ∙ e)).1

      over_ends : next ≡ p + wide
      over_ends = (read_over l p (sym f ∙ e)).2.0

      over_front : front (drop p l) ≡ num (read_over l p (sym f ∙ e)).0 wide
      over_front = (read_over l p (sym f ∙ e)).2.1.0

      pub over_within : (p < next) × (next ≤ length l)
      over_within = (omega (arith, (front-within (drop p l) over_front).0, over_ends), omega (arith, (front-within (drop p l) over_front).1, over_ends, length-drop p l))

      pub packing_over : (r : Refusal) → lower 29 (packed (drop next l)) ≡ faulty (number_of r) → Grows (grown old (packed l)) (Err r) ws
      unfolding Grows
      packing_over r y =
          let d : drop wide (drop p l) ≡ drop next l = drop-drop wide p l ∙ ap (λ (j : ℕ). drop j l) (sym over_ends) in
          let b : grown old (packed l) ≡ faulty (number_of r)
          = sym (here (packed_over (drop p l) over_front (read_over l p (sym f ∙ e)).2.1.1))
          ∙ (result_over false k.seen (packed (drop wide (drop p l))) ∙ (ap (λ (x : List ℕ). lower 29 (packed x)) d ∙ y)) in
          subst (λ (x : Numbers). Grows x (Err r) ws) (sym b) refl

  module _ (h : length l ≤ p) where
    whole : grown old (packed l) ≡ cond (leb (length k.seen) 64) (all k.seen) (faulty 30)
    whole = sym (here (ap packed (drop_of_length-le l h) ∙ packed_none)) ∙ rw append-nil

    pub packing_30 : 64 < n → Grows (grown old (packed l)) (Err LongList) ws
    unfolding Grows
    packing_30 g =
        let b : grown old (packed l) ≡ faulty 30 = whole ∙ rw (lt-leb (length k.seen) 64 (omega (arith, k.count))) in
        subst (λ (r : Numbers). Grows r (Err LongList) ws) (sym b) refl

    pub packing_all : n ≤ 64 → Grows (grown old (packed l)) (Ok tt) (set ws 64 n)
    unfolding Grows
    packing_all g =
        let few : length k.seen ≤ 64 = omega (arith, k.count) in
        let b : grown old (packed l) ≡ all k.seen = whole ∙ rw (le-leb (length k.seen) 64 few) in
        let w : set ws 64 n ≡ list_words k.seen
        = ap (λ (x : List ℕ). set x 64 n) (k.holds ∙ ap (λ (x : List ℕ). counted x c) (take_all 64 k.seen few)) ∙ (count_set k.seen c n few ∙ told k.seen k.count) in
        subst (λ (r : Numbers). Grows r (Ok tt) (set ws 64 n)) (sym b) (refl, w)

-- ** The numbers after one that was malformed

-- the loop has come to p
pub record Passing (l : List ℕ) (at p : ℕ) : Type 0 where
  pub spot : p ≤ length l
  pub same : lower 29 (packed (drop p l)) ≡ lower 29 (packed (drop at l))

pub passing_start : {l : List ℕ} {at : ℕ} → at ≤ length l → Passing l at at
passing_start h = record { spot = h; same = refl }

module _ {l : List ℕ} {at p : ℕ} (k : Passing l at p) where
  past : {r : Numbers} → packed (drop p l) ≡ r → lower 29 r ≡ lower 29 (packed (drop at l))
  past e = ap (lower 29) (sym e) ∙ k.same

  module _ (h : p < length l) {x : Result Varint Fault} (e : x ≡ read_at l p) where
    pub passing_cut : x ≡ Err faults.CutShort → lower 29 (packed (drop at l)) ≡ faulty 28
    passing_cut f = sym (past (packed_28 (drop p l) (simp length-drop (omega arith)) (read-bad l p (sym f ∙ e))))

    -- a number of so many bytes
    pub passing_next : {v : Varint} → x ≡ Ok v → Passing l at v.next × (p < v.next)
    passing_next {v} f =
        let r = read_found l p (sym f ∙ e) in
        let d : drop r.0 (drop p l) ≡ drop v.next l = drop-drop r.0 p l ∙ ap (λ (j : ℕ). drop j l) (sym r.1.0) in (
          record {
            spot = omega (arith, (found_within (drop p l) r.1.1).1, r.1.0, length-drop p l);
            same = ap (λ (y : List ℕ). lower 29 (packed y)) (sym d)
                ∙ (sym (result_value true [] v.value r.0 (packed (drop r.0 (drop p l)))) ∙ past (packed-found (drop p l) r.1.1));
          },
          omega (arith, (found_within (drop p l) r.1.1).0, r.1.0),
        )

    pub passing_over : {next : ℕ} → x ≡ Err (faults.Malformed next) → Passing l at next × (p < next)
    passing_over {next} f =
        let r = read_over l p (sym f ∙ e) in
        let d : drop r.1 (drop p l) ≡ drop next l = drop-drop r.1 p l ∙ ap (λ (j : ℕ). drop j l) (sym r.2.0) in (
          record {
            spot = omega (arith, (front-within (drop p l) r.2.1.0).1, r.2.0, length-drop p l);
            same = ap (λ (y : List ℕ). lower 29 (packed y)) (sym d)
                ∙ (sym (result_over true [] (packed (drop r.1 (drop p l)))) ∙ past (packed_over (drop p l) r.2.1.0 r.2.1.1));
          },
          omega (arith, (front-within (drop p l) r.2.1.0).0, r.2.0),
        )

  pub passing_end : length l ≤ p → lower 29 (packed (drop at l)) ≡ faulty 29
  passing_end h = sym (past (ap packed (drop_of_length-le l h) ∙ packed_none))
