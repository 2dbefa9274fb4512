-- Blocks that are read off words: a set is a part of them and their count, and a record is unused where its ten words are 0. Assumes nothing.
use Prim.Native.Nat.{ℕ, zero, suc, ◌+◌, ◌*◌, ◌≤◌}
use mathlib.Core.Path.{◌≡◌, refl, ap, sym, ◌∙◌}
use mathlib.Core.Bool.{Bool, true, false, ◌&&◌, cond, true≢false}
use mathlib.Core.List.{List, ◌∷◌}
use native.Mathlib.Omega.{arith}
use borrow.Author.Tests.{eqb-true, eqb-false, leb-true}
use lib.Dec.{eqb, leb}
use lib.ListN.{length, take, drop}
use lib.Seq.{drop-cons, drop-nil}
use Rattle.rules.proofs.Sets.{and_left, and_right}
use Rattle.progress.specs.Record.{is_probe, is_unused, unused_record}
use Rattle.progress.specs.declared.Progress.{Progress}
use Rattle.progress.specs.declared.ProgressState.TheVariants.{Probe, Replicate, Snapshot}
use Rattle.progress.proofs.Laws.{unused_is}
use Rattle.idset.specs.Places.{zeros}
use Rattle.tracker.specs.Form.{all_unused}
use Rattle.unplug.specs.Words.{at, flag, record_by, records_by, state_named, within_by, words_by}

-- ** Parts

pub part_words : (n k : ℕ) (ws : List ℕ) → k + n ≤ length ws → take n (drop k ws) ≡ words_by n (at ws) k
unfolding words_by
part_words zero k ws h = refl
part_words (suc n) k ws h =
    let e : suc k ≡ k + 1 = omega arith in
    ap (take (suc n)) (drop-cons ws k 0 (omega (arith, h)))
    ∙ ap (λ (l : List ℕ). at ws k ∷ l) (ap (λ (m : ℕ). take n (drop m ws)) e ∙ part_words n (k + 1) ws (omega (arith, h)))

-- ** Records

pub records_64 : (f : ℕ → ℕ) (k : ℕ) → length (records_by 64 f k) ≡ 64
unfolding records_by
records_64 f k = refl

zeros_head : (x : ℕ) (l : List ℕ) → zeros (x ∷ l) ≡ true → x ≡ 0
unfolding zeros
zeros_head x l h = eqb-true x 0 (and_left (eqb x 0) (zeros l) h)

zeros_tail : (x : ℕ) (l : List ℕ) → zeros (x ∷ l) ≡ true → zeros l ≡ true
unfolding zeros
zeros_tail x l h = and_right (eqb x 0) (zeros l) h

no_flag : (w : ℕ) → w ≤ 1 → flag w ≡ false → w ≡ 0
no_flag w h e = let n : w ≡ 1 → ⊥ = eqb-false w 1 e in omega arith

named_probe : (w : ℕ) → is_probe (state_named w) ≡ true → w ≡ 0
named_probe w h = eqb-true w 0 (go (eqb w 0) (eqb w 1) h)
  where
    go : (b c : Bool) → is_probe (cond b Probe (cond c Replicate Snapshot)) ≡ true → b ≡ true
    go true c e = refl
    go false true e = e
    go false false e = e

module _ (f : ℕ → ℕ) (k : ℕ) (rest : List ℕ) where
  abbrev ten : List ℕ
  ten = f k ∷ f (k + 1) ∷ f (k + 2) ∷ f (k + 3) ∷ f (k + 4) ∷ f (k + 5) ∷ f (k + 6) ∷ f (k + 7) ∷ f (k + 8) ∷ f (k + 9) ∷ rest

  -- ten zeros are the unused record
  zeros_unused : zeros ten ≡ true → is_unused (record_by f k) ≡ true
  unfolding is_unused
  zeros_unused h =
      let h1 = zeros_tail _ _ h in
      let h2 = zeros_tail _ _ h1 in
      let h3 = zeros_tail _ _ h2 in
      let h4 = zeros_tail _ _ h3 in
      let h5 = zeros_tail _ _ h4 in
      let h6 = zeros_tail _ _ h5 in
      let h7 = zeros_tail _ _ h6 in
      let h8 = zeros_tail _ _ h7 in
      let h9 = zeros_tail _ _ h8 in
      rw (
        zeros_head _ _ h,
        zeros_head _ _ h1,
        zeros_head _ _ h2,
        zeros_head _ _ h3,
        zeros_head _ _ h4,
        zeros_head _ _ h5,
        zeros_head _ _ h6,
        zeros_head _ _ h7,
        zeros_head _ _ h8,
        zeros_head _ _ h9,
      )

  module _ (p : f (k + 3) ≤ 1) (q : f (k + 6) ≤ 1) where
    unused_zeros : is_unused (record_by f k) ≡ true → zeros ten ≡ zeros rest
    unfolding zeros
    unused_zeros u =
        let e : record_by f k ≡ unused_record = unused_is (record_by f k) u in
        rw (
          ap (λ (r : Progress). r.matched) e,
          ap (λ (r : Progress). r.next_idx) e,
          named_probe (f (k + 2)) (ap (λ (r : Progress). is_probe r.state) e),
          no_flag (f (k + 3)) p (ap (λ (r : Progress). r.paused) e),
          ap (λ (r : Progress). r.pending_snapshot) e,
          ap (λ (r : Progress). r.pending_request_snapshot) e,
          no_flag (f (k + 6)) q (ap (λ (r : Progress). r.recent_active) e),
          ap (λ (r : Progress). r.max_inflight) e,
          ap (λ (r : Progress). r.commit_group_id) e,
          ap (λ (r : Progress). r.committed_index) e,
        )

    record_zeros : zeros ten ≡ is_unused (record_by f k) && zeros rest
    record_zeros = go (is_unused (record_by f k)) refl (zeros ten) refl
      where
        go : (u : Bool) → is_unused (record_by f k) ≡ u → (z : Bool) → zeros ten ≡ z → zeros ten ≡ u && zeros rest
        go true u z e = unused_zeros u
        go false u true e = absurd (true≢false (sym (zeros_unused e) ∙ u))
        go false u false e = e

-- ten words, and those after them
ten_words : (f : ℕ → ℕ) (k n : ℕ) → words_by (10 * suc n) f k ≡ ten f k (words_by (10 * n) f (k + 10))
unfolding words_by
ten_words f k n = ap (λ (m : ℕ). words_by m f k) long ∙ rw (e2, e3, e4, e5, e6, e7, e8, e9, e10)
  where
    long : 10 * suc n ≡ suc (suc (suc (suc (suc (suc (suc (suc (suc (suc (10 * n))))))))))
    long = omega arith

    e2 : k + 1 + 1 ≡ k + 2
    e2 = omega arith

    e3 : k + 2 + 1 ≡ k + 3
    e3 = omega arith

    e4 : k + 3 + 1 ≡ k + 4
    e4 = omega arith

    e5 : k + 4 + 1 ≡ k + 5
    e5 = omega arith

    e6 : k + 5 + 1 ≡ k + 6
    e6 = omega arith

    e7 : k + 6 + 1 ≡ k + 7
    e7 = omega arith

    e8 : k + 7 + 1 ≡ k + 8
    e8 = omega arith

    e9 : k + 8 + 1 ≡ k + 9
    e9 = omega arith

    e10 : k + 9 + 1 ≡ k + 10
    e10 = omega arith

drop_ten : (f : ℕ → ℕ) (k i : ℕ) (rest : List ℕ) → drop (10 * suc i) (ten f k rest) ≡ drop (10 * i) rest
drop_ten f k i rest = let e : 10 * suc i ≡ suc (suc (suc (suc (suc (suc (suc (suc (suc (suc (10 * i)))))))))) = omega arith in ap (λ (m : ℕ). drop m (ten f k rest)) e

-- the flags of the records after the first
flags_next : (f : ℕ → ℕ) (n j k : ℕ) → within_by (suc n) 1 10 f (k + j) ≡ true → within_by n 1 10 f (k + 10 + j) ≡ true
unfolding within_by
flags_next f n j k h =
    let e : k + 10 + j ≡ k + j + 10 = omega arith in
    ap (λ (m : ℕ). within_by n 1 10 f m) e ∙ and_right (leb (f (k + j)) 1) (within_by n 1 10 f (k + j + 10)) h

-- of n records whose flags can be held, those from i on are unused where their words are 0
pub records-zeros : (f : ℕ → ℕ) (n i k : ℕ) → within_by n 1 10 f (k + 3) ≡ true → within_by n 1 10 f (k + 6) ≡ true
    → zeros (drop (10 * i) (words_by (10 * n) f k)) ≡ all_unused (drop i (records_by n f k))
unfolding words_by records_by within_by zeros all_unused
records-zeros f zero i k p q = rw (drop-nil {A = ℕ} (10 * i), drop-nil {A = Progress} i)
records-zeros f (suc n) zero k p q =
    ap zeros (ten_words f k n)
    ∙ record_zeros f k (words_by (10 * n) f (k + 10)) (leb-true _ _ (and_left _ _ p)) (leb-true _ _ (and_left _ _ q))
    ∙ ap (λ (b : Bool). is_unused (record_by f k) && b) (records-zeros f n zero (k + 10) (flags_next f n 3 k p) (flags_next f n 6 k q))
records-zeros f (suc n) (suc i) k p q =
    ap (λ (l : List ℕ). zeros (drop (10 * suc i) l)) (ten_words f k n)
    ∙ ap zeros (drop_ten f k i (words_by (10 * n) f (k + 10)))
    ∙ records-zeros f n i (k + 10) (flags_next f n 3 k p) (flags_next f n 6 k q)
