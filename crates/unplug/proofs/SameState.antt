-- Two readers that read the same words read the same state: so a STATE in words is that of a request which has these words. Assumes nothing.
use Prim.Native.Nat.{ℕ, zero, suc, ◌+◌, ◌*◌, ◌≤◌, ◌<◌}
use mathlib.Core.Path.{◌≡◌, refl, ap, sym, ◌∙◌}
use native.Mathlib.Omega.{arith}
use native.Mathlib.Nat.{add-zero}
use lib.Dec.{eqb}
use Rattle.unplug.specs.Words.{record_by, records_by, set_by, state_by, words_by}

-- n words from k on and from l on are the same
pub record Alike (n : ℕ) (f : ℕ → ℕ) (k : ℕ) (g : ℕ → ℕ) (l : ℕ) : Type 0 where
  pub same : (i : ℕ) → i < n → f (k + i) ≡ g (l + i)

module _ {n : ℕ} {f g : ℕ → ℕ} {k l : ℕ} (a : Alike n f k g l) where
  first : 0 < n → f k ≡ g l
  first h = ap f (sym (add-zero k)) ∙ a.same 0 h ∙ ap g (add-zero l)

  -- the first m of them
  front : (m : ℕ) → m ≤ n → Alike m f k g l
  front m h = record { same = λ i j. a.same i (omega arith) }

  -- m of them, from the place d on
  within : (d m : ℕ) → d + m ≤ n → Alike m f (k + d) g (l + d)
  within d m h = record {
    same = λ i j.
        let p : k + d + i ≡ k + (d + i) = omega arith in
        let q : l + (d + i) ≡ l + d + i = omega arith in
        ap f p ∙ a.same (d + i) (omega arith) ∙ ap g q;
  }

words_alike : {f g : ℕ → ℕ} (n : ℕ) {k l : ℕ} → Alike n f k g l → words_by n f k ≡ words_by n g l
unfolding words_by
words_alike zero a = refl
words_alike (suc n) a = rw (first a (omega arith), words_alike n (within a 1 n (omega arith)))

set_alike : {f g : ℕ → ℕ} {k l : ℕ} → Alike 65 f k g l → set_by f k ≡ set_by g l
set_alike a = λ i. record { ids = words_alike 64 (front a 64 (omega arith)) i; len = a.same 64 (omega arith) i }

record_alike : {f g : ℕ → ℕ} {k l : ℕ} → Alike 10 f k g l → record_by f k ≡ record_by g l
record_alike a =
    rw (
      first a (omega arith),
      a.same 1 (omega arith),
      a.same 2 (omega arith),
      a.same 3 (omega arith),
      a.same 4 (omega arith),
      a.same 5 (omega arith),
      a.same 6 (omega arith),
      a.same 7 (omega arith),
      a.same 8 (omega arith),
      a.same 9 (omega arith),
    )

records_alike : {f g : ℕ → ℕ} (n : ℕ) {k l : ℕ} → Alike (10 * n) f k g l → records_by n f k ≡ records_by n g l
unfolding records_by
records_alike zero a = refl
records_alike (suc n) a = rw (record_alike (front a 10 (omega arith)), records_alike n (within a 10 (10 * n) (omega arith)))

pub state_alike : {f g : ℕ → ℕ} {k l : ℕ} → Alike 967 f k g l → state_by f k ≡ state_by g l
state_alike {f} {g} {k} {l} a = λ i.
    record {
      conf = record {
        incoming = set_alike (front a 65 (omega arith)) i;
        outgoing = set_alike (within a 65 65 (omega arith)) i;
        learners = set_alike (within a 130 65 (omega arith)) i;
        learners_next = set_alike (within a 195 65 (omega arith)) i;
        auto_leave = eqb (a.same 260 (omega arith) i) 1;
      };
      ids = set_alike (within a 261 65 (omega arith)) i;
      records = records_alike 64 (within a 326 640 (omega arith)) i;
      max_inflight = a.same 966 (omega arith) i;
    }
