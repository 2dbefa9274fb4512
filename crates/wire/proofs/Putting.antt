-- Laws of the bytes of a number: how many they are, and the loop that puts them into a slice. Assumes nothing.
use Prim.Native.Nat.{ℕ, zero, suc, ◌+◌, ◌*◌, ◌/◌, ◌%◌, ◌^◌, ◌≤◌, ◌<◌}
use mathlib.Core.Path.{◌≡◌, refl, ap, sym, ◌∙◌}
use mathlib.Core.List.{List, [], ◌∷◌}
use native.Mathlib.Nat.{one-le-pow, pow-suc}
use native.Mathlib.Numerals.{add-one}
use native.Mathlib.Omega.{arith}
use lib.ListN.{length, set}
use lib.Seq.{sets, length-sets}
use Rattle.text.specs.Put.{Put, last}
use Rattle.rules.specs.Wire.{groups, varint_of}
use Rattle.rules.proofs.Wire.{groups-one, groups-more, groups_less, groups-some}

-- the bytes that a loop has still to come to, of a number m that is left
pub record Left (m : ℕ) (bytes : List ℕ) : Type 0 where
  pub fuel : ℕ
  pub enough : m < 128 ^ suc fuel
  pub those : bytes ≡ groups (suc fuel) m

left-all : (n : ℕ) → n < 2 ^ 64 → Left n (varint_of n)
unfolding varint_of
left-all n h = record { fuel = 9; enough = omega arith; those = refl }

left-some : {m : ℕ} {l : List ℕ} → Left m l → 0 < length l
left-some {m} s = rw s.those (groups-some s.fuel m)

left_one : {m : ℕ} {l : List ℕ} → Left m l → m < 128 → l ≡ m ∷ []
left_one {m} s h = s.those ∙ groups-one s.fuel m h

left-more : {m : ℕ} {l : List ℕ} → Left m l → 128 ≤ m → (r : List ℕ) × (Left (m / 128) r × (l ≡ (128 + m % 128) ∷ r))
left-more {m} {l} s h = by s.fuel s.enough s.those
  where
    by : (k : ℕ) → m < 128 ^ suc k → l ≡ groups (suc k) m → (r : List ℕ) × (Left (m / 128) r × (l ≡ (128 + m % 128) ∷ r))
    by zero e t = absurd (omega arith)
    by (suc k) e t =
        let d : m / 128 < 128 ^ suc k = groups_less k m e in
        (groups (suc k) (m / 128), (record { fuel = k; enough = d; those = refl }, t ∙ groups-more (suc k) m h))

-- how many bytes a number takes, by its size
groups-count : (k j n : ℕ) → 128 ^ k ≤ n → n < 128 ^ suc k → length (groups (suc (k + j)) n) ≡ suc k
groups-count zero j n a h = ap length (groups-one (zero + j) n (omega arith))
groups-count (suc k) j n a h =
    let p : 128 ^ suc k ≡ 128 ^ k * 128 = pow-suc 128 k in
    let q : 128 ^ suc (suc k) ≡ 128 ^ suc k * 128 = pow-suc 128 (suc k) in
    let one : 1 ≤ 128 ^ k = one-le-pow k 128 (omega arith) in
    let e : suc k + j ≡ suc (k + j) = omega arith in
    ap (λ (m : ℕ). length (groups (suc m) n)) e
    ∙ (ap length (groups-more (suc (k + j)) n (omega arith)) ∙ ap suc (groups-count k j (n / 128) (omega arith) (omega arith)))

pub size-one : (n : ℕ) → n < 128 → 1 ≡ length (varint_of n)
unfolding varint_of
size-one n h = sym (ap length (groups-one 9 n h))

-- two bytes and more, j less than ten
pub size-more : (k j n : ℕ) → k + j ≡ 9 → 128 ^ k ≤ n → n < 128 ^ suc k → suc k ≡ length (varint_of n)
unfolding varint_of
size-more k j n e a h = sym (ap (λ (m : ℕ). length (groups (suc m) n)) (sym e) ∙ groups-count k j n a h)

pub size_of_3 : (n : ℕ) → 16384 ≤ n → n < 2097152 → 3 ≡ length (varint_of n)
size_of_3 n a h = size-more 2 7 n refl a h

-- the loop that puts the bytes of n has come to place p
pub record Putting (old : List ℕ) (at n : ℕ) (out : List ℕ) (p m : ℕ) : Type 0 where
  pub rest : List ℕ
  pub left : Left m rest
  pub bytes : sets out p rest ≡ sets old at (varint_of n)
  pub end : p + length rest ≡ at + length (varint_of n)

pub putting_start : {old : List ℕ} {at n : ℕ} → n < 2 ^ 64 → Putting old at n old at n
putting_start {old} {at} {n} h = record { rest = varint_of n; left = left-all n h; bytes = refl; end = refl }

module _ {old : List ℕ} {at n : ℕ} {out : List ℕ} {p m : ℕ} (s : Putting old at n out p m) where
  pub putting_length : length out ≡ length old
  putting_length = sym (length-sets out p s.rest) ∙ ap length s.bytes ∙ length-sets old at (varint_of n)

  pub putting_room : at + length (varint_of n) ≤ length old → p < length out
  putting_room h = omega (arith, s.end, left-some s.left, putting_length)

  pub putting_next : 128 ≤ m → Putting old at n (set out p (128 + m % 128)) (p + 1) (m / 128)
  putting_next h =
      let t = left-more s.left h in
      record {
        rest = t.0;
        left = t.1.0;
        bytes = rw add-one (rw t.1.1 at s.bytes);
        end = omega (arith, s.end, ap length t.1.1);
      }

  pub putting_last : m < 128 → at + length (varint_of n) ≤ last → Put old at (varint_of n) (set out p m) (p + 1)
  putting_last h k =
      let e : s.rest ≡ m ∷ [] = left_one s.left h in
      record {
        bytes = rw e at s.bytes;
        end = omega (arith, s.end, ap length e);
      }
