-- The bytes of a number, eight that are there at once, and a number past the end of its bytes. Assumes nothing.
use Prim.Native.Nat.{ℕ, zero, suc, ◌+◌, ◌-◌, ◌*◌, ◌≤◌, ◌<◌}
use mathlib.Core.Path.{◌≡◌, refl, ap, ◌∙◌}
use mathlib.Core.List.{List, [], ◌∷◌}
use native.Mathlib.Omega.{arith}
use native.Mathlib.Numerals.{add-one}
use lib.ListN.{length, take, drop, get_or, get_or-eq_default}
use lib.Seq.{drop-cons}
use Rattle.std.specs.Array.{IsWholeChunk}
use Rattle.std.specs.Int.{w64, from_le_bytes}
use Rattle.calls.specs.Layout.{number}
use Rattle.calls.proofs.ReadFilled.{Filled, fill_end, spaced}

-- byte k, 0 where there is none
abbrev pub byte_at : List ℕ → ℕ → ℕ
byte_at s k = get_or s k 0

eight : (a b c d e f g h : ℕ) → from_le_bytes w64 (a ∷ b ∷ c ∷ d ∷ e ∷ f ∷ g ∷ h ∷ []) ≡ a + 256 * (b + 256 * (c + 256 * (d + 256 * (e + 256 * (f + 256 * (g + 256 * (h + 256 * 0)))))))
eight a b c d e f g h = omega arith

pub number_read : (s : List ℕ) (at : ℕ) {i : ℕ} {bytes : List ℕ} → Filled 8 (byte_at s) 1 at i bytes → 8 ≤ i → from_le_bytes w64 bytes ≡ number 8 s at
unfolding number spaced
number_read s at w h = rw (fill_end w h) (eight (byte_at s at) (byte_at s (at + 1)) (byte_at s (at + 1 + 1)) (byte_at s (at + 1 + 1 + 1)) (byte_at s (at + 1 + 1 + 1 + 1)) (byte_at s (at + 1 + 1 + 1 + 1 + 1)) (byte_at s (at + 1 + 1 + 1 + 1 + 1 + 1)) (byte_at s (at + 1 + 1 + 1 + 1 + 1 + 1 + 1)))

-- eight bytes that are there
front : (n at : ℕ) (s : List ℕ) → at < length s → take (suc n) (drop at s) ≡ byte_at s at ∷ take n (drop (at + 1) s)
front n at s h = rw (drop-cons s at 0 h, add-one)

number_there : (s : List ℕ) (at : ℕ) → at + 8 ≤ length s → from_le_bytes w64 (take 8 (drop at s)) ≡ number 8 s at
unfolding number
number_there s at h =
    let a = front 7 at s (omega arith) in
    let b = front 6 (at + 1) s (omega arith) in
    let c = front 5 (at + 1 + 1) s (omega arith) in
    let d = front 4 (at + 1 + 1 + 1) s (omega arith) in
    let e = front 3 (at + 1 + 1 + 1 + 1) s (omega arith) in
    let f = front 2 (at + 1 + 1 + 1 + 1 + 1) s (omega arith) in
    let g = front 1 (at + 1 + 1 + 1 + 1 + 1 + 1) s (omega arith) in
    let i = front 0 (at + 1 + 1 + 1 + 1 + 1 + 1 + 1) s (omega arith) in
    rw (a, b, c, d, e, f, g, i) (eight (byte_at s at) (byte_at s (at + 1)) (byte_at s (at + 1 + 1)) (byte_at s (at + 1 + 1 + 1)) (byte_at s (at + 1 + 1 + 1 + 1)) (byte_at s (at + 1 + 1 + 1 + 1 + 1)) (byte_at s (at + 1 + 1 + 1 + 1 + 1 + 1)) (byte_at s (at + 1 + 1 + 1 + 1 + 1 + 1 + 1)))

pub number_chunk : (s : List ℕ) (at : ℕ) {w : ℕ} {bs : List ℕ} → at + 8 ≤ length s → IsWholeChunk (take (at + 8 - at) (drop at s)) bs 8 → w ≡ from_le_bytes w64 bs → w ≡ number 8 s at
number_chunk s at h c e =
    let k : at + 8 - at ≡ 8 = omega arith in
    e ∙ ap (from_le_bytes w64) (c.same ∙ ap (λ (n : ℕ). take n (drop at s)) k) ∙ number_there s at h

-- past the end every byte counts as 0
pub number_past : (n : ℕ) (s : List ℕ) (at : ℕ) → length s ≤ at → number n s at ≡ 0
unfolding number
number_past zero s at h = refl
number_past (suc n) s at h = rw (get_or-eq_default s 0 {n = at} h, number_past n s (at + 1) (omega arith))
