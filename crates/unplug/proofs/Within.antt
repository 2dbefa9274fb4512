-- The loop that asks whether words are at most a bound, and what its answer says; f reads word k. Assumes nothing.
use Prim.Native.Nat.{ℕ, suc, ◌+◌, ◌-◌, ◌*◌, ◌≤◌, ◌<◌}
use mathlib.Core.Path.{◌≡◌, ap, sym, ◌∙◌}
use mathlib.Core.Bool.{true, false, ◌&&◌}
use native.Mathlib.Nat.{add-mul, mul-le-mul_right}
use native.Mathlib.Omega.{arith}
use lib.Dec.{leb}
use borrow.Author.Tests.{le-leb, lt-leb}
use Rattle.unplug.specs.Words.{within_by}

-- the first i of n words are asked: what is left is to be asked of the others
pub record Asking (f : ℕ → ℕ) (k n step most i : ℕ) : Type 0 where
  pub same : within_by (n - i) most step f (k + i * step) ≡ within_by n most step f k

pub ask-start : {f : ℕ → ℕ} {k n step most : ℕ} → Asking f k n step most 0
ask-start {k} {n} {step} =
    let a : n - 0 ≡ n = omega arith in
    let b : k + 0 * step ≡ k = omega arith in
    record { same = rw (a, b) }

-- a place that is asked is no further on than the end
pub ask-room : (k n step i most : ℕ) → k + n * step ≤ most → i < n → k + i * step ≤ most
ask-room k n step i most h l =
    let e : i ≤ n = omega arith in
    omega (arith, mul-le-mul_right step e)

-- one word more
ask-split : (n i most step : ℕ) (f : ℕ → ℕ) (k : ℕ) → i < n → within_by (n - i) most step f (k + i * step) ≡ leb (f (k + i * step)) most && within_by (n - (i + 1)) most step f (k + (i + 1) * step)
unfolding within_by
ask-split n i most step f k h =
    let e : n - i ≡ suc (n - (i + 1)) = omega arith in
    let a : k + i * step + step ≡ k + (i + 1) * step = omega (arith, add-mul i 1 step) in
    rw (e, a)

module _ {f : ℕ → ℕ} {k n step most i : ℕ} (a : Asking f k n step most i) where
  pub ask-stop : {w : ℕ} → i < n → w ≡ f (k + i * step) → most < w → false ≡ within_by n most step f k
  ask-stop {w} h e m =
      let over : leb (f (k + i * step)) most ≡ false = lt-leb (f (k + i * step)) most (omega (arith, e, m)) in
      sym (sym a.same ∙ ask-split n i most step f k h ∙ ap (λ b. b && within_by (n - (i + 1)) most step f (k + (i + 1) * step)) over)

  pub ask-next : {w : ℕ} → i < n → w ≡ f (k + i * step) → w ≤ most → Asking f k n step most (i + 1)
  ask-next {w} h e m =
      let under : leb (f (k + i * step)) most ≡ true = le-leb (f (k + i * step)) most (omega (arith, e, m)) in
      record { same = sym (ask-split n i most step f k h ∙ ap (λ b. b && within_by (n - (i + 1)) most step f (k + (i + 1) * step)) under) ∙ a.same }

  pub ask-end : n ≤ i → true ≡ within_by n most step f k
  unfolding within_by
  ask-end h =
      let z : n - i ≡ 0 = omega arith in
      sym (ap (λ m. within_by m most step f (k + i * step)) z) ∙ a.same
