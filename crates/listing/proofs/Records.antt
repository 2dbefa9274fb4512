-- What a record's kind tells of its byte. Assumes nothing.
use Prim.Native.Nat.{ℕ, ◌<◌}
use mathlib.Core.Path.{◌≡◌, ap, sym, subst, ◌∙◌}
use mathlib.Core.Bool.{Bool, true, false}
use native.Mathlib.Omega.{arith}
use borrow.Author.Tests.{ne_eqb}
use Rattle.listing.specs.Kinds.{byte_of, IsByteOf}
use Rattle.listing.specs.Sessions.{answer_in}
use Rattle.listing.specs.declared.Kind.{Kind}
use Rattle.listing.specs.declared.Run.{Run}
use Rattle.listing.specs.declared.Run.TheVariants.{Simple, Enter, Leave}
use Rattle.listing.specs.declared.Session.{Session}

pub byte_is : {k j : Kind} (b : ℕ) → k ≡ j → IsByteOf k b → IsByteOf j b
byte_is b e h = subst (λ k. IsByteOf k b) e h

pub enter-byte : {r : Run} {a : Bool} {b : ℕ} → r ≡ Enter a → b ≡ byte_of r → (2 < b) × (b < 6)
enter-byte {a = true} e h = let k : _ ≡ 5 = h ∙ ap byte_of e in (omega (arith, k), omega (arith, k))
enter-byte {a = false} e h = let k : _ ≡ 4 = h ∙ ap byte_of e in (omega (arith, k), omega (arith, k))

run-byte : (r : Run) → 2 < byte_of r
run-byte Simple = omega arith
run-byte (Enter true) = omega arith
run-byte (Enter false) = omega arith
run-byte Leave = omega arith

-- ** What a record that is no change is answered, by the run `q` that it is taken for

module _ (z : Session) {q : Run} {b : ℕ} where
  pub run-answer : {r : Run} → q ≡ r → b ≡ byte_of r → (2 < b) × (answer_in z (byte_of q) ≡ answer_in z b)
  run-answer {r} e h = (omega (arith, h, run-byte r), ap (answer_in z) (ap byte_of e ∙ sym h))

  pub unknown-answer : q ≡ Enter false → 6 < b → (2 < b) × (answer_in z (byte_of q) ≡ answer_in z b)
  unfolding answer_in
  unknown-answer e h = (omega (arith, h), ap (λ r. answer_in z (byte_of r)) e ∙ rw (ne_eqb b 6 (omega (arith, h)), ne_eqb b 3 (omega (arith, h)), ne_eqb b 5 (omega (arith, h))))
