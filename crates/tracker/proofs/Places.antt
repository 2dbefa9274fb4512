-- Places after the last in use: unused records, and entries that are an Add of 0. Assumes nothing.
use mathlib.Core.Path.{◌≡◌, refl}
use mathlib.Core.Bool.{true, false≢true}
use borrow.Author.Tests.{eqb-true}
use lib.Dec.{eqb}
use Rattle.progress.specs.Record.{is_unused}
use Rattle.rules.proofs.Sets.{and_left, and_right}
use Rattle.tracker.specs.Bridge.{blank}
use Rattle.tracker.specs.Form.{all_unused, is_add, is_blank, all_blank}
use Rattle.tracker.specs.declared.MapChange.{MapChange}
use Rattle.tracker.specs.declared.MapChangeType.{MapChangeType}
use Rattle.tracker.specs.declared.MapChangeType.TheVariants.{Add, Remove}
use Rattle.tracker.proofs.Each.{Each}

pub unused_each : Each is_unused all_unused
unfolding all_unused
unused_each = record { none = refl; more = λ r rs. refl }

pub blank-each : Each is_blank all_blank
unfolding all_blank
blank-each = record { none = refl; more = λ e es. refl }

add_is : (k : MapChangeType) → is_add k ≡ true → k ≡ Add
add_is Add h = refl
add_is Remove h = absurd (false≢true h)

pub blank-is : (e : MapChange) → is_blank e ≡ true → e ≡ blank
unfolding is_blank
blank-is e h = rw (eqb-true e.id 0 (and_left (eqb e.id 0) (is_add e.kind) h), add_is e.kind (and_right (eqb e.id 0) (is_add e.kind) h))

pub is-blank : is_blank blank ≡ true
unfolding is_blank
is-blank = refl
