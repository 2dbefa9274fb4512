-- `comparison::read_sets` meets its contract: a message is read, and its lists are put in order. Assumes nothing.
use mathlib.Core.Path.{ap, ◌≡◌}
use mathlib.Core.Bool.{false≢true}
use Prim.Native.Nat.{ℕ}
use Rattle.std.specs.Prelude.{Result, Ok, Err, IsErr, IsErrAnd}
use Rattle.confstate.specs.Refusals.{told}
use Rattle.comparison.specs.Steps.{number_of, told_by}
use Rattle.comparison.specs.declared.refusal.Refusal.{Refusal}
use Rattle.comparison.proofs.Blocks.{read-lists, read-sorted}
use Rattle.comparison.proofs.read_sets.Goals as goal

-- what `?` gives on has the same number
given-on : {n : ℕ} (r : Result (Unit {0}) Refusal) → IsErr r × IsErrAnd r (λ e. number_of e ≡ n) → told_by r ≡ n
given-on (Ok u) h = absurd (false≢true h.0)
given-on (Err e) h = h.1

pub sort_lists-requires : goal.sort_lists-requires
sort_lists-requires c = read-lists c.args.bytes.now c.args.words.now c.requires c.read-read.ensures

pub returns-in_err-read : goal.returns-in_err-read
returns-in_err-read c =
    let s = read-sorted c.args.bytes.now c.args.words.now c.requires c.read-read.ensures c.sort_lists.ensures in
    rw (given-on c.from_residual.result c.from_residual.ensures, ← ap told c.in_err-read.was) s

pub returns : goal.returns
returns c =
    let s = read-sorted c.args.bytes.now c.args.words.now c.requires c.read-read.ensures c.sort_lists.ensures in
    rw (ap told c.in_ok-read.was) at s
