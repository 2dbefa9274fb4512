-- `comparison::put_lines` meets its contract: what is left to be put is the lines of what is left of both messages, and the flag's. Assumes nothing.
use mathlib.Core.Path.{◌≡◌}
use Rattle.comparison.proofs.Places.{Walked, left}
use Rattle.comparison.proofs.put_lines.Given as goal

abbrev pub invariant-loop-id : goal.invariant-loop-id
invariant-loop-id l = record {
  first-words : l.first.words.now ≡ l.a;
  second-words : l.second.words.now ≡ l.b;
  walked : Walked l.a l.b l.initial.to l.to l.first.places l.second.places;
}

abbrev pub decreases-loop-id : goal.decreases-loop-id
decreases-loop-id l = left l.a l.b l.first.places l.second.places
