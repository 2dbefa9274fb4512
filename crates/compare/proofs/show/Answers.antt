-- `compare::show` prints the whole text: it fits, and stands at the front of what is written. Assumes nothing.
use Rattle.std.proofs.Common.{◌≡◌, ◌≤◌, ◌∙◌, ℕ, List, Bool, length, take, drop, arith, ap, sym, subst, length-take-le, rules}
use Rattle.std.proofs.Math.Seq.{take-append_seam}
use Rattle.std.proofs.lemmas.Result.{on_ok_weaker}
use Rattle.std.specs.Io.KnownBytes.{Appends}
use Rattle.text.specs.Put.{Put}
use Rattle.text.proofs.Laws.{put_whole, put-length}
use Rattle.comparison.specs.Compare.{comparison}
use Rattle.comparison.proofs.Pieces.{front}
use Rattle.comparison.proofs.Size.{comparison-size}
use Rattle.compare.proofs.show.Goals as goal

module _ (r : Bool) (l m : List ℕ) {old new text : List ℕ} {n : ℕ} (room : length old ≡ 20761) (held : text ≡ new) (put : Put old 0 (comparison r l m) new n) where
  long : n ≡ length (comparison r l m)
  long = (put_whole (omega arith) put (omega (arith, comparison-size r l m))).1

  fits : n ≤ length text
  fits = omega (arith, long, comparison-size r l m, put-length put, ap length held)

  printed : take n text ≡ comparison r l m
  printed =
      let whole = put_whole (omega arith) put (omega (arith, comparison-size r l m)) in
      ap (take n) held ∙ ap (λ k. take k new) whole.1 ∙ ap (take (length (comparison r l m))) whole.0 ∙ take-append_seam (comparison r l m) (drop (length (comparison r l m)) old)

pub slice_bounds-text-end : goal.slice_bounds-text-end
slice_bounds-text-end g c = fits c.args.readable c.args.first.now c.args.second.now (search rules) (search rules) (front c.new-to.ensures.untouched c.new-to.ensures.front c.put_comparison.ensures)

pub slice_bounds-write_output-end : goal.slice_bounds-write_output-end
slice_bounds-write_output-end g c = sym (length-take-le _ _ (fits c.args.readable c.args.first.now c.args.second.now (search rules) (search rules) (front c.new-to.ensures.untouched c.new-to.ensures.front c.put_comparison.ensures)))

pub returns-then-readable : goal.returns-then-readable
returns-then-readable g c = on_ok_weaker _ (subst (Appends _ _) (printed c.args.readable c.args.first.now c.args.second.now (search rules) (search rules) (front c.new-to.ensures.untouched c.new-to.ensures.front c.put_comparison.ensures))) c.write_output-printed.ensures

pub returns-else-readable : goal.returns-else-readable
returns-else-readable g c = on_ok_weaker _ (subst (Appends _ _) (printed c.args.readable c.args.first.now c.args.second.now (search rules) (search rules) (front c.new-to.ensures.untouched c.new-to.ensures.front c.put_comparison.ensures))) c.write_output-printed.ensures
