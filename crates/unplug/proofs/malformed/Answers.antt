-- `unplug::malformed` meets its contract: the sets, and the words after the records that are used. Assumes nothing.
use mathlib.Core.Path.{◌≡◌, ◌∙◌}
use mathlib.Core.Bool.{true}
use native.Mathlib.Omega.{arith}
use borrow.Author.Rules.{rules}
use lib.ListN.{drop, length}
use Rattle.rules.proofs.Sets.{and_right}
use Rattle.idset.specs.Set.{well_formed}
use Rattle.idset.proofs.Bridge.{formed}
use Rattle.tracker.specs.Form.{all_unused, conf_well_formed, tracker_well_formed}
use Rattle.unplug.specs.Words.{at, conf_by, records_by, set_by}
use Rattle.unplug.proofs.WordBlocks.{part_words, records_64, records-zeros}
use Rattle.unplug.proofs.Unplugged.{records_active, records_paused, told_ill, told_well}
use Rattle.unplug.proofs.malformed.Goals as goal

pub returns-then-a_set_malformed : goal.returns-then-a_set_malformed
unfolding tracker_well_formed
returns-then-a_set_malformed c = rw (told_ill c.a_set_malformed.ensures c.if-a_set_malformed.true)

pub overflow_mul-tracked : goal.overflow_mul-tracked
overflow_mul-tracked c = let ok : well_formed (set_by (at c.args.s.now) 261) ≡ true = and_right (conf_well_formed (conf_by (at c.args.s.now) 0)) _ (told_well c.a_set_malformed.ensures c.if-a_set_malformed.false) in
    omega (arith, c.word-tracked.ensures, (formed (set_by (at c.args.s.now) 261) ok).room)

pub returns : goal.returns
unfolding tracker_well_formed
returns c = let ws = c.args.s.now in
    let long : length ws ≡ 967 = search rules in
    let rest : c.zero_from.result ≡ all_unused (drop (at ws 325) (records_by 64 (at ws) 326)) =
    rw (c.word-tracked.ensures, part_words 640 326 ws (omega arith)) at c.zero_from.ensures ∙ records-zeros (at ws) 64 (at ws 325) 326 (records_paused ws c.requires) (records_active ws c.requires) in
    rw (told_well c.a_set_malformed.ensures c.if-a_set_malformed.false, records_64 (at ws) 326, rest)
