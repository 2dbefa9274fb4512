-- `restore_step_by_step`: 1, then 2, then the steps of a `ConfState` without or with outgoing voters. Assumes nothing.
use mathlib.Core.Path.{◌∙◌, refl, sym}
use Rattle.restore.proofs.Answers.{ill, steps_1, steps_2, steps_3, steps_4, well}
use Rattle.restore.proofs.restore_step_by_step.Goals as goal

pub returns-then-is_malformed : goal.returns-then-is_malformed
returns-then-is_malformed c = steps_1 _ _ _ (ill _ c.is_malformed.ensures c.if-is_malformed.true) refl

pub returns-then-too_long : goal.returns-then-too_long
returns-then-too_long c = steps_2 _ _ _ (well _ c.is_malformed.ensures c.if-is_malformed.false) (sym c.too_long.ensures ∙ c.if-too_long.true) refl

pub restore_single-requires : goal.restore_single-requires
restore_single-requires c = well _ c.is_malformed.ensures c.if-is_malformed.false

pub returns-then-nothing_listed : goal.returns-then-nothing_listed
returns-then-nothing_listed c = steps_3 _ (well _ c.is_malformed.ensures c.if-is_malformed.false) _ (sym c.too_long.ensures ∙ c.if-too_long.false) _ c.nothing_listed.ensures c.if-nothing_listed.true c.restore_single.ensures

pub restore_joint-requires : goal.restore_joint-requires
restore_joint-requires c = well _ c.is_malformed.ensures c.if-is_malformed.false

pub returns : goal.returns
returns c = steps_4 _ (well _ c.is_malformed.ensures c.if-is_malformed.false) _ (sym c.too_long.ensures ∙ c.if-too_long.false) _ c.nothing_listed.ensures c.if-nothing_listed.false c.restore_joint.ensures
