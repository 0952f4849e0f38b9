use Rattle.std.proofs.Common.{sym, ◌∙◌}
use Rattle.sets.proofs.Below.{all_start, all_more, all_stop, all_end}
use Rattle.engine.proofs.configs.valid.pool_placed.Goals as goal

pub loop-s-init : goal.loop-s-init
loop-s-init c = all_start _

pub returns-then-not-place_right : goal.returns-then-not-place_right
returns-then-not-place_right c = sym (all_stop _ _ _ c.loop-s-test.true (sym c.place_right.ensures ∙ c.if-not-place_right.true))

pub loop-s-preserved : goal.loop-s-preserved
loop-s-preserved c = all_more _ _ c.loop-s.invariant (sym c.place_right.ensures ∙ c.if-not-place_right.false)

pub returns : goal.returns
returns c = sym (all_end _ _ _ c.loop-s.auto.s-end c.loop-s-test.false c.loop-s.invariant)
