use Rattle.std.proofs.Common.{sym, ap, ◌∙◌, not}
use Rattle.sets.proofs.Below.{all_start, all_more, all_stop, all_end}
use Rattle.engine.proofs.configs.shares.none_twice.Goals as goal

pub loop-k-init : goal.loop-k-init
loop-k-init c = all_start _

pub returns-then-has_row : goal.returns-then-has_row
returns-then-has_row c = sym (all_stop _ _ _ c.loop-k-test.true (ap not (sym c.has_row.ensures ∙ c.if-has_row.true)))

pub loop-k-preserved : goal.loop-k-preserved
loop-k-preserved c = all_more _ _ c.loop-k.invariant (ap not (sym c.has_row.ensures ∙ c.if-has_row.false))

pub returns : goal.returns
returns c = sym (all_end _ _ _ c.loop-k.auto.k-end c.loop-k-test.false c.loop-k.invariant)
