use mathlib.Core.Path.{sym, ◌∙◌}
use borrow.Author.Rules.{rules}
use Rattle.sets.proofs.Below.{change_start, change_end, changed_turn}
use Rattle.engine.specs.commands.Runs.{with_marks}
use Rattle.engine.proofs.commands.runs.with_marks.Goals as goal

pub loop-i-init : goal.loop-i-init
loop-i-init c = sym (change_start _ _ _ _ (search rules))

pub loop-i-preserved : goal.loop-i-preserved
loop-i-preserved c = changed_turn _ _ _ _ _ _ _ 0 c.loop-i-test.true c.loop-i.invariant c.mark_at.ensures

pub returns : goal.returns
unfolding with_marks
returns c = rw (c.loop-i.invariant ∙ change_end _ _ _ _ _ c.loop-i.auto.i-end c.loop-i-test.false)
