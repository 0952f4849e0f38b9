use Rattle.std.proofs.Common.{sym, rules}
use Rattle.sets.proofs.Below.{sum_start, sum_turn, sum_end}
use Rattle.blocks.specs.Blocks.{count_of}
use Rattle.blocks.proofs.parts.count_of.Goals as goal

pub loop-b-init : goal.loop-b-init
loop-b-init c = (search rules, sym (sum_start _))

pub loop-b-preserved : goal.loop-b-preserved
loop-b-preserved c =
    let inv = c.loop-b.invariant in
    (search rules, sum_turn _ _ _ _ inv.1 c.used_of.ensures)

pub returns : goal.returns
unfolding count_of
returns c = sum_end _ _ _ _ c.loop-b.auto.b-end c.loop-b-test.false c.loop-b.invariant.1
