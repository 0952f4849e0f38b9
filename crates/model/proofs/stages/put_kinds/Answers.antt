use Rattle.std.proofs.Common.{refl, rules}
use Rattle.model.proofs.StageLaws.{kinds_start, kinds_turn, kinds_end}
use Rattle.model.proofs.stages.put_kinds.Goals as goal

pub loop-j-init : goal.loop-j-init
loop-j-init c = rw c.requires (kinds_start _)

pub loop-j-preserved : goal.loop-j-preserved
loop-j-preserved c =
    let here = rw c.of-states.ensures at c.get-r.ensures in
    kinds_turn _ _ _ _ _ _ _ c.loop-j.invariant refl here c.state_key.ensures c.byte.ensures (search rules)

pub returns : goal.returns
returns c =
    let count = rw c.of-states.ensures at c.of-states.result.count_is in
    kinds_end _ _ _ _ c.loop-j.invariant c.loop-j.auto.j-end c.loop-j-test.false count
