use Rattle.model.proofs.StageLaws.{KindsOf}
use Rattle.model.proofs.stages.put_kinds.Given as goal

abbrev pub invariant-loop-j : goal.invariant-loop-j
invariant-loop-j l = KindsOf l.file l.j l.kinds
