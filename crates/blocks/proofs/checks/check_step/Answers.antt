use Rattle.std.proofs.Common.{◌^◌, refl}
use Rattle.blocks.proofs.FoldLaws.{by_doubling}
use Rattle.blocks.proofs.checks.check_step.Goals as goal

pub returns : goal.returns
returns c = by_doubling (2 ^ 32) c.args.c c.args.byte _ _ _ _ _ _ refl refl refl refl refl refl
