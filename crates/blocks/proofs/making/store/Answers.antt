use Rattle.std.proofs.Common.{arith}
use Rattle.blocks.proofs.MakingLaws.{part_stored}
use Rattle.blocks.proofs.making.store.Goals as goal

pub returns : goal.returns
returns c = part_stored _ _ _ _ _ c.copy_from_slice.ensures.after (omega arith) c.requires
