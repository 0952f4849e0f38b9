use Rattle.std.proofs.Common.{sym}
use native.Mathlib.Nat.{add-sub_cancel_left}
use Rattle.blocks.proofs.BlockLaws.{block_here, block_gone}
use Rattle.blocks.proofs.parts.block.Goals as goal

pub returns-then-b-file : goal.returns-then-b-file
returns-then-b-file c = rw add-sub_cancel_left (sym (block_here _ _ c.if-b-file.true))

pub returns-else-b-file : goal.returns-else-b-file
returns-else-b-file c = sym (block_gone _ _ c.if-b-file.false)
