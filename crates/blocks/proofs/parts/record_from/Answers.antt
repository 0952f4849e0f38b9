use Rattle.std.proofs.Common.{sym, arith}
use Rattle.blocks.specs.Blocks.{record_from}
use Rattle.blocks.proofs.BlockLaws.{record_gone}
use Rattle.blocks.proofs.parts.record_from.Goals as goal

pub returns-then-first-file : goal.returns-then-first-file
unfolding record_from
returns-then-first-file c = c.record.ensures

pub returns-else-first-file : goal.returns-else-first-file
unfolding record_from
returns-else-first-file c = sym (record_gone c.args.file.now _ _ (omega arith))
