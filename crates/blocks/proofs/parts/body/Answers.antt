use Rattle.std.proofs.Common.{sym, arith, length-take-le, take_all}
use Rattle.blocks.proofs.parts.body.Goals as goal

pub slice_bounds-result-end : goal.slice_bounds-result-end
slice_bounds-result-end c = sym (length-take-le 508 c.args.block.now c.if-block-ge508.true)

pub returns : goal.returns
returns c = sym (take_all 508 c.args.block.now (omega arith))
