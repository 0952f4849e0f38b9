use Rattle.blocks.specs.Blocks.{check_right}
use Rattle.blocks.proofs.parts.check_right.Goals as goal

pub returns : goal.returns
unfolding check_right
returns c = rw (c.check.ensures, c.body.ensures, c.stored_check.ensures)
