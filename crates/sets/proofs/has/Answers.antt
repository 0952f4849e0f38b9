use Rattle.std.proofs.Common.{refl, sym, ◌∙◌, le-ltb}
use Rattle.sets.specs.Masks.{bit}
use Rattle.sets.proofs.Masks.{bit_past}
use Rattle.sets.proofs.has.Goals as goal

pub returns-then-k-lt16 : goal.returns-then-k-lt16
unfolding bit
returns-then-k-lt16 c = refl

pub returns-else-k-lt16 : goal.returns-else-k-lt16
returns-else-k-lt16 c = le-ltb _ _ c.if-k-lt16.false ∙ sym (bit_past 16 _ _ c.ranges.mask.fits c.if-k-lt16.false)
