use mathlib.Core.Path.{sym}
use borrow.Author.Tests.{le-ltb}
use Rattle.sets.proofs.Masks.{bit_past}
use Rattle.engine.proofs.commands.reserve.is_marked.Goals as goal

pub returns-else-typ-lt32 : goal.returns-else-typ-lt32
returns-else-typ-lt32 c = rw (le-ltb _ _ c.if-typ-lt32.false) (sym (bit_past 32 _ _ c.ranges.mark.fits c.if-typ-lt32.false))
