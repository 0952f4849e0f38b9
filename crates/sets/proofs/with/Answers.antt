use Rattle.std.proofs.Common.{lt-ltb}
use Rattle.sets.proofs.Masks.{shl_one, with_or}
use Rattle.sets.proofs.with.Goals as goal

pub returns-then-k-lt16 : goal.returns-then-k-lt16
returns-then-k-lt16 c = rw (lt-ltb _ _ c.if-k-lt16.true, shl_one 16 _ c.if-k-lt16.true) (with_or _ _)
