use Rattle.controller.proofs.PiecesLaws.{ending_none, ending_cut}
use Rattle.controller.proofs.pieces.ending.Goals as goal

pub returns-then-held-eq0 : goal.returns-then-held-eq0
returns-then-held-eq0 c = ending_none _ c.if-held-eq0.true

pub returns-else-held-eq0 : goal.returns-else-held-eq0
returns-else-held-eq0 c = ending_cut _ c.if-held-eq0.false
