use Rattle.model.proofs.BlankLaws.{blank_is}
use Rattle.model.proofs.valid.bits.Goals as goal

pub returns : goal.returns
returns c = blank_is _
