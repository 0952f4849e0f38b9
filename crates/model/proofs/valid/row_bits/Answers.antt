use Rattle.model.proofs.BlankLaws.{blank_row_is}
use Rattle.model.proofs.valid.row_bits.Goals as goal

pub returns : goal.returns
returns c = blank_row_is c.args.w
