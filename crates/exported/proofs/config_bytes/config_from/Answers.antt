use Rattle.exported.specs.Bytes.{config_from}
use Rattle.exported.proofs.config_bytes.config_from.Goals as goal

pub returns : goal.returns
unfolding config_from
returns c = λ i. record { subjects = c.all_from.ensures i }
