use mathlib.Core.Path.{ap, ◌∙◌}
use Rattle.model.specs.Records.{with_exits}
use Rattle.model.proofs.unpacked.unpack.Goals as goal

pub returns : goal.returns
returns c = c.with_exits.ensures ∙ ap (with_exits _) c.exits_from.ensures
