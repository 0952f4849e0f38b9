use mathlib.Core.Path.{◌∙◌}
use Rattle.model.proofs.RuleLaws.{largest}
use Rattle.model.proofs.rules.state_fits.Goals as goal

pub returns : goal.returns
returns c =
    let sender = c.well_formed.0.1.1.1.1 in
    let timeout = sender.1.1.1 in
    c.state_fits_in.ensures ∙ largest c.args.st sender.0.1 timeout.0.1 timeout.1.0.1 timeout.1.1.0.1
