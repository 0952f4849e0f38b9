use mathlib.Core.Path.{sym, ◌∙◌}
use Rattle.model_promises.proofs.Loads.{loads_valid}
use Rattle.controller.proofs.load_model.Goals as goal

pub returns : goal.returns
returns g c = λ good. loads_valid _ c.load.result.model (sym c.load.ensures ∙ (λ i. record { model = c.load.result.model; verdict = good i }))
