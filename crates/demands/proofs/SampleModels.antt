-- The orchard: the machine can hold it, and it is valid. For model P: Worked of model_promises.
use mathlib.Core.Path.{◌≡◌, refl}
use mathlib.Core.Bool.{true}
use Rattle.model.specs.Valid.{valid}
use Rattle.model.specs.Valid as models
use Rattle.model_promises.proofs.Worked.{fits_machine, fits_held}
use Rattle.demands.specs.Orchard.{orchard}
use Rattle.demands.proofs.Computing.{computing}

-- the orchard passes
orchard_fits : fits_machine orchard ≡ true
unfolding computing fits_machine
orchard_fits = refl

-- the machine can hold the orchard
pub orchard_held : models.Held orchard
orchard_held = fits_held orchard orchard_fits

-- the orchard is valid
pub orchard_valid : valid orchard ≡ true
unfolding computing
orchard_valid = refl
