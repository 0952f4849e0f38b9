-- Laws of refusals by name.
use mathlib.Core.Logic.{◌≢◌}
use native.Mathlib.Omega.{arith}
use Rattle.engine.specs.inner.Refusals.{number_named}
use Rattle.engine.specs.declared.Rule.{Rule}
use Rattle.engine.specs.declared.Rule.TheVariants.{NoRoom, ModelNotValid, NoCode, ConfigNotValid, NotThere, NotRunning, WrongKind, NoExit, NoMessage, PlaceMissing, Improper, NoTarget, TooEarly, CanDeliver}

-- a refusal has a number
pub number_some : (why : Rule) → number_named why ≢ 0
number_some NoRoom = λ h. omega (arith, h)
number_some ModelNotValid = λ h. omega (arith, h)
number_some NoCode = λ h. omega (arith, h)
number_some ConfigNotValid = λ h. omega (arith, h)
number_some NotThere = λ h. omega (arith, h)
number_some NotRunning = λ h. omega (arith, h)
number_some WrongKind = λ h. omega (arith, h)
number_some NoExit = λ h. omega (arith, h)
number_some NoMessage = λ h. omega (arith, h)
number_some PlaceMissing = λ h. omega (arith, h)
number_some Improper = λ h. omega (arith, h)
number_some NoTarget = λ h. omega (arith, h)
number_some TooEarly = λ h. omega (arith, h)
number_some CanDeliver = λ h. omega (arith, h)
