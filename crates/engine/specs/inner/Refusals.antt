-- Refusals by name, for what the code judges. No public contract cites this file.
use Rattle.std.specs.Prelude.{Bool, cond, List, [], ◌∷◌, ℕ, Result, Ok, Err, ⊤}
use Rattle.engine.specs.declared.Rule.{Rule}
use Rattle.engine.specs.declared.Rule.TheVariants.{NoRoom, ModelNotValid, NoCode, ConfigNotValid, NotThere, NotRunning, WrongKind, NoExit, NoMessage, PlaceMissing, Improper, NoTarget, TooEarly, CanDeliver}

-- the number that the rules give a refusal
abbrev pub number_named : Rule → ℕ
number_named NoRoom = 6
number_named ModelNotValid = 8
number_named NoCode = 9
number_named ConfigNotValid = 10
number_named NotThere = 11
number_named NotRunning = 12
number_named WrongKind = 13
number_named NoExit = 14
number_named NoMessage = 15
number_named PlaceMissing = 16
number_named Improper = 17
number_named NoTarget = 18
number_named TooEarly = 19
number_named CanDeliver = 20

-- the number of what was judged, 0 where nothing refuses
abbrev pub number_told : Result ⊤ Rule → ℕ
number_told (Ok done) = 0
number_told (Err why) = number_named why

-- the first rule that holds refuses
unfoldable pub first_refusal : List (Bool × Rule) → Result ⊤ Rule
first_refusal [] = Ok tt
first_refusal (rule ∷ rest) = cond rule.0 (Err rule.1) (first_refusal rest)
