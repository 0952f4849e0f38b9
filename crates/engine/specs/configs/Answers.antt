-- The answers, with the number and the values of each case.
use Rattle.std.specs.Prelude.{Bool, false, List, [], ◌∷◌, ℕ, Result, Ok, Err}
use Rattle.engine.specs.declared.Answer.{Answer}
use Rattle.engine.specs.declared.Answer.TheVariants.{Done, Reserved, Refused}
use Rattle.engine.specs.declared.Config.{Config}
use Rattle.engine.specs.declared.NotAsked.{NotAsked}
use Rattle.engine.specs.declared.NotAsked.TheVariants.{ModelNotValid, NoSubject}
use Rattle.engine.specs.declared.Stepped.{Stepped}

-- the refusal: 0 is accepted
abbrev pub refusal_of : Answer → ℕ
refusal_of Done = 0
refusal_of (Reserved placed improper closed full missing) = 0
refusal_of (Refused number) = number

-- the rest of the answer: placed now, improper, closed, full, and the number of receivers still without a place
abbrev pub values_of : Answer → List ℕ
values_of Done = 0 ∷ 0 ∷ 0 ∷ 0 ∷ 0 ∷ []
values_of (Reserved placed improper closed full missing) = placed ∷ improper ∷ closed ∷ full ∷ missing ∷ []
values_of (Refused number) = 0 ∷ 0 ∷ 0 ∷ 0 ∷ 0 ∷ []

-- a refusal hands back the configuration that went in
abbrev pub refused : Config → ℕ → Stepped
refused c number = record { config = c; answer = Refused number }

-- accepted, with nothing to say but the configuration
abbrev pub done : Config → Stepped
done c = record { config = c; answer = Done }

-- the yes/no for a pool: refused, the answer is no
abbrev pub is_yes : Result Bool NotAsked → Bool
is_yes (Ok shared) = shared
is_yes (Err why) = false

abbrev pub share_refusal : Result Bool NotAsked → ℕ
share_refusal (Ok shared) = 0
share_refusal (Err ModelNotValid) = 8
share_refusal (Err NoSubject) = 11
