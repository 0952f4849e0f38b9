-- Engines that do not meet the contract of a step. An engine is any function of the step's type.
use Rattle.std.specs.Prelude.{◌≡◌, ◌≢◌, true, not, ◌&&◌, List, [], ◌∷◌, ℕ, ◌+◌, eqb}
use Rattle.std.specs.Int.Count.{ones}
use Rattle.sets.specs.Lists.{all_of}
use Rattle.sets.specs.Masks.{bit}
use Rattle.model.specs.Valid as models
use Rattle.model.specs.declared.Model.{Model}
use Rattle.engine.specs.configs.Answers.{refusal_of}
use Rattle.engine.specs.configs.Subjects.{at, here_of, Held}
use Rattle.engine.specs.declared.Answer.TheVariants.{Reserved}
use Rattle.engine.specs.declared.Config.{Config}
use Rattle.engine.specs.declared.Stepped.{Stepped}
use Rattle.engine.specs.commands.Codes.{names, subject_of}
use Rattle.engine.specs.Steps.{stepped}
use Rattle.engine.specs.declared.Command.{Command}
use Rattle.engine.specs.declared.Command.TheVariants.{Reserve}

abbrev pub Engine : Type 0
Engine = Model → Config → Command → Stepped

-- it meets the contract of `step` on every model and configuration that the machine can hold
abbrev pub Meets : Engine → Type 0
Meets f = (m : Model) (c : Config) (k : Command) → models.Held m → Held c → f m c k ≡ stepped m c k

-- none that meets the contract is so
abbrev pub ShutOut : (Engine → Type 0) → Type 0
ShutOut bad = (f : Engine) → Meets f → ¬ bad f

-- it refuses everything
abbrev pub RefusesAll : Engine → Type 0
RefusesAll f = (m : Model) (c : Config) (k : Command) → models.Held m → Held c → refusal_of (f m c k).answer ≢ 0

-- it has one constant result
pub record Constant (f : Engine) : Type 0 where
  pub result : Stepped
  pub always : (m : Model) (c : Config) (k : Command) → models.Held m → Held c → f m c k ≡ result

-- it returns the configuration untouched
abbrev pub Untouched : Engine → Type 0
Untouched f = (m : Model) (c : Config) (k : Command) → models.Held m → Held c → (f m c k).config ≡ c

-- the configuration after a list of commands by that engine
unfoldable pub run_by : Engine → Model → Config → List Command → Config
run_by f m c [] = c
run_by f m c (k ∷ ks) = run_by f m (f m c k).config ks

-- it places all at the first Reserve: after an accepted one every receiver is in the mask
abbrev pub PlacesAllAtOnce : Engine → Type 0
PlacesAllAtOnce f = (m : Model) (c : Config) (s : ℕ) → models.Held m → Held c → refusal_of (f m c (Reserve s)).answer ≡ 0
    → (r : ℕ) → bit (here_of m c s).receivers r ≡ true → bit (at (f m c (Reserve s)).config s).mask r ≡ true

-- it fakes later ones: after a Reserve of s, and whatever others then do, the next Reserve of s puts nothing into any pool
abbrev pub FakesLaterOnes : Engine → Type 0
FakesLaterOnes f = (m : Model) (c : Config) (s : ℕ) (ks : List Command) → models.Held m → Held c
    → all_of (λ k. names k && not (eqb (subject_of k) s)) ks ≡ true
    → (r : ℕ)
    → (at (f m (run_by f m (f m c (Reserve s)).config ks) (Reserve s)).config r).pool
    ≡ (at (run_by f m (f m c (Reserve s)).config ks) r).pool

-- it invents the missing count: once it is not the ones in the improper, closed and full masks
pub record InventsMissing (f : Engine) : Type 0 where
  pub m : Model
  pub c : Config
  pub s : ℕ
  pub held_model : models.Held m
  pub held_config : Held c
  pub placed : ℕ
  pub improper : ℕ
  pub closed : ℕ
  pub full : ℕ
  pub missing : ℕ
  pub answers : (f m c (Reserve s)).answer ≡ Reserved placed improper closed full missing
  pub invented : missing ≢ ones improper + ones closed + ones full

-- all of them
pub record WrongEnginesShutOut : Type 0 where
  pub refuses_all : ShutOut RefusesAll
  pub constant : ShutOut Constant
  pub untouched : ShutOut Untouched
  pub places_all_at_once : ShutOut PlacesAllAtOnce
  pub fakes_later_ones : ShutOut FakesLaterOnes
  pub invents_missing : ShutOut InventsMissing
