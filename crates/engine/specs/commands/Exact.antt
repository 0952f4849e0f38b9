-- What a refusal tells: which rule of a list is the first that holds.
use Rattle.std.specs.Prelude.{◌≡◌, Bool, true, false, not, List, ◌∷◌, ℕ, ◌<◌, length, get_or}
use Rattle.model.specs.Valid.{valid}
use Rattle.model.specs.declared.Model.{Model}
use Rattle.engine.specs.configs.Subjects.{here_of}
use Rattle.engine.specs.configs.Valid.{config_valid}
use Rattle.engine.specs.declared.Config.{Config}
use Rattle.engine.specs.commands.Codes.{subject_of, is_code, code_in, command_in}
use Rattle.engine.specs.commands.Rules.{rules}
use Rattle.engine.specs.declared.Command.{Command}

-- whether rule i holds, and its number; past the last, none holds
abbrev pub holds_at : List (Bool × ℕ) → ℕ → Bool
holds_at list i = (get_or list i (false, 0)).0

abbrev pub number_at : List (Bool × ℕ) → ℕ → ℕ
number_at list i = (get_or list i (false, 0)).1

-- rule i is the first that holds
pub record FirstRule (list : List (Bool × ℕ)) (i : ℕ) : Type 0 where
  pub below : i < length list
  pub holds : holds_at list i ≡ true
  pub before : (j : ℕ) → j < i → holds_at list j ≡ false

-- no rule holds
pub record NoRule (list : List (Bool × ℕ)) : Type 0 where
  pub none : (j : ℕ) → j < length list → holds_at list j ≡ false

-- every rule of a step with its number, in order
abbrev pub rules_of : Model → Config → Command → List (Bool × ℕ)
rules_of m c k = (not (valid m), 8) ∷ (not (config_valid m c), 10) ∷ rules m.n (here_of m c (subject_of k)) c k

-- and of a step by a coded command
abbrev pub coded_rules : Model → Config → List ℕ → List (Bool × ℕ)
coded_rules m c b =
    (not (valid m), 8)
    ∷ (not (is_code (code_in b)), 9)
    ∷ (not (config_valid m c), 10)
    ∷ rules m.n (here_of m c (subject_of (command_in b))) c (command_in b)
