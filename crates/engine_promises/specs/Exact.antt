-- A refusal is given when its rule holds and no earlier one does, and at no other time.
use Rattle.std.specs.Prelude.{◌≡◌, ◌↔◌, Bool, List, ℕ, ◌<◌, length}
use Rattle.engine.specs.configs.Answers.{refusal_of, refused}
use Rattle.engine.specs.declared.Config.{Config}
use Rattle.engine.specs.declared.Stepped.{Stepped}
use Rattle.engine.specs.commands.Exact.{number_at, FirstRule, NoRule}

-- what is answered on c by these rules
pub record ByRules (list : List (Bool × ℕ)) (c : Config) (answered : Stepped) : Type 0 where
  -- the refusal is that of rule i exactly when rule i is the first that holds
  pub refusal : (i : ℕ) → i < length list → (refusal_of answered.answer ≡ number_at list i) ↔ FirstRule list i
  -- it is 0 exactly when no rule holds
  pub accepted : (refusal_of answered.answer ≡ 0) ↔ NoRule list
  -- refused, it hands back the configuration that went in, the rest of the answer 0
  pub unchanged : (i : ℕ) → FirstRule list i → answered ≡ refused c (number_at list i)
