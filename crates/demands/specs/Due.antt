-- A timeout and a delivery due together: which of Expire and Deliver is accepted.
use Rattle.std.specs.Prelude.{◌≡◌, ◌↔◌, ◌≢◌, true, ℕ, ◌<◌, ◌≤◌}
use Rattle.sets.specs.Masks.{bit}
use Rattle.model.specs.Rules.{none}
use Rattle.model.specs.Valid.{valid}
use Rattle.model.specs.declared.Model.{Model}
use Rattle.engine.specs.configs.Answers.{refusal_of}
use Rattle.engine.specs.configs.Subjects.{running, ended_improperly, at, here_of}
use Rattle.engine.specs.configs.Valid.{config_valid}
use Rattle.engine.specs.declared.Config.{Config}
use Rattle.engine.specs.Steps.{stepped}
use Rattle.engine.specs.declared.Command.{Command}
use Rattle.engine.specs.declared.Command.TheVariants.{Deliver, Expire}

-- the number of the refusal, 0 for accepted
abbrev pub step_refusal : Model → Config → Command → ℕ
step_refusal m c k = refusal_of (stepped m c k).answer

-- every receiver has a place of s, and none has ended improperly
pub record CanBeDelivered (m : Model) (c : Config) (s : ℕ) : Type 0 where
  pub placed : (r : ℕ) → bit (here_of m c s).receivers r ≡ true → bit (at c s).mask r ≡ true
  pub proper : (r : ℕ) → bit (here_of m c s).receivers r ≡ true → (at c r).mode ≢ ended_improperly

-- there is a timeout, and its duration is over
pub record TimeIsOver (m : Model) (c : Config) (s : ℕ) : Type 0 where
  pub target : (here_of m c s).timeout ≢ none
  pub late : (here_of m c s).after ≤ (at c s).waited

-- s is in a send state
pub record InSend (m : Model) (c : Config) (s : ℕ) : Type 0 where
  pub there : s < m.n
  pub runs : (at c s).mode ≡ running
  pub sends : (here_of m c s).kind ≡ 2

-- Deliver is accepted exactly when the send can be delivered; Expire exactly when the time is over and it cannot; where
-- both are due Deliver is accepted and Expire refused with 20; never both are accepted
pub record OneOfTwo (m : Model) (c : Config) (s : ℕ) : Type 0 where
  pub delivers : (step_refusal m c (Deliver s) ≡ 0) ↔ CanBeDelivered m c s
  pub expires : (step_refusal m c (Expire s) ≡ 0) ↔ (TimeIsOver m c s × (¬ CanBeDelivered m c s))
  pub both_due : TimeIsOver m c s → CanBeDelivered m c s → (step_refusal m c (Deliver s) ≡ 0) × (step_refusal m c (Expire s) ≡ 20)
  pub never_both : step_refusal m c (Deliver s) ≡ 0 → step_refusal m c (Expire s) ≢ 0

abbrev pub DueTogether : Type 0
DueTogether = (m : Model) (c : Config) (s : ℕ) → valid m ≡ true → config_valid m c ≡ true → InSend m c s → OneOfTwo m c s
