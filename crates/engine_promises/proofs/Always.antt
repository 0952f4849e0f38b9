-- From a fresh start every command leads to a valid configuration.
use mathlib.Core.Path.{◌≡◌}
use mathlib.Core.Logic.{◌≢◌}
use mathlib.Core.Bool.{true, not}
use mathlib.Core.List.{List, [], ◌∷◌}
use Prim.Native.Nat.{ℕ}
use Rattle.model.specs.Valid.{valid}
use Rattle.model.specs.declared.Model.{Model}
use Rattle.engine.specs.configs.Answers.{refusal_of}
use Rattle.engine.specs.configs.Fresh.{fresh_config}
use Rattle.engine.specs.configs.Subjects.{Held}
use Rattle.engine.specs.configs.Valid.{config_valid}
use Rattle.engine.specs.declared.Config.{Config}
use Rattle.engine.proofs.Cited.{fresh_held, fresh_valid}
use Rattle.engine.specs.commands.Codes.{command_in}
use Rattle.engine.specs.commands.Exact.{rules_of, coded_rules}
use Rattle.engine.specs.Steps.{acted, stepped, coded_step}
use Rattle.engine.specs.Tapes.{config_after}
use Rattle.engine.specs.declared.Command.{Command}
use Rattle.engine.proofs.Kept.{kept}
use Rattle.engine.proofs.RuleLaws.{guarded_keeps}
use Rattle.engine_promises.specs.Runs.{run_from, commands_of}
use Rattle.engine_promises.proofs.Refusals.{same_after, effect_of, effect_fine, step_is, coded_is}
use Rattle.engine_promises.proofs.TapeRuns.{tapes_are_runs}

-- ---- refused: nothing changes

pub refused_keeps : (m : Model) (c : Config) (k : Command) → refusal_of (stepped m c k).answer ≢ 0 → (stepped m c k).config ≡ c
refused_keeps m c k some =
    rw (step_is m c k) (same_after c (rules_of m c k) (effect_of m c k) (effect_fine m c k) (rw (step_is m c k) at some))

pub coded_refused_keeps : (m : Model) (c : Config) (b : List ℕ) → refusal_of (coded_step m c b).answer ≢ 0 → (coded_step m c b).config ≡ c
coded_refused_keeps m c b some =
    rw (coded_is m c b)
    (same_after c (coded_rules m c b) (effect_of m c (command_in b)) (effect_fine m c (command_in b)) (rw (coded_is m c b) at some))

-- ---- a step keeps validity

-- valid, and one that the machine can hold
record Sane (m : Model) (c : Config) : Type 0 where
  right : config_valid m c ≡ true
  held : Held c

module _ (m : Model) (v : valid m ≡ true) where
  acted_sane : (c : Config) (k : Command) → Sane m c → Sane m (acted m c k).config
  acted_sane c k g = let r = kept m c k v g.held g.right in record { right = r.0; held = r.1 }

  step_sane : (c : Config) (k : Command) → Sane m c → Sane m (stepped m c k).config
  unfolding stepped
  step_sane c k g =
      guarded_keeps (Sane m) c ((not (valid m), 8) ∷ (not (config_valid m c), 10) ∷ []) (acted m c k) g (acted_sane c k g)

  run_sane : (c : Config) (ks : List Command) → Sane m c → Sane m (run_from m c ks)
  unfolding run_from
  run_sane c [] g = g
  run_sane c (k ∷ ks) g = run_sane (stepped m c k).config ks (step_sane c k g)

  fresh_sane : Sane m (fresh_config m)
  fresh_sane = record { right = fresh_valid m v; held = fresh_held m }

-- ---- the same in terms of the definitions alone

pub fresh_is_valid : (m : Model) → valid m ≡ true → config_valid m (fresh_config m) ≡ true
fresh_is_valid m v = (fresh_sane m v).right

module _ (m : Model) (c : Config) (k : Command) (v : valid m ≡ true) (h : Held c) (g : config_valid m c ≡ true) where
  pub step_keeps : config_valid m (stepped m c k).config ≡ true
  step_keeps = (step_sane m v c k (record { right = g; held = h })).right

  pub step_held : Held (stepped m c k).config
  step_held = (step_sane m v c k (record { right = g; held = h })).held

module _ (m : Model) (v : valid m ≡ true) where
  -- after any commands
  pub always_valid : (ks : List Command) → config_valid m (run_from m (fresh_config m) ks) ≡ true
  always_valid ks = (run_sane m v (fresh_config m) ks (fresh_sane m v)).right

  pub always_held : (ks : List Command) → Held (run_from m (fresh_config m) ks)
  always_held ks = (run_sane m v (fresh_config m) ks (fresh_sane m v)).held

  -- after the first i commands of any tape
  pub always_valid_coded : (tape : List ℕ) (i : ℕ) → config_valid m (config_after m (fresh_config m) tape i) ≡ true
  always_valid_coded tape i = rw (tapes_are_runs.tape m (fresh_config m) tape i) (always_valid (commands_of tape i))

  pub always_held_coded : (tape : List ℕ) (i : ℕ) → Held (config_after m (fresh_config m) tape i)
  always_held_coded tape i = rw (tapes_are_runs.tape m (fresh_config m) tape i) (always_held (commands_of tape i))
