-- What holds along a run of commands, and after any commands from a fresh start.
use mathlib.Core.Path.{◌≡◌, refl}
use mathlib.Core.Bool.{Bool, true, false}
use mathlib.Core.List.{List, [], ◌∷◌}
use borrow.Author.Tests.{eqb-true, eqb-false}
use lib.Dec.{eqb}
use Rattle.sets.specs.Lists.{all_of}
use Rattle.sets.proofs.Tests.{and_both}
use Rattle.model.specs.Valid.{valid}
use Rattle.model.specs.declared.Model.{Model}
use Rattle.engine.specs.configs.Answers.{refusal_of}
use Rattle.engine.specs.configs.Fresh.{fresh_config, fresh_of}
use Rattle.engine.specs.configs.Subjects.{Held}
use Rattle.engine.specs.configs.Valid.{config_valid}
use Rattle.engine.specs.declared.Config.{Config}
use Rattle.engine.specs.commands.Rules.{guarded}
use Rattle.engine.specs.Steps.{acted, stepped}
use Rattle.engine.specs.declared.Command.{Command}
use Rattle.engine_promises.specs.Runs.{run_from}
use Rattle.engine_promises.proofs.Always.{refused_keeps, step_keeps, step_held, always_valid, always_held}
use Rattle.engine_promises.proofs.Refusals.{effect_of, accepted_is}
use Rattle.demands.specs.Shares.{at_last}

module _ (m : Model) (v : valid m ≡ true) (ok : Command → Bool) (Q : Config → Type 0)
    (keeps : (c : Config) (k : Command) → Held c → config_valid m c ≡ true → ok k ≡ true → refusal_of (stepped m c k).answer ≡ 0 → Q c → Q (effect_of m c k).config) where
  -- what each accepted command of a kind keeps, each command of that kind keeps: refused, it changes nothing
  step_along : (c : Config) (k : Command) → Held c → config_valid m c ≡ true → ok k ≡ true → Q c → Q (stepped m c k).config
  step_along c k h g o q = go (eqb (refusal_of (stepped m c k).answer) 0) refl
    where
      go : (b : Bool) → eqb (refusal_of (stepped m c k).answer) 0 ≡ b → Q (stepped m c k).config
      go true e = let fine = eqb-true _ 0 e in rw (accepted_is m c k fine) (keeps c k h g o fine q)
      go false e = rw (refused_keeps m c k (eqb-false _ 0 e)) q

  -- so any commands of that kind keep it
  pub along : (c : Config) (ks : List Command) → Held c → config_valid m c ≡ true → all_of ok ks ≡ true → Q c → Q (run_from m c ks)
  unfolding run_from all_of
  along c [] h g o q = q
  along c (k ∷ ks) h g o q =
      let b = and_both (ok k) (all_of ok ks) o in
      along (stepped m c k).config ks (step_held m c k v h g) (step_keeps m c k v h g) b.right (step_along c k h g b.left q)

-- ---- from a fresh start

module _ (m : Model) (v : valid m ≡ true) where
  -- a valid model has its fresh start
  pub fresh_is : (fresh_of m).config ≡ fresh_config m
  unfolding fresh_of
  fresh_is = rw v

  -- the machine can hold what comes after any commands
  pub last_held : (ks : List Command) → Held (at_last m ks)
  last_held ks = rw fresh_is (always_held m v ks)

  -- and it is valid
  pub last_valid : (ks : List Command) → config_valid m (at_last m ks) ≡ true
  last_valid ks = rw fresh_is (always_valid m v ks)

  -- in a valid configuration the other rules decide
  pub step_acts : (c : Config) (k : Command) → config_valid m c ≡ true → stepped m c k ≡ acted m c k
  unfolding stepped guarded
  step_acts c k g = rw (v, g)
