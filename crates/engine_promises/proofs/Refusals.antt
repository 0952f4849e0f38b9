-- Which rule a step was refused by, and what an accepted command tells.
use mathlib.Core.Path.{◌≡◌, refl, sym, ap, ◌∙◌}
use mathlib.Core.Logic.{◌≢◌}
use mathlib.Core.Bool.{Bool, true, false, not}
use mathlib.Core.List.{List, [], ◌∷◌}
use Prim.Native.Nat.{ℕ, suc, ◌<◌}
use borrow.Author.Tests.{not-false}
use Rattle.model.specs.Valid.{valid}
use Rattle.model.specs.declared.Model.{Model}
use Rattle.engine.specs.configs.Answers.{refusal_of}
use Rattle.engine.specs.configs.Subjects.{at, here_of}
use Rattle.engine.specs.configs.Valid.{config_valid}
use Rattle.engine.specs.declared.Config.{Config}
use Rattle.engine.specs.declared.Stepped.{Stepped}
use Rattle.engine.specs.commands.Codes.{subject_of, is_code, code_in, command_in}
use Rattle.engine.specs.commands.Exact.{holds_at, NoRule, rules_of, coded_rules}
use Rattle.engine.specs.commands.Rules.{some_improper, rules, guarded}
use Rattle.engine.specs.Steps.{effect, acts, ends_at, acted, stepped, coded_as, coded_step}
use Rattle.engine.specs.declared.Command.{Command}
use Rattle.engine.proofs.Cited.{n_low}
use Rattle.engine.proofs.RuleLaws.{ascends, guarded_append, first_refuses, none_refuses, none_holds, refusal_number, refusal_exact, accepted_exact, effect_accepted, rules_ascend, subject_below}
use Rattle.engine_promises.specs.Exact.{ByRules}

-- ---- any rules whose numbers ascend

module _ (c : Config) (list : List (Bool × ℕ)) (next : Stepped) (fine : refusal_of next.answer ≡ 0) where
  by_rules : ascends 0 list ≡ true → ByRules list c (guarded c list next)
  by_rules up =
      record {
        refusal = refusal_exact c list next fine up;
        accepted = accepted_exact c list next fine up;
        unchanged = first_refuses c list next;
      }

  -- what is refused changes nothing
  pub same_after : refusal_of (guarded c list next).answer ≢ 0 → (guarded c list next).config ≡ c
  same_after some =
      let r = (refusal_number c list next fine (refusal_of (guarded c list next).answer) some).0 refl in
      ap (λ (x : Stepped). x.config) (first_refuses c list next r.rule r.first)

-- ---- a step

-- what the command gives where no rule holds
abbrev pub effect_of : Model → Config → Command → Stepped
effect_of m c k = effect m.n m.subjects (here_of m c (subject_of k)) (ends_at m c k) c k

pub effect_fine : (m : Model) (c : Config) (k : Command) → refusal_of (effect_of m c k).answer ≡ 0
effect_fine m c k = effect_accepted m.n m.subjects (here_of m c (subject_of k)) (ends_at m c k) c k

module _ (m : Model) (c : Config) (k : Command) where
  -- the refusals, then the effect
  pub step_is : stepped m c k ≡ guarded c (rules_of m c k) (effect_of m c k)
  unfolding stepped acted acts
  step_is =
      sym (guarded_append c ((not (valid m), 8) ∷ (not (config_valid m c), 10) ∷ []) (rules m.n (here_of m c (subject_of k)) c k) (effect_of m c k))

  rules_up : ascends 0 (rules_of m c k) ≡ true
  unfolding ascends
  rules_up = rules_ascend m.n (here_of m c (subject_of k)) (at c (subject_of k)) (some_improper (here_of m c (subject_of k)) c) k

  pub step_exact : ByRules (rules_of m c k) c (stepped m c k)
  step_exact = rw step_is (by_rules c (rules_of m c k) (effect_of m c k) (effect_fine m c k) rules_up)

module _ (m : Model) (c : Config) (b : List ℕ) where
  pub coded_is : coded_step m c b ≡ guarded c (coded_rules m c b) (effect_of m c (command_in b))
  unfolding coded_as acted acts
  coded_is =
      sym
      (guarded_append
      c
      ((not (valid m), 8) ∷ (not (is_code (code_in b)), 9) ∷ (not (config_valid m c), 10) ∷ [])
      (rules m.n (here_of m c (subject_of (command_in b))) c (command_in b))
      (effect_of m c (command_in b)))

  coded_up : ascends 0 (coded_rules m c b) ≡ true
  unfolding ascends
  coded_up =
      let k = command_in b in
      rules_ascend m.n (here_of m c (subject_of k)) (at c (subject_of k)) (some_improper (here_of m c (subject_of k)) c) k

  pub coded_exact : ByRules (coded_rules m c b) c (coded_step m c b)
  coded_exact = rw coded_is (by_rules c (coded_rules m c b) (effect_of m c (command_in b)) (effect_fine m c (command_in b)) coded_up)

-- ---- an accepted command

-- what an accepted command tells: model and configuration are valid, its subject is there, and none of its rules holds
pub record Accepted (m : Model) (c : Config) (k : Command) : Type 0 where
  pub model : valid m ≡ true
  pub config : config_valid m c ≡ true
  pub there : subject_of k < m.n
  pub none : (j : ℕ) → holds_at (rules m.n (here_of m c (subject_of k)) c k) j ≡ false

module _ (m : Model) (c : Config) (k : Command) (fine : refusal_of (stepped m c k).answer ≡ 0) where
  no_rule : NoRule (rules_of m c k)
  no_rule = (step_exact m c k).accepted.0 fine

  -- it gives its effect
  pub accepted_is : stepped m c k ≡ effect_of m c k
  accepted_is = step_is m c k ∙ none_refuses c (rules_of m c k) (effect_of m c k) no_rule

  pub accepted_tells : Accepted m c k
  accepted_tells =
      let each = none_holds (rules_of m c k) no_rule in
      let right = not-false (valid m) (each 0) in
      record {
        model = right;
        config = not-false (config_valid m c) (each 1);
        there =
            subject_below m.n (here_of m c (subject_of k)) (at c (subject_of k)) (some_improper (here_of m c (subject_of k)) c) k (n_low m right)
            (record { none = λ j l. each (suc (suc j)) });
        none = λ j. each (suc (suc j));
      }
