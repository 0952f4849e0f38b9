-- Every call answers: with 0 or one of its numbers, and what is refused hands back what went in.
use Rattle.std.specs.Prelude.{Ok, Err, Result}
use mathlib.Core.Path.{◌≡◌, refl, ap, ◌∙◌}
use mathlib.Core.Logic.{◌≢◌}
use mathlib.Core.Bool.{Bool, true, false}
use mathlib.Core.List.{List, [], ◌∷◌}
use Prim.Native.Nat.{ℕ}
use lib.Dec.{ltb}
use Rattle.sets.specs.Lists.{all_of, is_one_of}
use Rattle.sets.proofs.Lists.{one_more}
use Rattle.sets.proofs.Tests.{choose}
use Rattle.blocks.specs.Verdicts as verdicts
use Rattle.blocks.specs.Verdicts.{Verdict, no_fault}
use Rattle.blocks.specs.declared.Fault.TheVariants.{Length, Check, Block, Record, Across}
use Rattle.model.specs.Loading.{loaded}
use Rattle.model.specs.Valid.{valid}
use Rattle.model.specs.declared.Model.{Model}
use Rattle.model_promises.proofs.Loads.{refused_empty}
use Rattle.engine.specs.pools.Sizes.{most_entries}
use Rattle.engine.specs.configs.Answers.{refusal_of, is_yes, share_refusal, refused, done}
use Rattle.engine.specs.configs.Fresh.{fresh_config, fresh_of}
use Rattle.engine.specs.configs.Shares.{shared_out, share_of}
use Rattle.engine.specs.configs.Subjects.{zero_config}
use Rattle.engine.specs.declared.Config.{Config}
use Rattle.engine.specs.declared.NotAsked.{NotAsked}
use Rattle.engine.specs.declared.Stepped.{Stepped}
use Rattle.engine.specs.commands.Codes.{command_in}
use Rattle.engine.specs.commands.Exact.{rules_of, coded_rules}
use Rattle.engine.specs.commands.Rules.{guarded}
use Rattle.engine.specs.Steps.{stepped, coded_step}
use Rattle.engine.specs.Tapes.{commands, config_after, run_rules, ran}
use Rattle.engine.specs.declared.Command.{Command}
use Rattle.engine.proofs.RuleLaws.{guarded_refusal, first_refuses, number_in_lem, refusal_number, own_numbers_lem}
use Rattle.engine.proofs.TapeLaws.{refused_unwritten}
use Rattle.engine_promises.proofs.Refusals.{effect_of, effect_fine, step_is, coded_is}
use Rattle.demands.specs.Answers.{Answers, EveryCallAnswers}

-- ---- by any rules

-- accepted, whatever the numbers
answers_accepted : (ks : List ℕ) (c : Config) (r : Stepped) → refusal_of r.answer ≡ 0 → Answers ks c r
unfolding is_one_of
answers_accepted ks c r fine = record { number = rw fine; refused_so = λ some. absurd (some fine) }

-- refused with one of the numbers
answers_refused : (ks : List ℕ) (c : Config) (k : ℕ) → is_one_of ks k ≡ true → Answers ks c (refused c k)
answers_refused ks c k h = record { number = one_more 0 ks k h; refused_so = λ _. refl }

-- rules with such numbers, before what is accepted
answers_by : (ks : List ℕ) (c : Config) (list : List (Bool × ℕ)) (next : Stepped) → refusal_of next.answer ≡ 0
    → all_of (λ (rule : Bool × ℕ). is_one_of ks rule.1) list ≡ true → Answers ks c (guarded c list next)
answers_by ks c list next fine all =
    record {
      number = rw (guarded_refusal c list next fine) (number_in_lem ks list all);
      refused_so = λ some.
          let r = (refusal_number c list next fine _ some).0 refl in
          first_refuses c list next r.rule r.first ∙ ap (refused c) r.number;
    }

-- ---- each call

-- every verdict has a number from 0 to 5
load_number : (v : Verdict) → is_one_of (0 ∷ 1 ∷ 2 ∷ 3 ∷ 4 ∷ 5 ∷ []) (verdicts.refusal_of v) ≡ true
unfolding is_one_of
load_number (Ok done) = refl
load_number (Err Length) = refl
load_number (Err (Check b)) = refl
load_number (Err (Block b)) = refl
load_number (Err (Record b)) = refl
load_number (Err Across) = refl

-- 8, and the all-zero configuration
fresh_answers : (m : Model) → Answers (8 ∷ []) zero_config (fresh_of m)
unfolding fresh_of is_one_of
fresh_answers m =
    choose (Answers (8 ∷ []) zero_config) (valid m) (λ _. answers_accepted (8 ∷ []) zero_config (done (fresh_config m)) refl) (λ _. answers_refused (8 ∷ []) zero_config 8 refl)

-- a refusal has the number 8 or 11, and is no yes
record ShareAnswers (x : Result Bool NotAsked) : Type 0 where
  number : is_one_of (0 ∷ 8 ∷ 11 ∷ []) (share_refusal x) ≡ true
  refused_no : share_refusal x ≢ 0 → is_yes x ≡ false

-- so the yes/no for a pool
share_answers : (m : Model) (owner : ℕ) → ShareAnswers (share_of most_entries m owner)
unfolding share_of is_one_of
share_answers m owner =
    choose ShareAnswers (valid m)
    (λ _.
    choose ShareAnswers (ltb owner m.n)
    (λ _. record { number = refl; refused_no = λ some. absurd (some refl) })
    (λ _. record { number = refl; refused_no = λ _. refl }))
    (λ _. record { number = refl; refused_no = λ _. refl })

-- 8 and 10, then those of the command
step_answers : (m : Model) (c : Config) (k : Command)
    → Answers (8 ∷ 10 ∷ 11 ∷ 12 ∷ 13 ∷ 14 ∷ 15 ∷ 16 ∷ 17 ∷ 18 ∷ 19 ∷ 20 ∷ []) c (stepped m c k)
unfolding is_one_of all_of
step_answers m c k =
    rw (step_is m c k) (answers_by _ c (rules_of m c k) (effect_of m c k) (effect_fine m c k) (own_numbers_lem (8 ∷ 10 ∷ []) _ _ _ _ k))

-- and for a coded one 9 between them
coded_answers : (m : Model) (c : Config) (b : List ℕ)
    → Answers (8 ∷ 9 ∷ 10 ∷ 11 ∷ 12 ∷ 13 ∷ 14 ∷ 15 ∷ 16 ∷ 17 ∷ 18 ∷ 19 ∷ 20 ∷ []) c (coded_step m c b)
unfolding is_one_of all_of
coded_answers m c b =
    let k = command_in b in
    rw (coded_is m c b) (answers_by _ c (coded_rules m c b) (effect_of m c k) (effect_fine m c k) (own_numbers_lem (8 ∷ 9 ∷ 10 ∷ []) _ _ _ _ k))

-- 8, 10 or 6, and the configuration that went in
run_answers : (m : Model) (c : Config) (tape : List ℕ) (room : ℕ) → Answers (8 ∷ 10 ∷ 6 ∷ []) c (ran m c tape room)
unfolding ran is_one_of all_of
run_answers m c tape room = answers_by (8 ∷ 10 ∷ 6 ∷ []) c (run_rules m c tape room) (done (config_after m c tape (commands tape))) refl refl

-- every call answers, for every input
pub every_call_answers : EveryCallAnswers
every_call_answers =
    record {
      load = λ file. load_number (loaded file).verdict;
      load_refused = λ file some. refused_empty file (λ good. some (ap verdicts.refusal_of good));
      fresh = fresh_answers;
      step = step_answers;
      step_coded = coded_answers;
      shared = λ m owner. (share_answers m owner).number;
      shared_refused = λ m owner. (share_answers m owner).refused_no;
      run = run_answers;
      run_refused = refused_unwritten;
    }
