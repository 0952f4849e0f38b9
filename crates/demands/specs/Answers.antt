-- Demand 1: every file, command and configuration, good or bad, gets an answer. A refusal carries its number, and what is
-- refused hands back what went in. That each call ends, whatever it is given, is what a proved contract without `requires` says.
use Rattle.std.specs.Prelude.{◌≡◌, ◌≢◌, true, false, List, [], ◌∷◌, ℕ, length}
use Rattle.sets.specs.Lists.{is_one_of}
use Rattle.blocks.specs.Verdicts as verdicts
use Rattle.model.specs.Loading.{empty_model, loaded}
use Rattle.model.specs.declared.Model.{Model}
use Rattle.engine.specs.pools.Sizes.{most_entries}
use Rattle.engine.specs.configs.Answers.{refusal_of, is_yes, share_refusal, refused}
use Rattle.engine.specs.configs.Fresh.{fresh_of}
use Rattle.engine.specs.configs.Shares.{share_of}
use Rattle.engine.specs.configs.Subjects.{zero_config}
use Rattle.engine.specs.declared.Config.{Config}
use Rattle.engine.specs.declared.Stepped.{Stepped}
use Rattle.engine.specs.Steps.{stepped, coded_step}
use Rattle.engine.specs.Tapes.{ran, written}
use Rattle.engine.specs.declared.Command.{Command}

-- the answer is accepted or has one of these numbers; with a number it is nothing but the number and this configuration
pub record Answers (numbers : List ℕ) (back : Config) (answered : Stepped) : Type 0 where
  pub number : is_one_of (0 ∷ numbers) (refusal_of answered.answer) ≡ true
  pub refused_so : refusal_of answered.answer ≢ 0 → answered ≡ refused back (refusal_of answered.answer)

-- what each call answers, for every input
pub record EveryCallAnswers : Type 0 where
  pub load : (file : List ℕ) → is_one_of (0 ∷ 1 ∷ 2 ∷ 3 ∷ 4 ∷ 5 ∷ []) (verdicts.refusal_of (loaded file).verdict) ≡ true
  pub load_refused : (file : List ℕ) → verdicts.refusal_of (loaded file).verdict ≢ 0 → (loaded file).model ≡ empty_model
  pub fresh : (m : Model) → Answers (8 ∷ []) zero_config (fresh_of m)
  pub step : (m : Model) (c : Config) (k : Command)
      → Answers (8 ∷ 10 ∷ 11 ∷ 12 ∷ 13 ∷ 14 ∷ 15 ∷ 16 ∷ 17 ∷ 18 ∷ 19 ∷ 20 ∷ []) c (stepped m c k)
  pub step_coded : (m : Model) (c : Config) (b : List ℕ)
      → Answers (8 ∷ 9 ∷ 10 ∷ 11 ∷ 12 ∷ 13 ∷ 14 ∷ 15 ∷ 16 ∷ 17 ∷ 18 ∷ 19 ∷ 20 ∷ []) c (coded_step m c b)
  pub shared : (m : Model) (owner : ℕ) → is_one_of (0 ∷ 8 ∷ 11 ∷ []) (share_refusal (share_of most_entries m owner)) ≡ true
  pub shared_refused : (m : Model) (owner : ℕ) → share_refusal (share_of most_entries m owner) ≢ 0 → is_yes (share_of most_entries m owner) ≡ false
  pub run : (m : Model) (c : Config) (tape : List ℕ) (room : ℕ) → Answers (8 ∷ 10 ∷ 6 ∷ []) c (ran m c tape room)
  pub run_refused : (m : Model) (c : Config) (tape lines : List ℕ)
      → refusal_of (ran m c tape (length lines)).answer ≢ 0 → written m c tape lines ≡ lines
