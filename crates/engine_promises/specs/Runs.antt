-- Commands one after the other, and the commands of a tape.
use Rattle.std.specs.Prelude.{◌≡◌, cond, List, [], ◌∷◌, ◌++◌, ℕ, zero, suc}
use Rattle.model.specs.declared.Model.{Model}
use Rattle.engine.specs.configs.Answers.{refusal_of}
use Rattle.engine.specs.declared.Config.{Config}
use Rattle.engine.specs.commands.Codes.{is_code, code_in, command_in}
use Rattle.engine.specs.Steps.{stepped, coded_step}
use Rattle.engine.specs.Tapes.{commands, bytes_at, config_after, ran}
use Rattle.engine.specs.declared.Command.{Command}

-- the configuration after a list of commands
unfoldable pub run_from : Model → Config → List Command → Config
run_from m c [] = c
run_from m c (k ∷ ks) = run_from m (stepped m c k).config ks

-- the command that eight bytes code; with another code than 1 to 8 there is none
unfoldable pub commands_in : List ℕ → List Command
commands_in b = cond (is_code (code_in b)) (command_in b ∷ []) []

-- the commands of a tape up to its i-th, in order
unfoldable pub commands_of : List ℕ → ℕ → List Command
commands_of tape zero = []
commands_of tape (suc i) = commands_of tape i ++ commands_in (bytes_at tape i)

-- the calls that go on from a configuration; a run has a buffer with room for so many numbers
pub data Call : Type 0 where
  step : Command → Call
  step_coded : List ℕ → Call
  run : List ℕ → ℕ → Call

-- the configuration that a call hands back
unfoldable pub leads_to : Model → Config → Call → Config
leads_to m c (step k) = (stepped m c k).config
leads_to m c (step_coded b) = (coded_step m c b).config
leads_to m c (run tape room) = (ran m c tape room).config

-- after calls, one after the other
unfoldable pub after_calls : Model → Config → List Call → Config
after_calls m c [] = c
after_calls m c (call ∷ rest) = after_calls m (leads_to m c call) rest

-- whatever the calls, where they lead commands lead one after the other; for a coded command, a tape up to its i-th command
-- and an accepted run they are the commands that it codes
pub record TapesAreRuns : Type 0 where
  pub coded : (m : Model) (c : Config) (b : List ℕ) → (coded_step m c b).config ≡ run_from m c (commands_in b)
  pub tape : (m : Model) (c : Config) (tape : List ℕ) (i : ℕ) → config_after m c tape i ≡ run_from m c (commands_of tape i)
  pub whole : (m : Model) (c : Config) (tape : List ℕ) (room : ℕ) → refusal_of (ran m c tape room).answer ≡ 0
      → (ran m c tape room).config ≡ run_from m c (commands_of tape (commands tape))
  pub calls : (m : Model) (c : Config) (calls : List Call) → (ks : List Command) × (after_calls m c calls ≡ run_from m c ks)
