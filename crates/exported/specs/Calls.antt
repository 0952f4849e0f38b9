-- What the calls from other languages give. A model comes as its file; a configuration as its bytes. Of each call the
-- refusals stand in a list, each with its number, in the order in which they are judged: the first that holds is given, and
-- no byte of any buffer changes. Where none holds the answer is 0.
use Rattle.std.specs.Prelude.{Bool, not, cond, List, [], ◌∷◌, ◌++◌, ℕ, ◌+◌, ◌*◌, ◌/◌, eqb, ltb, get_or, length, Result, Ok, Err}
use Rattle.sets.specs.Below.{table}
use Rattle.blocks.specs.Verdicts as verdicts
use Rattle.model.specs.File.{file_of}
use Rattle.model.specs.Loading.{loaded}
use Rattle.model.specs.Valid.{valid}
use Rattle.model.specs.declared.Model.{Model}
use Rattle.engine.specs.configs.Answers.{values_of}
use Rattle.engine.specs.configs.Fresh.{fresh_of}
use Rattle.engine.specs.configs.Subjects.{here_of}
use Rattle.engine.specs.configs.Valid.{config_valid}
use Rattle.engine.specs.declared.Answer.{Answer}
use Rattle.engine.specs.declared.Config.{Config}
use Rattle.engine.specs.declared.NotAsked.{NotAsked}
use Rattle.engine.specs.configs.Answers.{share_refusal}
use Rattle.engine.specs.declared.Stepped.{Stepped}
use Rattle.engine.specs.commands.Codes.{subject_of, is_code, code_in, command_in}
use Rattle.engine.specs.commands.Rules.{rules, first_number}
use Rattle.engine.specs.Steps.{coded_step}
use Rattle.engine.specs.Tapes.{commands, config_after, ran, written}
use Rattle.sets.specs.Stores.{onto}
use Rattle.blocks.specs.Made.{two_bytes}
use Rattle.exported.specs.Bytes.{config_size, config_bytes, config_from, is_config, model_size, model_bytes, model_from, is_model}

-- a buffer after a call: as it was where a refusal holds
unfoldable pub unless_refused : List (Bool × ℕ) → List ℕ → List ℕ → List ℕ
unless_refused refusals old new = cond (eqb (first_number refusals) 0) new old

-- the model of a file: the empty one, which is not valid, where it is refused
abbrev pub model_in : List ℕ → Model
model_in file = (loaded file).model

-- the first eight bytes, zeros past the end
abbrev pub eight_of : List ℕ → List ℕ
eight_of b = table (λ i. get_or b i 0) 8

-- ---- load

-- the loader's refusal, and 256 times the block
abbrev pub loader_number : List ℕ → ℕ
loader_number file = verdicts.refusal_of (loaded file).verdict + 256 * verdicts.place_of (loaded file).verdict

-- 1 to 5: the loader's; 6: no room for the model's bytes
abbrev pub load_refusals : List ℕ → List ℕ → List (Bool × ℕ)
load_refusals file room = (not (eqb (loader_number file) 0), loader_number file) ∷ (ltb (length room) model_size, 6) ∷ []

abbrev pub load_room : List ℕ → List ℕ → List ℕ
load_room file room = unless_refused (load_refusals file room) room (onto (model_bytes (model_in file)) room)

-- ---- write

-- 8: no model's bytes, or a model that is not valid; 6: no room for its file
abbrev pub write_refusals : List ℕ → List ℕ → List (Bool × ℕ)
write_refusals model room =
    (not (is_model model), 8) ∷ (not (valid (model_from model)), 8) ∷ (ltb (length room) (length (file_of (model_from model))), 6) ∷ []

-- the refusal; where there is none, 256 times the length of the file
abbrev pub write_number : List ℕ → List ℕ → ℕ
write_number model room =
    cond (eqb (first_number (write_refusals model room)) 0) (256 * length (file_of (model_from model))) (first_number (write_refusals model room))

abbrev pub write_room : List ℕ → List ℕ → List ℕ
write_room model room = unless_refused (write_refusals model room) room (onto (file_of (model_from model)) room)

-- ---- fresh start

-- 8: model not valid; 6: no room for a configuration's bytes
abbrev pub fresh_refusals : List ℕ → List ℕ → List (Bool × ℕ)
fresh_refusals file config = (not (valid (model_in file)), 8) ∷ (ltb (length config) config_size, 6) ∷ []

abbrev pub fresh_room : List ℕ → List ℕ → List ℕ
fresh_room file config = unless_refused (fresh_refusals file config) config (onto (config_bytes (fresh_of (model_in file)).config) config)

-- ---- step

-- a step by a coded command on a configuration in bytes
abbrev pub step_in : List ℕ → List ℕ → List ℕ → Stepped
step_in file config command = coded_step (model_in file) (config_from config) (eight_of command)

-- 8: model not valid; 9: no such code; 10: no configuration, or not valid for the model; 6: no room for the values; then
-- the command's own, 11 to 20
abbrev pub step_refusals_of : Model → Config → List ℕ → Bool → Bool → List (Bool × ℕ)
step_refusals_of m c b right short =
    (not (valid m), 8)
    ∷ (not (is_code (code_in b)), 9)
    ∷ (not right, 10)
    ∷ (not (config_valid m c), 10)
    ∷ (short, 6)
    ∷ rules m.n (here_of m c (subject_of (command_in b))) c (command_in b)

abbrev pub step_refusals : List ℕ → List ℕ → List ℕ → List ℕ → List (Bool × ℕ)
step_refusals file config command values =
    step_refusals_of (model_in file) (config_from config) (eight_of command) (is_config config) (ltb (length values) 9)

-- the four masks in two bytes each, and the missing count
abbrev pub value_bytes : List ℕ → List ℕ
value_bytes v =
    two_bytes (get_or v 0 0) ++ (two_bytes (get_or v 1 0) ++ (two_bytes (get_or v 2 0) ++ (two_bytes (get_or v 3 0) ++ (get_or v 4 0 ∷ []))))

abbrev pub answer_bytes : Answer → List ℕ
answer_bytes answer = value_bytes (values_of answer)

abbrev pub step_room : List ℕ → List ℕ → List ℕ → List ℕ → List ℕ
step_room file config command values =
    unless_refused (step_refusals file config command values) config (onto (config_bytes (step_in file config command).config) config)

abbrev pub step_values : List ℕ → List ℕ → List ℕ → List ℕ → List ℕ
step_values file config command values =
    unless_refused (step_refusals file config command values) values (onto (answer_bytes (step_in file config command).answer) values)

-- ---- a whole tape

abbrev pub run_in : List ℕ → List ℕ → List ℕ → List ℕ → Stepped
run_in file config tape lines = ran (model_in file) (config_from config) tape (length lines)

-- 8: model not valid; 10: no configuration, or not valid for the model; 6: no room for the lines
abbrev pub run_refusals : List ℕ → List ℕ → List ℕ → List ℕ → List (Bool × ℕ)
run_refusals file config tape lines =
    (not (valid (model_in file)), 8)
    ∷ (not (is_config config), 10)
    ∷ (not (config_valid (model_in file) (config_from config)), 10)
    ∷ (ltb (length lines / 4) (commands tape), 6)
    ∷ []

abbrev pub run_room : List ℕ → List ℕ → List ℕ → List ℕ → List ℕ
run_room file config tape lines =
    unless_refused (run_refusals file config tape lines) config (onto (config_bytes (run_in file config tape lines).config) config)

abbrev pub run_lines : List ℕ → List ℕ → List ℕ → List ℕ → List ℕ
run_lines file config tape lines =
    unless_refused (run_refusals file config tape lines) lines (written (model_in file) (config_from config) tape lines)

-- ---- the commands of a tape by a step each

-- 8: model not valid; 10: no configuration, or not valid for the model
abbrev pub walk_refusals : List ℕ → List ℕ → List (Bool × ℕ)
walk_refusals file config =
    (not (valid (model_in file)), 8) ∷ (not (is_config config), 10) ∷ (not (config_valid (model_in file) (config_from config)), 10) ∷ []

-- a step that is refused changes nothing, and the walk goes on with the next command
abbrev pub walk_room : List ℕ → List ℕ → List ℕ → List ℕ
walk_room file config tape =
    unless_refused (walk_refusals file config) config (onto (config_bytes (config_after (model_in file) (config_from config) tape (commands tape))) config)

-- ---- the yes/no for a pool

-- yes is 1, no is 0; a refusal its number
abbrev pub share_number : Result Bool NotAsked → ℕ
share_number (Ok shared) = cond shared 1 0
share_number (Err why) = share_refusal (Err why)
