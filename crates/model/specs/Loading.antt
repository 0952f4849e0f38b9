-- Loading: the first refusal that holds, stage by stage over the whole file; else the model.
use Rattle.std.specs.Prelude.{ℕ, Bool, ◌&&◌, cond, List, replicate, Option, Some, None, Err}
use Rattle.sets.specs.Below.{first_not}
use Rattle.blocks.specs.Blocks.{blocks, block_of, check_right}
use Rattle.model.specs.Sizes.{most_subjects, state_places, most_exits_in_all}
use Rattle.model.specs.Decoded.{model_of, in_place}
use Rattle.model.specs.Records.{blank_exit, blank_stored, blank_subject}
use Rattle.model.specs.Stages.{length_right, block_right, records_right}
use Rattle.model.specs.Valid.{valid}
use Rattle.model.specs.declared.Loaded.{Loaded}
use Rattle.model.specs.declared.Model.{Model}
use Rattle.blocks.specs.Verdicts.{no_fault}
use Rattle.blocks.specs.declared.Fault.{Fault}
use Rattle.blocks.specs.declared.Fault.TheVariants.{Length, Check, Block, Record, Across}

-- no subjects
unfoldable pub empty_model : Model
empty_model =
    record {
      n = 0;
      start = 0;
      subjects = replicate most_subjects blank_subject;
      states = replicate state_places blank_stored;
      exits = replicate most_exits_in_all blank_exit;
    }

-- a file is refused: the empty model, and why
abbrev pub not_loaded : Fault → Loaded
not_loaded why = record { model = empty_model; verdict = Err why }

-- the first block that fails a test refuses the file; where none does, what comes next decides
abbrev pub unless_at : Option ℕ → (ℕ → Fault) → Loaded → Loaded
unless_at (Some b) why next = not_loaded (why b)
unless_at None why next = next

-- any rule across records
abbrev pub across_right : List ℕ → Bool
across_right file = in_place file && valid (model_of file)

-- 5, or the model
unfoldable pub across_or : List ℕ → Loaded
across_or file = cond (across_right file) (record { model = model_of file; verdict = no_fault }) (not_loaded Across)

unfoldable pub loaded : List ℕ → Loaded
loaded file =
    cond (length_right file)
    (unless_at (first_not (λ b. check_right (block_of file b)) (blocks file)) Check
    (unless_at (first_not (block_right file) (blocks file)) Block
    (unless_at (first_not (records_right file) (blocks file)) Record
    (across_or file))))
    (not_loaded Length)
