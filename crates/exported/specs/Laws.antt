-- What is promised of configurations and models as bytes: what was written is read back, and what is read is written the same.
use Rattle.std.specs.Prelude.{◌≡◌, true, List, ℕ, ◌*◌, ◌≤◌, length, take}
use Rattle.sets.specs.Stores.{onto}
use Rattle.blocks.specs.Verdicts.{no_fault}
use Rattle.model.specs.Loading.{loaded}
use Rattle.model.specs.Valid as model_valid
use Rattle.model.specs.declared.Model.{Model}
use Rattle.model_promises.specs.Loads.{AreBytes}
use Rattle.engine.specs.configs.Subjects.{Held}
use Rattle.engine.specs.declared.Config.{Config}
use Rattle.exported.specs.Bytes.{config_size, config_bytes, config_from, is_config, model_size, model_bytes, model_from, is_model}
use Rattle.exported.specs.Calls.{model_in, write_number, write_room}

-- every configuration in the machine is `Held`: arrays of their length and masks of their width
pub record WrittenIsRead : Type 0 where
  -- its bytes are a configuration's
  pub accepted : (c : Config) → is_config (config_bytes c) ≡ true
  -- and say the same configuration
  pub back : (c : Config) → Held c → config_from (config_bytes c) ≡ c
  -- the bytes of a configuration are written as they were read
  pub same : (b : List ℕ) → AreBytes b → is_config b ≡ true → config_bytes (config_from b) ≡ take config_size b

-- of models, where every model in the machine is `Held`
pub record ModelWrittenIsRead : Type 0 where
  -- the bytes of a valid model are a model's
  pub accepted : (m : Model) → model_valid.valid m ≡ true → is_model (model_bytes m) ≡ true
  -- and say the same model
  pub back : (m : Model) → model_valid.Held m → model_valid.valid m ≡ true → model_from (model_bytes m) ≡ m
  -- the bytes of a model are written as they were read
  pub same : (b : List ℕ) → AreBytes b → is_model b ≡ true → model_bytes (model_from b) ≡ take model_size b

-- a file of bytes that loads, written from the bytes of its model, is the same file
abbrev pub FileWrittenBack : Type 0
FileWrittenBack =
    (file room : List ℕ) → AreBytes file → (loaded file).verdict ≡ no_fault → length file ≤ length room
    → (write_number (model_bytes (model_in file)) room ≡ 256 * length file) × (write_room (model_bytes (model_in file)) room ≡ onto file room)
