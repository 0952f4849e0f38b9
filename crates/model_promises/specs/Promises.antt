-- What is promised of model files, each statement by its name.
use Rattle.std.specs.Prelude.{◌≡◌, true, false, ◌↔◌, ◌≢◌, List, ℕ, ◌≤◌, ◌<◌, length, get_or, take, Ok}
use Rattle.sets.specs.Stores.{onto}
use Rattle.model.specs.File.{file_of}
use Rattle.model.specs.Loading.{loaded, across_right, empty_model}
use Rattle.model.specs.Valid.{valid, Held}
use Rattle.model.specs.Writing.{refusal_of, length_of, written_as, buffer_of}
use Rattle.model.specs.declared.Model.{Model}
use Rattle.blocks.specs.Verdicts.{Verdict, no_fault}
use Rattle.model_promises.specs.Across.{row_five}
use Rattle.model_promises.specs.Loads.{AreBytes, LoadsTo, Passes1, Passes3, Passes4, Means}
use Rattle.model_promises.specs.Samples.{model_p}

-- ---- the verdict

-- the verdict on a file means what it says
abbrev pub VerdictMeans : Type 0
VerdictMeans = (file : List ℕ) → Means file (loaded file).verdict

-- the other way round: where it is so, that verdict is given
abbrev pub VerdictMeant : Type 0
VerdictMeant = (file : List ℕ) (v : Verdict) → Means file v → (loaded file).verdict ≡ v

-- where the stages before it pass, refusal 5 is given for what it lists and for nothing else
abbrev pub OnlyFive : Type 0
OnlyFive = (file : List ℕ) → AreBytes file → Passes1 file → Passes3 file → Passes4 file → across_right file ≡ row_five file

-- a file that is refused gives the empty model
abbrev pub RefusedEmpty : Type 0
RefusedEmpty = (file : List ℕ) → ((loaded file).verdict ≡ no_fault → ⊥) → (loaded file).model ≡ empty_model

-- ---- the model

-- what loads is valid
abbrev pub LoadsValid : Type 0
LoadsValid = (file : List ℕ) (m : Model) → LoadsTo file m → valid m ≡ true

-- what loads from bytes is a model that the machine can hold
abbrev pub LoadsHeld : Type 0
LoadsHeld = (file : List ℕ) (m : Model) → AreBytes file → LoadsTo file m → Held m

-- a valid model that the machine can hold is loaded from its own file
abbrev pub ValidLoads : Type 0
ValidLoads = (m : Model) → Held m → valid m ≡ true → AreBytes (file_of m) × LoadsTo (file_of m) m

-- a model that the machine can hold is valid exactly when some file of bytes loads to it
abbrev pub ValidExactly : Type 0
ValidExactly = (m : Model) → Held m → (valid m ≡ true) ↔ ((file : List ℕ) × AreBytes file × LoadsTo file m)

-- one file for each model: bytes load to a model that the machine can hold exactly when the model is valid and they are its file
abbrev pub OneFile : Type 0
OneFile = (file : List ℕ) (m : Model) → AreBytes file → Held m → LoadsTo file m ↔ ((valid m ≡ true) × (file ≡ file_of m))

-- model P loads from its own file
abbrev pub PLoads : Type 0
PLoads = AreBytes (file_of model_p) × LoadsTo (file_of model_p) model_p

-- ---- writing

-- the answer and the buffer after the call that writes a model, for every model and every buffer
pub record WritesExactly : Type 0 where
  -- 8 exactly where the model is not valid, whatever the buffer
  pub not_valid : (m : Model) (room : ℕ) → (refusal_of (written_as m room) ≡ 8) ↔ (valid m ≡ false)
  -- 6 exactly where it is valid and the buffer is shorter than its file
  pub too_short : (m : Model) (room : ℕ) → (refusal_of (written_as m room) ≡ 6) ↔ ((valid m ≡ true) × (room < length (file_of m)))
  -- accepted exactly where it is valid and its file has room: a buffer of the file's length is enough
  pub accepted : (m : Model) (room : ℕ) → (refusal_of (written_as m room) ≡ 0) ↔ ((valid m ≡ true) × (length (file_of m) ≤ room))
  -- refused: the length is 0, and no byte of the buffer changes
  pub refused : (m : Model) (old : List ℕ) → refusal_of (written_as m (length old)) ≢ 0 → (length_of (written_as m (length old)) ≡ 0) × (buffer_of m old ≡ old)
  -- accepted: the buffer begins with the file
  pub begins : (m : Model) (old : List ℕ) → refusal_of (written_as m (length old)) ≡ 0 → take (length_of (written_as m (length old))) (buffer_of m old) ≡ file_of m
  -- every byte behind the file stays as it was
  pub behind : (m : Model) (old : List ℕ) (i : ℕ) → length_of (written_as m (length old)) ≤ i → get_or (buffer_of m old) i 0 ≡ get_or old i 0
  -- what is written loads to the same model
  pub loads : (m : Model) (old : List ℕ) → Held m → refusal_of (written_as m (length old)) ≡ 0
      → LoadsTo (take (length_of (written_as m (length old))) (buffer_of m old)) m
  -- a file of bytes that loads, when written, gives the same bytes
  pub back : (file : List ℕ) (m : Model) (old : List ℕ) → AreBytes file → LoadsTo file m → length file ≤ length old
      → (written_as m (length old) ≡ Ok (length file)) × (buffer_of m old ≡ onto file old)
