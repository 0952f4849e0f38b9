-- What the theorems about loading speak of.
use Rattle.std.specs.Prelude.{◌≡◌, true, false, List, ℕ, ◌<◌, get_or, Err}
use Rattle.blocks.specs.Blocks.{blocks, block_of, check_right}
use Rattle.model.specs.Loading.{loaded, across_right}
use Rattle.model.specs.Stages.{length_right, block_right, records_right}
use Rattle.model.specs.declared.Model.{Model}
use Rattle.blocks.specs.Verdicts.{Verdict, no_fault}
use Rattle.blocks.specs.declared.Fault.TheVariants.{Length, Check, Block, Record, Across}

-- every number of the file is a byte
abbrev pub AreBytes : List ℕ → Type 0
AreBytes file = (i : ℕ) → get_or file i 0 < 256

-- the file loads, to the model m
abbrev pub LoadsTo : List ℕ → Model → Type 0
LoadsTo file m = loaded file ≡ record { model = m; verdict = no_fault }

-- stages 1, 2, 3 and 4 find nothing wrong
abbrev pub Passes1 : List ℕ → Type 0
Passes1 file = length_right file ≡ true

abbrev pub Passes2 : List ℕ → Type 0
Passes2 file = (b : ℕ) → b < blocks file → check_right (block_of file b) ≡ true

abbrev pub Passes3 : List ℕ → Type 0
Passes3 file = (b : ℕ) → b < blocks file → block_right file b ≡ true

abbrev pub Passes4 : List ℕ → Type 0
Passes4 file = (b : ℕ) → b < blocks file → records_right file b ≡ true

-- b is the first block of the file of which the test is false
pub record FirstWrong (test : ℕ → Type 0) (wrong : ℕ → Type 0) (file : List ℕ) (b : ℕ) : Type 0 where
  pub there : b < blocks file
  pub is_wrong : wrong b
  pub before : (a : ℕ) → a < b → test a

-- what each verdict means
pub data Means (file : List ℕ) : Verdict → Type 0 where
  -- refusal 1: the length is wrong
  wrong_length : length_right file ≡ false → Means file (Err Length)
  -- refusal 2: the length is right; the check of block b is wrong, and every earlier one is right
  wrong_check : {b : ℕ} → Passes1 file
      → FirstWrong (λ a. check_right (block_of file a) ≡ true) (λ a. check_right (block_of file a) ≡ false) file b → Means file (Err (Check b))
  -- refusal 3: every check is right; block b is wrong, and every earlier one is right
  wrong_block : {b : ℕ} → Passes1 file → Passes2 file
      → FirstWrong (λ a. block_right file a ≡ true) (λ a. block_right file a ≡ false) file b → Means file (Err (Block b))
  -- refusal 4: every block is right; block b has a record that is wrong, and no earlier one has
  wrong_record : {b : ℕ} → Passes1 file → Passes2 file → Passes3 file
      → FirstWrong (λ a. records_right file a ≡ true) (λ a. records_right file a ≡ false) file b → Means file (Err (Record b))
  -- refusal 5: every record is right, and a rule across records is broken
  wrong_across : Passes1 file → Passes2 file → Passes3 file → Passes4 file → across_right file ≡ false → Means file (Err Across)
  -- no refusal: everything is right
  all_right : Passes1 file → Passes2 file → Passes3 file → Passes4 file → across_right file ≡ true → Means file no_fault
