-- The number and the block that the rules give for each verdict on a file.
use Rattle.std.specs.Prelude.{ℕ, Result, Ok, Err, ⊤}
use Rattle.blocks.specs.declared.Fault.{Fault}
use Rattle.blocks.specs.declared.Fault.TheVariants.{Length, Check, Block, Record, Across}

-- a file is good, or something is wrong with it
abbrev pub Verdict : Type 0
Verdict = Result ⊤ Fault

abbrev pub no_fault : Verdict
no_fault = Ok tt

-- the number of the refusal; 0 is none
abbrev pub refusal_of : Verdict → ℕ
refusal_of (Ok done) = 0
refusal_of (Err Length) = 1
refusal_of (Err (Check b)) = 2
refusal_of (Err (Block b)) = 3
refusal_of (Err (Record b)) = 4
refusal_of (Err Across) = 5

-- the block it names
abbrev pub place_of : Verdict → ℕ
place_of (Ok done) = 0
place_of (Err Length) = 0
place_of (Err (Check b)) = b
place_of (Err (Block b)) = b
place_of (Err (Record b)) = b
place_of (Err Across) = 0
