-- A law of loading: the block that a refusal names is one of the file's.
use Rattle.blocks.specs.Verdicts.{Verdict}
use mathlib.Core.Path.{◌≡◌}
use mathlib.Core.List.{List}
use Prim.Native.Nat.{ℕ, ◌+◌, ◌*◌, ◌%◌, ◌≤◌, ◌<◌}
use native.Mathlib.Omega.{arith}
use lib.Dec.{eqb}
use lib.ListN.{length}
use Rattle.sets.specs.Tests.{within}
use Rattle.sets.proofs.Tests.{and_both, within_is}
use Rattle.blocks.specs.Blocks.{blocks}
use Rattle.blocks.specs.Verdicts.{refusal_of, place_of}
use Rattle.model.specs.Loading.{loaded}
use Rattle.model.specs.declared.Loaded.{Loaded}
use Rattle.model.specs.Sizes.{most_blocks}
use Rattle.model.specs.Stages.{length_right}
use Rattle.model_promises.specs.Loads.{Passes1, Means, wrong_length, wrong_check, wrong_block, wrong_record, wrong_across, all_right}
use Rattle.model_promises.proofs.Loads.{means}
use Rattle.exported.specs.Calls.{loader_number}

-- a file of the right length has at most 43 blocks
few_blocks : (file : List ℕ) → Passes1 file → blocks file ≤ most_blocks
unfolding length_right
few_blocks file h =
    (within_is 1 (blocks file) most_blocks (and_both (eqb (length file % 512) 0) (within 1 (blocks file) most_blocks) h).right).high

-- what a verdict means bounds the block that it names
place_below : (file : List ℕ) (v : Verdict) → Means file v → place_of v < 43
place_below file v (wrong_length e) = omega arith
place_below file v (wrong_check p w) = omega (arith, few_blocks file p, w.there)
place_below file v (wrong_block p q w) = omega (arith, few_blocks file p, w.there)
place_below file v (wrong_record p q r w) = omega (arith, few_blocks file p, w.there)
place_below file v (wrong_across p q r s e) = omega arith
place_below file v (all_right p q r s e) = omega arith

-- the block that a verdict names is below 43
pub load_place : (file : List ℕ) → place_of (loaded file).verdict < 43
load_place file = place_below file (loaded file).verdict (means file)

-- what a call of the loader gives as numbers: the block, and the refusal and 256 times the block
pub place_few : (file : List ℕ) (l : Loaded) (p : ℕ) → l ≡ loaded file → p ≡ place_of l.verdict → p < 43
place_few file l p e f = rw (f, e) (load_place file)

pub loader_is : (file : List ℕ) (l : Loaded) (r p : ℕ) → l ≡ loaded file → r ≡ refusal_of l.verdict → p ≡ place_of l.verdict → r + 256 * p ≡ loader_number file
loader_is file l r p e f g = rw (f, g, e)
