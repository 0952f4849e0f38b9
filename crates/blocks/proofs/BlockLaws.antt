-- Laws of blocks and records as parts of a file.
use Rattle.std.proofs.Common.{◌≡◌, ℕ, ◌+◌, ◌*◌, ◌/◌, ◌%◌, ◌<◌, ◌≤◌, Bool, true, false, ◌&&◌, ltb, List, [], length, take, drop, refl, ◌∙◌, arith, length-drop, length-take, ltb-false, ltb-true, le-ltb, lt-ltb}
use Rattle.sets.proofs.Bytes.{Bytes, none, take_bytes, drop_bytes}
use Rattle.sets.proofs.Tests.{choose}
use Rattle.blocks.specs.Blocks.{blocks, block_of, used_in, record_in, record_of, record_from}

-- a whole block, and one that is not
pub block_here : (file : List ℕ) (b : ℕ) → b < blocks file → block_of file b ≡ take 512 (drop (b * 512) file)
unfolding block_of
block_here file b h = rw (lt-ltb _ _ h)

pub block_gone : (file : List ℕ) (b : ℕ) → blocks file ≤ b → block_of file b ≡ []
unfolding block_of
block_gone file b h = rw (le-ltb _ _ h)

pub block_length : (file : List ℕ) (b : ℕ) → b < blocks file → length (block_of file b) ≡ 512
block_length file b h =
    rw (block_here file b h) (length-take 512 (drop (b * 512) file) ∙ omega (arith, length-drop (b * 512) file))

-- a block of less than 512 bytes has none
pub block_short : (file : List ℕ) (b : ℕ) → length (block_of file b) < 512 → block_of file b ≡ []
block_short file b h = go (ltb b (blocks file)) refl
  where
    go : (t : Bool) → ltb b (blocks file) ≡ t → block_of file b ≡ []
    go true e = absurd (omega (arith, block_length file b (ltb-true _ _ e)))
    go false e = block_gone file b (ltb-false _ _ e)

pub record_gone : (file : List ℕ) (b i : ℕ) → blocks file ≤ b → record_of file b i ≡ []
unfolding record_of record_in
record_gone file b i h = rw (block_gone file b h, le-ltb i 0 (omega arith))

-- a record in use
module _ (block : List ℕ) (i : ℕ) where
  pub record_here : i < used_in block → i < 42 → record_in block i ≡ take 12 (drop (4 + i * 12) block)
  unfolding record_in
  record_here h l = rw (lt-ltb _ _ h, lt-ltb _ _ l)

-- ---- the parts of a file of bytes are bytes

block_bytes_lem : (file : List ℕ) (b : ℕ) → Bytes file → Bytes (block_of file b)
unfolding block_of
block_bytes_lem file b h = choose Bytes (ltb b (blocks file)) (λ _. take_bytes 512 (drop_bytes (b * 512) h)) (λ _. none)

pub record_bytes : (file : List ℕ) (b i : ℕ) → Bytes file → Bytes (record_of file b i)
unfolding record_of record_in
record_bytes file b i h =
    choose Bytes (ltb i (used_in (block_of file b)) && ltb i 42) (λ _. take_bytes 12 (drop_bytes (4 + i * 12) (block_bytes_lem file b h))) (λ _. none)

pub record_from_bytes : (file : List ℕ) (first j : ℕ) → Bytes file → Bytes (record_from file first j)
unfolding record_from
record_from_bytes file first j h = record_bytes file (first + j / 42) (j % 42) h
