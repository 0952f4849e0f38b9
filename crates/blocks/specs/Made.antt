-- A block made of its records: number, kind and count before them, zeros behind them, and the check of all that.
use Rattle.std.specs.Prelude.{ℕ, ◌+◌, ◌-◌, ◌*◌, ◌/◌, ◌%◌, cond, ◌&&◌, List, [], ◌∷◌, ◌++◌, length, take, drop, replicate, nat_le, nat_lt}
use Rattle.sets.specs.Stores.{joined, stored}
use Rattle.blocks.specs.Blocks.{blocks}
use Rattle.blocks.specs.Checks.{check_of}

-- two bytes, low first
abbrev pub two_bytes : ℕ → List ℕ
two_bytes x = x % 256 ∷ x / 256 ∷ []

-- four bytes, low first
abbrev pub four_bytes : ℕ → List ℕ
four_bytes x = x % 256 ∷ x / 256 % 256 ∷ x / 65536 % 256 ∷ x / 16777216 ∷ []

-- bytes 0 to 507 of block b, of kind k, with so many records, whose bytes are given: unused room is zero
abbrev pub body_of : ℕ → ℕ → ℕ → List ℕ → List ℕ
body_of b k used bytes = two_bytes b ++ k ∷ used ∷ bytes ++ replicate (504 - 12 * used) 0

-- a body and its check
abbrev pub checked : List ℕ → List ℕ
checked body = body ++ four_bytes (check_of body)

-- with the records rs
unfoldable pub body_with : ℕ → ℕ → List (List ℕ) → List ℕ
body_with b k rs = body_of b k (length rs) (joined rs)

unfoldable pub block_with : ℕ → ℕ → List (List ℕ) → List ℕ
block_with b k rs = checked (body_with b k rs)

-- ---- in a buffer

-- record i of block b goes to its place; nothing changes where the block is not whole or i is not below 42
unfoldable pub with_record : List ℕ → ℕ → ℕ → List ℕ → List ℕ
with_record old b i r = cond (nat_lt b (blocks old) && nat_lt i 42) (stored old (b * 512 + (4 + i * 12)) r) old

-- the records that stand in block b, as one run of bytes
abbrev pub records_in : List ℕ → ℕ → ℕ → List ℕ
records_in old b used = take (12 * used) (drop (b * 512 + 4) old)

-- block b is closed with the records that stand there: number, kind, count, unused room and check; nothing changes where the
-- block is not whole, its number does not fit two bytes or it has more than 42 records
unfoldable pub sealed : List ℕ → ℕ → ℕ → ℕ → List ℕ
sealed old b kind used =
    cond (nat_lt b (blocks old) && nat_lt b 65536 && nat_le used 42) (stored old (b * 512) (checked (body_of b kind used (records_in old b used)))) old
