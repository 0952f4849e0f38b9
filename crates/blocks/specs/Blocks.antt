-- Where things stand in a file: blocks of 512 bytes, in each up to 42 records of 12 bytes.
use Rattle.std.specs.Prelude.{ℕ, ◌+◌, ◌*◌, ◌/◌, ◌%◌, Bool, cond, ◌&&◌, ltb, List, [], length, take, drop, ◌==◌, nat_lt, slice_index}
use Rattle.sets.specs.Below.{sum_below, count_below}
use Rattle.sets.specs.Tests.{within, all_zero}
use Rattle.blocks.specs.Checks.{check_of}

-- how many whole blocks a file has
abbrev pub blocks : List ℕ → ℕ
blocks file = length file / 512

-- block b, counted from 0; nothing where it is not whole
unfoldable pub block_of : List ℕ → ℕ → List ℕ
block_of file b = cond (nat_lt b (blocks file)) (take 512 (drop (b * 512) file)) []

-- ---- the parts of a block

-- bytes 0 and 1: its number
abbrev pub number_in : List ℕ → ℕ
number_in block = slice_index block 0 + 256 * slice_index block 1

-- byte 2: its kind, 1 header, 2 states, 3 exits, 4 limits
abbrev pub kind_in : List ℕ → ℕ
kind_in block = slice_index block 2

-- byte 3: how many records are used
abbrev pub used_in : List ℕ → ℕ
used_in block = slice_index block 3

-- bytes 0 to 507: what the check is of
abbrev pub body_in : List ℕ → List ℕ
body_in block = take 508 block

-- bytes 508 to 511: the check, low byte first
abbrev pub check_in : List ℕ → ℕ
check_in block = slice_index block 508 + 256 * slice_index block 509 + 65536 * slice_index block 510 + 16777216 * slice_index block 511

-- the twelve bytes of record i as they stand in the block; nothing where i is not below both the record count and 42
unfoldable pub record_in : List ℕ → ℕ → List ℕ
record_in block i = cond (nat_lt i (used_in block) && nat_lt i 42) (take 12 (drop (4 + i * 12) block)) []

-- record i of block b
unfoldable pub record_of : List ℕ → ℕ → ℕ → List ℕ
record_of file b i = record_in (block_of file b) i

-- ---- what is right of a block by itself

-- the check of a block is that of its bytes
unfoldable pub check_right : List ℕ → Bool
check_right block = check_in block == check_of (body_in block)

-- number, count and unused room of a block
unfoldable pub room_right : ℕ → List ℕ → Bool
room_right b block = number_in block == b && within 1 (used_in block) 42 && all_zero (drop (4 + 12 * used_in block) (body_in block))

-- ---- the same by the block's number

abbrev pub kind_of : List ℕ → ℕ → ℕ
kind_of file b = kind_in (block_of file b)

abbrev pub used_of : List ℕ → ℕ → ℕ
used_of file b = used_in (block_of file b)

-- ---- the records of one kind, by number

-- the first block of kind k, where the kinds never fall: as many blocks are of an earlier kind
unfoldable pub first_block : List ℕ → ℕ → ℕ
first_block file k = count_below (λ b. ltb (kind_of file b) k) (blocks file)

-- how many records of kind k there are
unfoldable pub count_of : List ℕ → ℕ → ℕ
count_of file k = sum_below (λ b. cond (kind_of file b == k) (used_of file b) 0) (blocks file)

-- record j, counted from block `first` on, where every block but the last is full
unfoldable pub record_from : List ℕ → ℕ → ℕ → List ℕ
record_from file first j = record_of file (first + j / 42) (j % 42)

-- record j of kind k
abbrev pub record_no : List ℕ → ℕ → ℕ → List ℕ
record_no file k j = record_from file (first_block file k) j
