-- What is right of a file's length, of a block and of a record: refusals 1, 3 and 4. (2 is a block's own: its check.)
use Rattle.std.specs.Prelude.{◌≡◌, ℕ, zero, suc, ◌+◌, ◌-◌, ◌%◌, ◌<◌, Bool, ◌&&◌, ◌||◌, not, cond, List, [], ltb, leb, eqb, length, get_or, drop}
use Rattle.sets.specs.Below.{all_below}
use Rattle.sets.specs.Tests.{within, all_zero}
use Rattle.blocks.specs.Blocks.{blocks, block_of, room_right, kind_of, used_of, record_of, record_no, count_of}
use Rattle.model.specs.Sizes.{block_bytes, most_records, most_blocks, most_subjects, most_states, keys}
use Rattle.model.specs.Records.{state_key, order_of, state_of, exit_of, row_of, blank_exits}
use Rattle.model.specs.Rules.{state_fits, exit_fits, row_fits}

-- 1: the length is 1 to 43 whole blocks
unfoldable pub length_right : List ℕ → Bool
length_right file = eqb (length file % block_bytes) 0 && within 1 (blocks file) most_blocks

-- ---- 3: block number, kind order, record count, fullness, unused room

-- block 0, and only it, is the header; later kinds are 2 to 4 and never fall
unfoldable pub kind_right : ℕ → ℕ → ℕ → Bool
kind_right b before kind = cond (eqb b 0) (eqb kind 1) (within 2 kind 4 && leb before kind)

-- a block with fewer than 42 records is wrong where the next block has its kind. With the kinds in order that is the rule "every
-- block but the last of its kind is full"; out of order, the block out of place is named
unfoldable pub full_right : ℕ → ℕ → ℕ → Bool
full_right used kind after = eqb used most_records || not (eqb after kind)

unfoldable pub block_right : List ℕ → ℕ → Bool
block_right file b =
    room_right b (block_of file b)
    && kind_right b (kind_of file (b - 1)) (kind_of file b)
    && full_right (used_of file b) (kind_of file b) (kind_of file (b + 1))

-- ---- 4: the record alone, after the one before it, and with the exit's own state record

-- the record before record i of block b, of the same kind; nothing before the first
unfoldable pub record_before : List ℕ → ℕ → ℕ → List ℕ
record_before file b i =
    cond (ltb 0 i) (record_of file b (i - 1))
    (cond (eqb (kind_of file (b - 1)) (kind_of file b)) (record_of file (b - 1) (most_records - 1)) [])

-- strictly ascending
abbrev pub ascends : List ℕ → ℕ → ℕ → Bool
ascends file b i = ltb (order_of (kind_of file b) (record_before file b i)) (order_of (kind_of file b) (record_of file b i))

-- the kind that the first n state records give to the subject and state of the key; 0 where none names it
unfoldable pub kind_among : List ℕ → ℕ → ℕ → ℕ
kind_among file key zero = 0
kind_among file key (suc n) = cond (eqb (state_key (record_no file 2 n)) key) (get_or (record_no file 2 n) 2 0) (kind_among file key n)

-- the kind of the exit's own state; 0 where its record is missing
abbrev pub own_kind : List ℕ → ℕ → ℕ
own_kind file key = kind_among file key (count_of file 2)

-- a table that has the kind of every state at its key
pub record Kinds (file kinds : List ℕ) : Type 0 where
  pub tells : (key : ℕ) → key < keys → get_or kinds key 0 ≡ own_kind file key

-- header, first: 1 to 16 subjects, n + 1 records; then one for each subject in order, with 1 to 32 states
unfoldable pub header_right : ℕ → ℕ → List ℕ → Bool
header_right used i r =
    cond (eqb i 0) (within 1 (get_or r 0 0) most_subjects && eqb used (get_or r 0 0 + 1)) (eqb (get_or r 0 0 + 1) i && within 1 (get_or r 1 0) most_states)
    && all_zero (drop 3 r)

-- an exit of a state of the given kind; where that state is missing, refusal 5 judges it
unfoldable pub exit_right : ℕ → List ℕ → Bool
exit_right kind r = eqb kind 0 || (exit_fits kind (exit_of r) && all_zero (drop 6 r))

unfoldable pub limit_right : List ℕ → Bool
limit_right r = row_fits (row_of r) && all_zero (drop 4 r)

-- the record's own fields
unfoldable pub fields_right : List ℕ → ℕ → List ℕ → Bool
fields_right file k r =
    cond (eqb k 2) (state_fits (state_of r blank_exits)) (cond (eqb k 3) (exit_right (own_kind file (state_key r)) r) (limit_right r))

unfoldable pub record_right : List ℕ → ℕ → ℕ → Bool
record_right file b i =
    cond (eqb (kind_of file b) 1) (header_right (used_of file b) i (record_of file b i))
    (ascends file b i && fields_right file (kind_of file b) (record_of file b i))

-- every record of block b is right
abbrev pub records_right : List ℕ → ℕ → Bool
records_right file b = all_below (record_right file b) (used_of file b)
