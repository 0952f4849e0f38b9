-- How the records of a kind are written: one behind the other, and each block is closed when it is full or when the kind ends.
use Rattle.std.specs.Prelude.{◌≡◌, ℕ, ◌+◌, ◌*◌, ◌≤◌, true, cond, List, eqb, length, take, drop}
use Rattle.sets.specs.Stores.{each_of}
use Rattle.blocks.specs.Made.{block_with, with_record, sealed}
use Rattle.model.specs.Sizes.{most_records}
use Rattle.model.specs.File.{records_of, blocks_for, start_of}
use Rattle.model.specs.Valid.{valid}
use Rattle.model.specs.declared.Model.{Model}
use Rattle.model.specs.declared.writing.Line.{Line}

-- the model is valid, and the buffer has room for its file
abbrev pub HasRoom : Model → List ℕ → Type 0
HasRoom m buffer = (valid m ≡ true) × (start_of (records_of m) 5 * 512 ≤ length buffer)

-- the line after one more record
unfoldable pub next_of : Line → Line
next_of line = cond (eqb line.used 41) (record { kind = line.kind; block = line.block + 1; used = 0 }) (record { kind = line.kind; block = line.block; used = line.used + 1 })

-- the buffer after one more record: the block that it fills is closed
unfoldable pub put_on : List ℕ → Line → List ℕ → List ℕ
put_on old line r =
    cond (eqb line.used 41)
    (sealed (with_record old line.block line.used r) line.block line.kind most_records)
    (with_record old line.block line.used r)

-- the block behind the last of a kind, and the buffer where that last one is closed: it is already where it is full
unfoldable pub end_of : Line → ℕ
end_of line = cond (eqb line.used 0) line.block (line.block + 1)

unfoldable pub end_on : List ℕ → Line → List ℕ
end_on old line = cond (eqb line.used 0) old (sealed old line.block line.kind line.used)

-- all blocks of kind k, where `rs j` are the records of kind j
unfoldable pub kind_blocks : (ℕ → List (List ℕ)) → ℕ → List ℕ
kind_blocks rs k = each_of (λ q. block_with (start_of rs k + q) k (take most_records (drop (q * most_records) (rs k)))) (blocks_for (length (rs k)))
