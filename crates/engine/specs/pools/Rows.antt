-- The limit rows of a pool's owner: whether they are kept, and whether there is room for one more entry.
use Rattle.std.specs.Prelude.{Bool, ◌&&◌, ◌||◌, not, List, ℕ, leb, ltb, length}
use Rattle.sets.specs.Below.{all_below}
use Rattle.sets.specs.Lists.{counted}
use Rattle.model.specs.Sizes.{most_rows}
use Rattle.model.specs.Valid.{row_at}
use Rattle.model.specs.declared.Row.{Row}
use Rattle.model.specs.declared.Subject.{Subject}
use Rattle.engine.specs.pools.Entries.{fits, matches}
use Rattle.engine.specs.declared.Entry.{Entry}

-- how many entries, reservations included, match the row
unfoldable pub row_count : Row → List Entry → ℕ
row_count w es = counted (matches w.sender w.typ) es

-- at most its limit of entries match the row
unfoldable pub row_kept : List Entry → Row → Bool
row_kept es w = leb (row_count w es) w.limit

-- the row leaves room for an entry of this sender and type
unfoldable pub row_has_room : ℕ → ℕ → List Entry → Row → Bool
row_has_room sender typ es w = not (fits w.sender sender && fits w.typ typ) || ltb (row_count w es) w.limit

-- a test of each row that the owner has
abbrev pub each_row : (Row → Bool) → Subject → Bool
each_row p owner = all_below (λ k. not (ltb k owner.rows) || p (row_at owner k)) most_rows

-- every limit row is kept
unfoldable pub rows_kept : Subject → List Entry → Bool
rows_kept owner es = each_row (row_kept es) owner

-- not full: of so many places one is free, and every matching row has room
unfoldable pub has_room : ℕ → Subject → List Entry → ℕ → ℕ → Bool
has_room places owner es sender typ = ltb (length es) places && each_row (row_has_room sender typ es) owner
