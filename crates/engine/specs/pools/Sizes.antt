-- The size of a pool.
use Rattle.std.specs.Prelude.{ℕ}

-- entries of a pool
abbrev pub most_entries : ℕ
most_entries = 16
