-- A valid pool, of so many places, of an owner in a model of n subjects.
use Rattle.std.specs.Prelude.{Bool, ◌&&◌, ◌||◌, cond, ℕ, eqb, leb, ltb, get_or}
use Rattle.sets.specs.Below.{all_below}
use Rattle.model.specs.Rules.{is_type}
use Rattle.model.specs.declared.Subject.{Subject}
use Rattle.engine.specs.pools.Entries.{blank_entry, is_blank_entry}
use Rattle.engine.specs.pools.Pools.{held}
use Rattle.engine.specs.pools.Rows.{rows_kept}
use Rattle.engine.specs.declared.Entry.{Entry}
use Rattle.engine.specs.declared.Pool.{Pool}

-- no more entries than places
abbrev pub pool_fits : ℕ → Pool → Bool
pool_fits places p = leb p.count places

-- reservations have content 0
abbrev pub content_right : Entry → Bool
content_right e = e.message || eqb e.content 0

-- senders are below n
abbrev pub sender_there : ℕ → Entry → Bool
sender_there n e = ltb e.sender n

-- types are below 32
abbrev pub type_there : Entry → Bool
type_there e = is_type e.typ

unfoldable pub entry_valid : ℕ → Entry → Bool
entry_valid n e = content_right e && (sender_there n e && type_there e)

-- place i: a valid entry if the pool has one there; unused entries are all zero
unfoldable pub place_valid : ℕ → Pool → ℕ → Bool
place_valid n p i = cond (ltb i p.count) (entry_valid n (get_or p.entries i blank_entry)) (is_blank_entry (get_or p.entries i blank_entry))

-- every limit row is kept
abbrev pub limits_kept : Subject → Pool → Bool
limits_kept owner p = rows_kept owner (held p)

unfoldable pub pool_valid : ℕ → ℕ → Subject → Pool → Bool
pool_valid places n owner p = pool_fits places p && (all_below (place_valid n p) places && limits_kept owner p)

-- a pool of nobody: all zero
unfoldable pub is_blank_pool : ℕ → Pool → Bool
is_blank_pool places p = eqb p.count 0 && all_below (λ i. is_blank_entry (get_or p.entries i blank_entry)) places
