-- A pool is the list of its entries in order of arrival: `held p`. The struct is how the list is stored, in so many places: `pooled places es`.
use Rattle.std.specs.Prelude.{◌≡◌, Bool, not, List, [], ◌∷◌, ◌++◌, map, ℕ, ◌≤◌, length, take, get_or, Option}
use Rattle.sets.specs.Lists.{some_of, passing, counted, first_from, without, padded}
use Rattle.model.specs.Rules.{any}
use Rattle.engine.specs.pools.Entries.{blank_entry, is_message, reserved_by, delivered}
use Rattle.engine.specs.declared.Entry.{Entry}
use Rattle.engine.specs.declared.Pool.{Pool}
use Rattle.engine.specs.declared.Taken.{Taken}

unfoldable pub held : Pool → List Entry
held p = take p.count p.entries

-- the place of the earliest message that matches
unfoldable pub first_message : ℕ → ℕ → List Entry → Option ℕ
first_message sender typ es = first_from 0 (is_message sender typ) es

-- a message is there, and not reservations alone
unfoldable pub has_message : List Entry → Bool
has_message es = some_of (λ e. e.message) es

-- how many reservations of the sender, of the type or any
unfoldable pub reservations : ℕ → ℕ → List Entry → ℕ
reservations sender typ es = counted (reserved_by sender typ) es

-- a pool of so many places
module _ (places : ℕ) where
  -- the entries in their places, the unused ones blank
  unfoldable pub pooled : List Entry → Pool
  pooled es = record { entries = padded places blank_entry es; count = length es }

  -- one more entry, at the end
  unfoldable pub appended : Pool → Entry → Pool
  appended p e = pooled (held p ++ (e ∷ []))

  -- the content of the entry at place i, and the pool without it
  unfoldable pub taken_at : Pool → ℕ → Taken
  taken_at p i = record { content = (get_or (held p) i blank_entry).content; pool = pooled (without i (held p)) }

  -- the reservations of the sender become messages with the word, each at its place
  unfoldable pub delivered_in : ℕ → ℕ → Pool → Pool
  delivered_in sender word p = pooled (map (delivered sender word) (held p))

  -- the reservations of the sender leave, the others keep their order
  unfoldable pub withdrawn_from : ℕ → Pool → Pool
  withdrawn_from sender p = pooled (passing (λ e. not (reserved_by sender any e)) (held p))

  -- a pool that stores its list: no more entries than places, and the unused places blank
  pub record Well (p : Pool) : Type 0 where
    pub small : p.count ≤ places
    pub exact : p.entries ≡ padded places blank_entry (held p)
