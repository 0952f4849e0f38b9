-- A mask as a set: `bit m k` is whether k is in it, and `members w m` its members below w, from the lowest.
use Rattle.std.specs.Prelude.{Bool, not, cond, List, ℕ, ◌+◌, ◌-◌, ◌/◌, ◌%◌, ◌^◌, eqb}
use Rattle.std.specs.Int.Count.{count_trailing_zeros}
use Rattle.sets.specs.Below.{table}
use Rattle.sets.specs.Lists.{passing}
use Rattle.sets.specs.declared.Parts.{Parts}

-- k is in the set
unfoldable pub bit : ℕ → ℕ → Bool
bit m k = eqb (m / 2 ^ k % 2) 1

-- the set with k, and without it
unfoldable pub with_bit : ℕ → ℕ → ℕ
with_bit m k = cond (bit m k) m (m + 2 ^ k)

unfoldable pub without_bit : ℕ → ℕ → ℕ
without_bit m k = cond (bit m k) (m - 2 ^ k) m

-- the members below w, from the lowest
unfoldable pub members : ℕ → ℕ → List ℕ
members w m = passing (bit m) (table (λ k. k) w)

-- the members of a that are not in b
unfoldable pub others : ℕ → ℕ → ℕ → List ℕ
others w a b = passing (λ k. not (bit b k)) (members w a)

-- the lowest member of a set of numbers below w, and the set of the others
abbrev pub parted : ℕ → ℕ → Parts
parted w m = record { first = count_trailing_zeros w m; rest = m - 2 ^ count_trailing_zeros w m }
