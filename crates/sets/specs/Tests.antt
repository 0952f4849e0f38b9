-- Tests on numbers and on lists of bytes that both layers use.
use Rattle.std.specs.Prelude.{Bool, ◌&&◌, not, cond, List, ℕ, ◌+◌, ◌*◌, ◌/◌, ◌^◌, leb, eqb, get_or, length}
use Rattle.sets.specs.Below.{all_below}

-- x is from lo to hi
abbrev pub within : ℕ → ℕ → ℕ → Bool
within lo x hi = leb lo x && leb x hi

-- both hold, or neither
abbrev pub same : Bool → Bool → Bool
same a b = cond a b (not b)

-- two bytes from place k on, the low one first
abbrev pub word_at : List ℕ → ℕ → ℕ
word_at s k = get_or s k 0 + 256 * get_or s (k + 1) 0

-- every byte is zero
unfoldable pub all_zero : List ℕ → Bool
all_zero s = all_below (λ i. eqb (get_or s i 0) 0) (length s)

-- no member of the mask is n or more
abbrev pub none_from : ℕ → ℕ → Bool
none_from n mask = eqb (mask / 2 ^ n) 0
