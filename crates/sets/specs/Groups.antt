-- A line of things in groups: group 0 has the first `count 0` of them, group 1 the next `count 1`, and so on.
use Rattle.std.specs.Prelude.{cond, List, [], ◌++◌, ℕ, zero, suc, ◌+◌, ltb}
use Rattle.sets.specs.Below.{sum_below, table}

-- the place in the line of the k-th of group g
abbrev pub place_in : (ℕ → ℕ) → ℕ → ℕ → ℕ
place_in count g k = sum_below count g + k

-- a group in `size` places: nth 0, nth 1, .. count of them, the other places blank
unfoldable pub in_places : {A : Type 0} → ℕ → A → ℕ → (ℕ → A) → List A
in_places size blank count nth = table (λ k. cond (ltb k count) (nth k) blank) size

-- the line of the first n groups, where `item g k` is the k-th of group g
unfoldable pub lined : {A : Type 0} → (ℕ → ℕ) → (ℕ → ℕ → A) → ℕ → List A
lined count item zero = []
lined count item (suc n) = lined count item n ++ table (item n) (count n)
