-- Runs of bytes: one out of many, and bytes in a buffer, stored from a place on.
use Rattle.std.specs.Prelude.{List, [], ◌∷◌, ◌++◌, ℕ, zero, suc, length, drop}
use Rattle.std.proofs.lemmas.List.Edits.{sets}

-- one run of bytes out of many
unfoldable pub joined : List (List ℕ) → List ℕ
joined [] = []
joined (r ∷ rs) = r ++ joined rs

-- f 0, f 1, .. f (n - 1), one behind the other
unfoldable pub each_of : (ℕ → List ℕ) → ℕ → List ℕ
each_of f zero = []
each_of f (suc n) = each_of f n ++ f n

-- the bytes at the start of a buffer, what is behind them unchanged
abbrev pub onto : List ℕ → List ℕ → List ℕ
onto bytes old = bytes ++ drop (length bytes) old

-- the buffer with the bytes from place p on, or a line of anything with some of it
unfoldable pub stored : {A : Type 0} → List A → ℕ → List A → List A
stored old p bytes = sets old p bytes
