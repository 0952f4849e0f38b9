-- Tests, sums, searches and tables over the numbers 0, 1, .. n - 1.
use Rattle.std.specs.Prelude.{Bool, true, ◌&&◌, not, cond, List, [], ◌∷◌, ◌++◌, ℕ, zero, suc, ◌+◌, ◌-◌, ltb, get_or, replicate, Option, Some, None}

-- p holds at every number below n
unfoldable pub all_below : (ℕ → Bool) → ℕ → Bool
all_below p zero = true
all_below p (suc n) = all_below p n && p n

-- p holds at some number below n
abbrev pub some_below : (ℕ → Bool) → ℕ → Bool
some_below p n = not (all_below (λ i. not (p i)) n)

-- x, where it is something; else y
abbrev pub or_else : Option ℕ → Option ℕ → Option ℕ
or_else (Some k) y = Some k
or_else None y = y

-- the first number below n at which p does not hold
unfoldable pub first_not : (ℕ → Bool) → ℕ → Option ℕ
first_not p zero = None
first_not p (suc n) = or_else (first_not p n) (cond (p n) None (Some n))

-- f 0 + f 1 + .. + f (n - 1)
unfoldable pub sum_below : (ℕ → ℕ) → ℕ → ℕ
sum_below f zero = 0
sum_below f (suc n) = sum_below f n + f n

-- at how many numbers below n p holds
unfoldable pub count_below : (ℕ → Bool) → ℕ → ℕ
count_below p n = sum_below (λ i. cond (p i) 1 0) n

-- f i, f (i + 1), .. n of them
unfoldable pub table_from : {A : Type 0} → (ℕ → A) → ℕ → ℕ → List A
table_from f i zero = []
table_from f i (suc n) = f i ∷ table_from f (suc i) n

-- f 0, f 1, .. f (n - 1)
abbrev pub table : {A : Type 0} → (ℕ → A) → ℕ → List A
table f n = table_from f 0 n

-- n places, of which those below i are filled
unfoldable pub filled : {A : Type 0} → (ℕ → A) → A → ℕ → ℕ → List A
filled f z n i = table f i ++ replicate (n - i) z

-- n places of the list l, of which those below i are changed: f k is done to what stands at place k
unfoldable pub changed : {A : Type 0} → (ℕ → A → A) → A → List A → ℕ → ℕ → List A
changed f d l n i = table (λ k. cond (ltb k i) (f k (get_or l k d)) (get_or l k d)) n
