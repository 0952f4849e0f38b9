-- Lists of anything: whether all or some pass a test, those that do, how many, the first, one taken out, blank places behind.
use Rattle.std.specs.Prelude.{Bool, true, false, ◌&&◌, ◌||◌, cond, List, [], ◌∷◌, ◌++◌, ℕ, suc, ◌+◌, ◌-◌, eqb, length, take, drop, replicate, Option, Some, None}

module _ {A : Type 0} where
  -- each passes
  unfoldable pub all_of : (A → Bool) → List A → Bool
  all_of p [] = true
  all_of p (x ∷ xs) = p x && all_of p xs

  -- some pass
  unfoldable pub some_of : (A → Bool) → List A → Bool
  some_of p [] = false
  some_of p (x ∷ xs) = p x || some_of p xs

  -- those that pass, in order
  unfoldable pub passing : (A → Bool) → List A → List A
  passing p [] = []
  passing p (x ∷ xs) = cond (p x) (x ∷ passing p xs) (passing p xs)

  -- how many pass
  unfoldable pub counted : (A → Bool) → List A → ℕ
  counted p [] = 0
  counted p (x ∷ xs) = cond (p x) 1 0 + counted p xs

  -- the place of the first that passes, where the list starts at place i
  unfoldable pub first_from : ℕ → (A → Bool) → List A → Option ℕ
  first_from i p [] = None
  first_from i p (x ∷ xs) = cond (p x) (Some i) (first_from (suc i) p xs)

  -- the list with what stands at place i taken out
  unfoldable pub without : ℕ → List A → List A
  without i xs = take i xs ++ drop (suc i) xs

  -- the list in n places, the unused ones blank
  unfoldable pub padded : ℕ → A → List A → List A
  padded n blank xs = xs ++ replicate (n - length xs) blank

  -- b, changed by each of the list in order
  unfoldable pub folded : {B : Type 0} → (B → A → B) → B → List A → B
  folded f b [] = b
  folded f b (x ∷ xs) = folded f (f b x) xs

-- the number is one of these
unfoldable pub is_one_of : List ℕ → ℕ → Bool
is_one_of [] number = false
is_one_of (k ∷ ks) number = eqb number k || is_one_of ks number
