-- Numbers as text: decimal digits, separated by one blank and ended by one newline.
use Rattle.std.specs.Prelude.{cond, List, [], ◌∷◌, ◌++◌, ℕ, zero, suc, ◌+◌, ◌/◌, ◌%◌, ltb, length, take, drop}

abbrev pub blank : ℕ
blank = 32

abbrev pub newline : ℕ
newline = 10

-- the decimal digits of n, the highest first, where k digits hold it
unfoldable pub decimal_in : ℕ → ℕ → List ℕ
decimal_in zero n = []
decimal_in (suc k) n = cond (ltb n 10) ((48 + n) ∷ []) (decimal_in k (n / 10) ++ ((48 + n % 10) ∷ []))

-- 20 digits hold every number of 64 bits
abbrev pub decimal : ℕ → List ℕ
decimal n = decimal_in 20 n

-- a row of numbers
unfoldable pub row_text : List ℕ → List ℕ
row_text [] = newline ∷ []
row_text (x ∷ []) = decimal x ++ (newline ∷ [])
row_text (x ∷ y ∷ ys) = decimal x ++ (blank ∷ row_text (y ∷ ys))

-- a buffer with some text put in from place p on
unfoldable pub pasted : List ℕ → ℕ → List ℕ → List ℕ
pasted old p text = take p old ++ (text ++ drop (p + length text) old)
