-- Laws of the check: its fold, and its step by doublings.
use Rattle.std.proofs.Common.{◌≡◌, ℕ, ◌+◌, ◌*◌, ◌%◌, List, [], ◌∷◌, refl, ap, arith}
use mathlib.Core.List.{foldl}
use Rattle.std.specs.List.{fold}
use native.Mathlib.Nat.{mod-add-mod, add-mod-mod}

-- the fold of the library is that of the specification
pub fold_is : {A B : Type 0} (f : B → A → B) (b : B) (l : List A) → foldl f b l ≡ fold f b l
fold_is f b [] = refl
fold_is f b (x ∷ l) = fold_is f (f b x) l

-- five doublings and two sums, each modulo m
pub by_doubling : (m c b c2 c4 c8 c16 c32 c33 : ℕ) → c2 ≡ (c + c) % m → c4 ≡ (c2 + c2) % m → c8 ≡ (c4 + c4) % m → c16 ≡ (c8 + c8) % m
    → c32 ≡ (c16 + c16) % m → c33 ≡ (c32 + c) % m → (c33 + b) % m ≡ (33 * c + b) % m
by_doubling m c b c2 c4 c8 c16 c32 c33 e2 e4 e8 e16 e32 e33 =
    simp (e33, e32, e16, e8, e4, e2, mod-add-mod, add-mod-mod) (ap (λ (n : ℕ). n % m) (omega arith))
