-- Lists that stand for arrays.
use mathlib.Core.Path.{◌≡◌, sym, ◌∙◌}
use mathlib.Core.List.{List, [], ◌∷◌, map}
use Prim.Native.Nat.{ℕ, zero, suc, ◌<◌}
use native.Mathlib.Nat.{le_of_suc-le-suc, not-suc-le-zero}
use lib.ListN.{length, get_or, length-map}
use mir.Val.{Val}
use base.Fml.{Fml}
use denote.Array.{each}
use denote.Shadow.{shadow}

-- a mapped list is as long as the list
pub length_mapped : (X Y : Type 0) (f : X → Y) (l : List X) (n : ℕ) → length (map f l) ≡ n → length l ≡ n
length_mapped X Y f l n p = sym (length-map l f) ∙ p

-- what the relation of an array's elements tells of every element, and of the default, holds of what is read at any place
pub each_holds : {A : Type 0} (P : A → Type 0) (own : A → List Val → Fml) (d : A) → P d
    → ((x : A) (u : Val) → shadow (own x (u ∷ [])) → P x) → (l : List A) (us : List Val) → shadow (each A own l us) → (i : ℕ) → P (get_or l i d)
each_holds P own d z h [] us s i = z
each_holds P own d z h (x ∷ xs) [] s i = absurd s
each_holds P own d z h (x ∷ xs) (u ∷ us) s zero = h x u s.0
each_holds P own d z h (x ∷ xs) (u ∷ us) s (suc i) = each_holds P own d z h xs us s.1 i

-- what is known of each element of an array, at one of them
pub each_at : (d : Type 0) (f : d → List Val → Fml) (xs : List d) (us : List Val) → shadow (each d f xs us)
    → (k : ℕ) (z : d) → k < length xs → (u : Val) × shadow (f (get_or xs k z) (u ∷ []))
each_at d f [] us h k z l = absurd (not-suc-le-zero l)
each_at d f (x ∷ xs) [] h k z l = absurd h
each_at d f (x ∷ xs) (u ∷ us) h zero z l = (u, h.0)
each_at d f (x ∷ xs) (u ∷ us) h (suc k) z l = each_at d f xs us h.1 k z (le_of_suc-le-suc l)
