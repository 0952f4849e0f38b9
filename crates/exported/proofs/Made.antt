-- A table of what stands behind the first bytes; a flag as a byte; an exit in its bytes.
use mathlib.Core.Path.{◌≡◌, refl, ap, ◌∙◌}
use mathlib.Core.Bool.{Bool, true, false, cond}
use mathlib.Core.List.{List}
use Prim.Native.Nat.{ℕ, ◌+◌, ◌*◌}
use native.Mathlib.Nat.{add-zero}
use lib.ListN.{get_or, drop}
use lib.Seq.{drop-drop, get_or-drop}
use mir.Val.{bool_byte}
use Rattle.sets.specs.Below.{table}
use Rattle.exported.specs.Bytes.{exit_from, exit_in}
use Rattle.sets.proofs.Below.{table_same}

-- of things from the bytes behind the first k
pub table_rest : {A : Type 0} (f : List ℕ → A) (k size n : ℕ) (b : List ℕ)
    → table (λ i. f (drop (size * i) (drop k b))) n ≡ table (λ i. f (drop (k + size * i) b)) n
table_rest f k size n b = table_same _ _ n (λ i l. ap f (drop-drop (size * i) k b))

-- 1 for true
pub flag_byte : (b : Bool) → bool_byte b ≡ cond b 1 0
flag_byte true = refl
flag_byte false = refl

-- an exit of a state, in its bytes
pub exit_rest : (b : List ℕ) (x : ℕ) → exit_from (drop (10 + 3 * x) b) ≡ exit_in b x
exit_rest b x =
    let k : ℕ = 10 + 3 * x in
    let target : get_or (drop k b) 0 0 ≡ get_or b k 0 = get_or-drop k b 0 0 ∙ ap (λ (j : ℕ). get_or b j 0) (add-zero k) in
    let sender : get_or (drop k b) 1 0 ≡ get_or b (k + 1) 0 = get_or-drop k b 1 0 in
    let typ : get_or (drop k b) 2 0 ≡ get_or b (k + 2) 0 = get_or-drop k b 2 0 in
    λ i. record { target = target i; sender = sender i; typ = typ i }
