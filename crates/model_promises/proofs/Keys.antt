-- Keys: what subject and state say together, and the kind of the state that an exit's key names.
use mathlib.Core.Path.{◌≡◌, refl, ap, ◌∙◌}
use mathlib.Core.Bool.{Bool, true, false, cond}
use mathlib.Core.List.{List}
use Prim.Native.Nat.{ℕ, zero, suc, ◌+◌, ◌*◌, ◌<◌}
use native.Mathlib.Omega.{arith}
use borrow.Author.Tests.{eqb-true, eqb-false}
use lib.Dec.{eqb}
use lib.ListN.{get_or}
use Rattle.blocks.specs.Blocks.{record_no}
use Rattle.model.specs.Records.{state_key}
use Rattle.model.specs.Stages.{kind_among}

-- the kind of an exit's own state is that of the one record with its key
pub kind_found : (file : List ℕ) (key n j : ℕ) → j < n → state_key (record_no file 2 j) ≡ key
    → ((i : ℕ) → i < n → state_key (record_no file 2 i) ≡ key → i ≡ j) → kind_among file key n ≡ get_or (record_no file 2 j) 2 0
unfolding kind_among
kind_found file key zero j l e one = absurd (omega arith)
kind_found file key (suc n) j l e one = go (λ k. kind_found file key n j k e (λ i m. one i (omega arith))) (eqb (state_key (record_no file 2 n)) key) refl
  where
    go : (j < n → kind_among file key n ≡ get_or (record_no file 2 j) 2 0) → (b : Bool) → eqb (state_key (record_no file 2 n)) key ≡ b
        → cond (eqb (state_key (record_no file 2 n)) key) (get_or (record_no file 2 n) 2 0) (kind_among file key n) ≡ get_or (record_no file 2 j) 2 0
    go ih true f = rw f (ap (λ (i : ℕ). get_or (record_no file 2 i) 2 0) (one n (omega arith) (eqb-true (state_key (record_no file 2 n)) key f)))
    go ih false f =
        let apart : n ≡ j → ⊥ = λ q. eqb-false (state_key (record_no file 2 n)) key f (ap (λ (i : ℕ). state_key (record_no file 2 i)) q ∙ e) in
        rw f (ih (omega arith))

-- a key tells subject and state
pub key_apart : (s t g k : ℕ) → t < 256 → k < 256 → k + 256 * g ≡ t + 256 * s → (g ≡ s) × (k ≡ t)
key_apart s t g k lt lk e = (omega arith, omega arith)
