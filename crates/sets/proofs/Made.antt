-- What `array::from_fn` makes is the table of the closure's answers.
use mathlib.Core.Path.{◌≡◌, refl, sym, ap, ◌∙◌}
use mathlib.Core.List.{List}
use Prim.Native.Nat.{ℕ, zero, suc, ◌+◌, ◌<◌, ◌≤◌}
use mathlib.Core.Logic.{⊎_elim}
use native.Mathlib.Nat.{eq-or-lt_of_le}
use native.Mathlib.Omega.{arith}
use lib.ListN.{length, get_or}
use lib.Seq.{ext_get_or}
use denote.Param.Members.{Called, Mut}
use Rattle.std.specs.Array.{IsFromFnResult, IsFromFnResultFrom, IsElementAt}
use Rattle.sets.specs.Below.{table}
use Rattle.sets.proofs.Below.{length_table, table_at}

-- a list of n elements that are h 0, h 1 and so on
same_by : {B : Type 0} (h : ℕ → B) (ys : List B) (n : ℕ) → length ys ≡ n → ((k : ℕ) (d : B) → k < n → get_or ys k d ≡ h k) → ys ≡ table h n
same_by {B} h ys n e f = ext_get_or (h 0) ys (table h n) (e ∙ sym (length_table h n)) (λ k l. f k (h 0) (omega arith) ∙ sym (table_at h n k (h 0) (omega arith)))

-- every call keeps what is known of the closure, and answers h of the index
module _ {F B : Type 0} (g : Mut F (ℕ × Unit {0}) B) (Known : F → Type 0) (h : ℕ → B)
    (call : (p : F) (i : ℕ) (y : B) (q : F) → Known p → Called g p (i, tt) y q → (y ≡ h i) × Known q) where
  made_at : (ys : List B) (f : F) (i n : ℕ) → Known f → IsFromFnResultFrom g f ys i n → (k : ℕ) (d : B) → i ≤ k → k < i + n → get_or ys k d ≡ h k
  made_at ys f i zero w e k d l m = absurd (omega arith)
  made_at ys f i (suc n) w (q, y, here, called, more) k d l m =
      let r : (y ≡ h i) × Known q = call f i y q w called in
      ⊎_elim (λ (s : i ≡ k). ap (λ (j : ℕ). get_or ys j d) (sym s) ∙ here.1 d ∙ r.0 ∙ ap h s)
      (λ (s : i < k). made_at ys q (i + 1) n r.1 more k d (omega arith) (omega arith))
      (eq-or-lt_of_le l)

  -- the array
  pub made_table : (f : F) (ys : List B) (n : ℕ) → Known f → IsFromFnResult g f ys n → ys ≡ table h n
  made_table f ys n w e =
      same_by h ys n e.long (λ k d l. made_at ys f 0 n w e.each k d (omega arith) (omega arith))
