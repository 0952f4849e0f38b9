-- The counting law, for any number of names and elements: where each element has one of the names, no name has more elements
-- than its limit and one name has fewer, there are fewer elements than the limits add up to.
use mathlib.Core.Path.{◌≡◌, refl, sym, ◌∙◌}
use mathlib.Core.Logic.{◌≢◌, ⊎_elim}
use mathlib.Core.Bool.{Bool, true, false, cond}
use mathlib.Core.List.{List, [], ◌∷◌}
use Prim.Native.Nat.{ℕ, zero, suc, ◌≤◌, ◌<◌}
use native.Mathlib.Nat.{not-suc-le-zero}
use native.Mathlib.Omega.{arith}
use borrow.Author.Tests.{eq-eqb, ne_eqb, eqb-true, ltb-true, ltb-false}
use lib.Dec.{eqb, ltb}
use lib.ListN.{length}
use Rattle.sets.specs.Below.{some_below, sum_below}
use Rattle.sets.specs.Lists.{all_of, counted}
use Rattle.sets.proofs.Tests.{and_both}
use Rattle.sets.proofs.Below.{last_or, some_is, sum_same, sum_plus, sum_const}

-- ---- sums

-- each at most the other: so are the sums
sum_le : (f g : ℕ → ℕ) (n : ℕ) → ((i : ℕ) → i < n → f i ≤ g i) → sum_below f n ≤ sum_below g n
unfolding sum_below
sum_le f g zero h = omega arith
sum_le f g (suc n) h = omega (arith, sum_le f g n (λ i l. h i (omega arith)), h n (omega arith))

-- one of them less: so is the sum
sum_lt : (f g : ℕ → ℕ) (n j : ℕ) → ((i : ℕ) → i < n → f i ≤ g i) → j < n → f j < g j → sum_below f n < sum_below g n
unfolding sum_below
sum_lt f g zero j h l s = absurd (not-suc-le-zero l)
sum_lt f g (suc n) j h l s =
    ⊎_elim
    (λ (e : j ≡ n). let t : f n < g n = rw (← e) s in omega (arith, t, sum_le f g n (λ i l. h i (omega arith))))
    (λ (k : j < n). omega (arith, sum_lt f g n j (λ i l. h i (omega arith)) k s, h n (omega arith)))
    (last_or j n l)

-- nothing but the number at j
pub sum_one : (f : ℕ → ℕ) (n j : ℕ) → j < n → ((i : ℕ) → i < n → i ≢ j → f i ≡ 0) → sum_below f n ≡ f j
unfolding sum_below
sum_one f zero j l h = absurd (not-suc-le-zero l)
sum_one f (suc n) j l h =
    ⊎_elim
    (λ (e : j ≡ n).
    let none = sum_same f (λ _. 0) n (λ i k. h i (omega arith) (λ q. absurd (omega arith))) ∙ sum_const 0 n in
    rw e (omega (arith, none)))
    (λ (k : j < n). omega (arith, sum_one f n j k (λ i q. h i (omega arith)), h n (omega arith) (λ q. absurd (omega arith))))
    (last_or j n l)

-- ---- names

module _ (name : ℕ → ℕ) (n : ℕ) (distinct : (j k : ℕ) → j < k → k < n → name j ≢ name k) where
  -- two numbers have two names
  pub two_names : (i j : ℕ) → i < n → j < n → i ≢ j → name i ≢ name j
  two_names i j a b ne = go (ltb i j) refl
    where
      go : (t : Bool) → ltb i j ≡ t → name i ≢ name j
      go true t = distinct i j (ltb-true i j t) b
      go false t = let g = ltb-false i j t in λ e. distinct j i (omega (arith, ne)) a (sym e)

  -- what is named is named once
  named_once : (x : ℕ) → some_below (λ k. eqb (name k) x) n ≡ true → sum_below (λ k. cond (eqb x (name k)) 1 0) n ≡ 1
  named_once x h =
      let f = some_is (λ k. eqb (name k) x) n h in
      let e = eqb-true (name f.at) x f.holds in
      sum_one (λ k. cond (eqb x (name k)) 1 0) n f.at f.below (λ i l d. rw (ne_eqb x (name i) (λ q. two_names i f.at l f.below d (sym (e ∙ q)))))
      ∙ rw (eq-eqb x (name f.at) (sym e))

  -- ---- the law

  module _ {A : Type 0} (key : A → ℕ) where
    -- every element is counted for one name
    counted_once : (es : List A) → all_of (λ e. some_below (λ k. eqb (name k) (key e)) n) es ≡ true
        → length es ≡ sum_below (λ k. counted (λ e. eqb (key e) (name k)) es) n
    unfolding all_of counted
    counted_once [] h = sym (sum_const 0 n ∙ omega arith)
    counted_once (x ∷ xs) h =
        let b = and_both (some_below (λ k. eqb (name k) (key x)) n) (all_of (λ e. some_below (λ k. eqb (name k) (key e)) n) xs) h in
        omega (
          arith,
          counted_once xs b.right,
          named_once (key x) b.left,
          sum_plus (λ k. cond (eqb (key x) (name k)) 1 0) (λ k. counted (λ e. eqb (key e) (name k)) xs) n,
        )

    module _ (limit : ℕ → ℕ) (es : List A) (named : all_of (λ e. some_below (λ k. eqb (name k) (key e)) n) es ≡ true)
        (kept : (k : ℕ) → k < n → counted (λ e. eqb (key e) (name k)) es ≤ limit k) where
      -- fewer elements than the limits add up to, where one name is below its limit
      pub fewer : (j : ℕ) → j < n → counted (λ e. eqb (key e) (name j)) es < limit j → length es < sum_below limit n
      fewer j l s = omega (arith, counted_once es named, sum_lt (λ k. counted (λ e. eqb (key e) (name k)) es) limit n j kept l s)
