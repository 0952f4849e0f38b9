-- Numbers that never fall: those below a bound come first, and each number has the places after those of the smaller ones.
use mathlib.Core.Path.{◌≡◌, refl, sym, ap, ◌∙◌}
use mathlib.Core.Logic.{⊎_elim}
use mathlib.Core.Bool.{Bool, true, false, cond}
use Prim.Native.Nat.{ℕ, zero, suc, ◌+◌, ◌≤◌, ◌<◌}
use native.Mathlib.Nat.{not-suc-le-zero, eq-or-lt_of_le}
use native.Mathlib.Numerals.{add-one}
use native.Mathlib.Omega.{arith}
use borrow.Author.Tests.{ltb-true, ltb-false, lt-ltb, le-ltb, eqb-true, eqb-false}
use lib.Dec.{ltb, eqb}
use Rattle.sets.specs.Below.{sum_below, count_below}
use Rattle.sets.proofs.Below.{last_or, count_miss, count_bound, sum_same, sum_plus}
use Rattle.sets.proofs.Pieces.{sum_is, count_is}

-- a test that holds at a number holds at all before it: so it holds at as many as it is counted at, from the first on
front : (p : ℕ → Bool) (n : ℕ) → ((i j : ℕ) → i ≤ j → j < n → p j ≡ true → p i ≡ true) → (i : ℕ) → i < n → p i ≡ ltb i (count_below p n)
front p zero h i l = absurd (not-suc-le-zero l)
front p (suc n) h i l = go (front p n (λ a b m k. h a b m (omega arith)) i) (p n) refl
  where
    go : (i < n → p i ≡ ltb i (count_below p n)) → (b : Bool) → p n ≡ b → p i ≡ ltb i (count_below p (suc n))
    go ih true e =
        let all : (k : ℕ) → k < suc n → p k ≡ true = λ k m. h k n (omega arith) (omega arith) e in
        let c = count_is p (suc n) (suc n) (omega arith) (λ k m. all k m ∙ sym (lt-ltb k (suc n) m)) in
        all i l ∙ sym (lt-ltb i (count_below p (suc n)) (omega arith))
    go ih false e =
        let c = ap (count_below p) (sym (add-one n)) ∙ count_miss p n e in
        ⊎_elim (λ (m : i ≡ n). rw (m, e) (sym (le-ltb n (count_below p (suc n)) (omega (arith, count_bound p n))))) (λ (m : i < n). ih m ∙ ap (ltb i) (sym c)) (last_or i n l)

-- how many of the first n numbers are below v, and how many are v
abbrev pub count_less : (ℕ → ℕ) → ℕ → ℕ → ℕ
count_less f n v = count_below (λ i. ltb (f i) v) n

abbrev pub count_equal : (ℕ → ℕ) → ℕ → ℕ → ℕ
count_equal f n v = count_below (λ i. eqb (f i) v) n

less_none : (f : ℕ → ℕ) (n : ℕ) → count_less f n 0 ≡ 0
less_none f n = count_is (λ i. ltb (f i) 0) 0 n (omega arith) (λ i l. le-ltb (f i) 0 (omega arith) ∙ sym (le-ltb i 0 (omega arith)))

pub less_more : (f : ℕ → ℕ) (n v : ℕ) → count_less f n v + count_equal f n v ≡ count_less f n (suc v)
unfolding count_below
less_more f n v = sym (sum_plus (λ i. cond (ltb (f i) v) 1 0) (λ i. cond (eqb (f i) v) 1 0) n) ∙ sum_same _ _ n (λ i l. one (f i) (ltb (f i) v) refl (eqb (f i) v) refl)
  where
    one : (x : ℕ) (b : Bool) → ltb x v ≡ b → (c : Bool) → eqb x v ≡ c → cond (ltb x v) 1 0 + cond (eqb x v) 1 0 ≡ cond (ltb x (suc v)) 1 0
    one x true e true d = absurd (omega (arith, ltb-true x v e, eqb-true x v d))
    one x true e false d = rw (e, d, lt-ltb x (suc v) (omega (arith, ltb-true x v e)))
    one x false e true d = rw (e, d, lt-ltb x (suc v) (omega (arith, eqb-true x v d)))
    one x false e false d =
        let apart = eqb-false x v d in
        rw (e, d, le-ltb x (suc v) (omega (arith, ltb-false x v e)))

-- so many are below v: those that are 0, 1, .. v - 1
pub less_sum : (f : ℕ → ℕ) (n v : ℕ) → sum_below (count_equal f n) v ≡ count_less f n v
less_sum f n v = sum_is (count_equal f n) (count_less f n) v (less_none f n) (λ i _. less_more f n i)

module _ (f : ℕ → ℕ) (n : ℕ) (rises : (i : ℕ) → suc i < n → f i ≤ f (suc i)) where
  -- a later number is not smaller
  pub never_falls : (i j : ℕ) → i ≤ j → j < n → f i ≤ f j
  never_falls i zero l h = let e : i ≡ 0 = omega arith in rw e (omega arith)
  never_falls i (suc j) l h =
      ⊎_elim (λ (e : i ≡ suc j). rw e (omega arith)) (λ (m : i < suc j). omega (arith, never_falls i j (omega arith) (omega arith), rises j h)) (eq-or-lt_of_le l)

  -- the numbers below v come first
  pub less_first : (v i : ℕ) → i < n → ltb (f i) v ≡ ltb i (count_less f n v)
  less_first v = front (λ i. ltb (f i) v) n (λ i j l h e. lt-ltb (f i) v (omega (arith, never_falls i j l h, ltb-true (f j) v e)))

  -- the k-th v stands behind all smaller numbers and k more of its own
  pub own_place : (v k : ℕ) → k < count_equal f n v → (sum_below (count_equal f n) v + k < n) × (f (sum_below (count_equal f n) v + k) ≡ v)
  own_place v k l =
      let s = less_sum f n v in
      let j = sum_below (count_equal f n) v + k in
      let h : j < n = omega (arith, less_more f n v, count_bound (λ i. ltb (f i) (suc v)) n) in
      let a = ltb-true (f j) (suc v) (less_first (suc v) j h ∙ lt-ltb j (count_less f n (suc v)) (omega (arith, less_more f n v))) in
      let b = ltb-false (f j) v (less_first v j h ∙ le-ltb j (count_less f n v) (omega arith)) in
      (h, omega arith)
