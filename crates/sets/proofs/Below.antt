-- Laws of tests, searches, sums and tables over the numbers below n: a loop's start, its turn and its end, and what the result tells.
use Rattle.std.specs.Prelude.{Option, Some, None}
use mathlib.Core.Path.{◌≡◌, refl, sym, ap, subst, ◌∙◌}
use mathlib.Core.Logic.{◌⊎◌, ⊎_elim}
use mathlib.Core.Bool.{Bool, true, false, not, cond}
use mathlib.Core.List.{List, [], ◌∷◌, ◌++◌, append_assoc, append-nil}
use Prim.Native.Nat.{ℕ, zero, suc, ◌+◌, ◌-◌, ◌*◌, ◌≤◌, ◌<◌}
use native.Mathlib.Nat.{eq-or-lt_of_le, le_antisymm, le_of_suc-le-suc, not-suc-le-zero, sub_self, sub-zero, add-zero, add-suc}
use native.Mathlib.Numerals.{add-one}
use native.Mathlib.Omega.{arith}
use borrow.Author.Tests.{lt-ltb, le-ltb, eqb-true, eqb-false, ltb-true, ltb-false, not-true, not-false}
use lib.Dec.{eqb, ltb}
use lib.ListN.{length, get_or, set, take, drop, replicate, length-append, length-take, length-drop, length-replicate, length-set}
use lib.Seq.{ext_get_or, set_at, get_or-set_same, get_or-set_other, get_or-take, get_or-drop}
use Rattle.sets.specs.Below.{all_below, some_below, first_not, sum_below, count_below, table_from, table, filled, changed}
use Rattle.sets.proofs.Tests.{and_true, and_both, and_false, not_both}

-- i < n + 1: it is n, or below
pub last_or : (i n : ℕ) → i < suc n → (i ≡ n) ⊎ (i < n)
last_or i n h = eq-or-lt_of_le (le_of_suc-le-suc h)

-- ---- a test of every number below n

module _ (p : ℕ → Bool) where
  pub all_start : all_below p 0 ≡ true
  unfolding all_below
  all_start = refl

  pub all_more : (i : ℕ) → all_below p i ≡ true → p i ≡ true → all_below p (i + 1) ≡ true
  unfolding all_below
  all_more i h e = rw (add-one, h, e)

  pub all_stop : (i n : ℕ) → i < n → p i ≡ false → all_below p n ≡ false
  unfolding all_below
  all_stop i zero l e = absurd (not-suc-le-zero l)
  all_stop i (suc n) l e =
      ⊎_elim (λ (m : i ≡ n). and_false (all_below p n) (p n) (rw (← m) e)) (λ (m : i < n). rw (all_stop i n m e)) (last_or i n l)

  pub all_end : (i n : ℕ) → i ≤ n → n ≤ i → all_below p i ≡ true → all_below p n ≡ true
  all_end i n l g h = subst (λ (k : ℕ). all_below p k ≡ true) (le_antisymm l g) h

  pub all_each : (n : ℕ) → all_below p n ≡ true → (i : ℕ) → i < n → p i ≡ true
  unfolding all_below
  all_each zero h i l = absurd (not-suc-le-zero l)
  all_each (suc n) h i l =
      let b = and_both (all_below p n) (p n) h in
      ⊎_elim (λ (m : i ≡ n). rw m b.right) (λ (m : i < n). all_each n b.left i m) (last_or i n l)

  pub all_by : (n : ℕ) → ((i : ℕ) → i < n → p i ≡ true) → all_below p n ≡ true
  unfolding all_below
  all_by zero f = refl
  all_by (suc n) f = and_true (all_by n (λ i l. f i (omega arith))) (f n (omega arith))

-- a loop that tests each number: its start, its turn, where it stops, and its end
pub ruleset all_turns = (all_start, all_more, all_stop, all_end)

-- the same test, number by number
pub all_same : (p q : ℕ → Bool) (n : ℕ) → ((i : ℕ) → i < n → p i ≡ q i) → all_below p n ≡ all_below q n
unfolding all_below
all_same p q zero f = refl
all_same p q (suc n) f = rw (all_same p q n (λ i l. f i (omega arith)), f n (omega arith))

-- ---- a test of some number below n

-- p holds at a number below n
pub record SomeAt (p : ℕ → Bool) (n : ℕ) : Type 0 where
  pub at : ℕ
  pub below : at < n
  pub holds : p at ≡ true

module _ (p : ℕ → Bool) where
  pub some_start : some_below p 0 ≡ false
  some_start = ap not (all_start (λ i. not (p i)))

  pub some_more : (i : ℕ) → some_below p i ≡ false → p i ≡ false → some_below p (i + 1) ≡ false
  some_more i h e = ap not (all_more (λ k. not (p k)) i (not-false _ h) (ap not e))

  pub some_found : (i n : ℕ) → i < n → p i ≡ true → some_below p n ≡ true
  some_found i n l e = ap not (all_stop (λ k. not (p k)) i n l (ap not e))

  pub some_by : (n i : ℕ) → i < n → p i ≡ true → some_below p n ≡ true
  some_by n i l e = some_found i n l e

  pub some_end : (i n : ℕ) → i ≤ n → n ≤ i → some_below p i ≡ false → some_below p n ≡ false
  some_end i n l g h = subst (λ (k : ℕ). some_below p k ≡ false) (le_antisymm l g) h

  pub none_some : (n : ℕ) → ((i : ℕ) → i < n → p i ≡ false) → some_below p n ≡ false
  none_some n f = ap not (all_by (λ k. not (p k)) n (λ i l. ap not (f i l)))

  pub none_each : (n : ℕ) → some_below p n ≡ false → (i : ℕ) → i < n → p i ≡ false
  none_each n h i l = not-true (p i) (all_each (λ k. not (p k)) n (not-false _ h) i l)

  pub some_is : (n : ℕ) → some_below p n ≡ true → SomeAt p n
  unfolding all_below
  some_is zero h = not_both h refl
  some_is (suc n) h = go (some_is n) (some_below p n) refl (p n) refl
    where
      go : (some_below p n ≡ true → SomeAt p n) → (a : Bool) → some_below p n ≡ a → (b : Bool) → p n ≡ b → SomeAt p (suc n)
      go ih a e true f = record { at = n; below = omega arith; holds = f }
      go ih true e false f =
          let r = ih e in
          record { at = r.at; below = omega (arith, r.below); holds = r.holds }
      go ih false e false f = not_both h (rw add-one at (some_more n e f))

-- the same test, number by number
pub some_same : (p q : ℕ → Bool) (n : ℕ) → ((i : ℕ) → i < n → p i ≡ q i) → some_below p n ≡ some_below q n
some_same p q n f = ap not (all_same (λ i. not (p i)) (λ i. not (q i)) n (λ i l. ap not (f i l)))

-- ---- the first number at which a test fails

-- b is the first number below n at which p fails
pub record FirstNot (p : ℕ → Bool) (n b : ℕ) : Type 0 where
  pub below : b < n
  pub fails : p b ≡ false
  pub before : (i : ℕ) → i < b → p i ≡ true

pub no_at : {A : Type 0} {b : ℕ} → None ≡ Some b → A
no_at h = let z : ◌≡◌ {A = ℕ} 0 1 = cc in absurd (omega arith)

pub at_is : {a b : ℕ} → Some a ≡ Some b → a ≡ b
at_is h = cc

module _ (p : ℕ → Bool) where
  pub first_start : first_not p 0 ≡ None
  unfolding first_not
  first_start = refl

  pub first_more : (i : ℕ) → first_not p i ≡ None → p i ≡ true → first_not p (i + 1) ≡ None
  unfolding first_not
  first_more i h e = rw (add-one, h, e)

  pub first_found : (i n : ℕ) → first_not p i ≡ None → p i ≡ false → i < n → first_not p n ≡ Some i
  unfolding first_not
  first_found i zero h e l = absurd (not-suc-le-zero l)
  first_found i (suc n) h e l =
      ⊎_elim (λ (m : i ≡ n). rw (← m, h, e)) (λ (m : i < n). rw (first_found i n h e m)) (last_or i n l)

  pub first_end : (i n : ℕ) → i ≤ n → n ≤ i → first_not p i ≡ None → first_not p n ≡ None
  first_end i n l g h = subst (λ (k : ℕ). first_not p k ≡ None) (le_antisymm l g) h

  pub first_by : (n : ℕ) → ((i : ℕ) → i < n → p i ≡ true) → first_not p n ≡ None
  unfolding first_not
  first_by zero f = refl
  first_by (suc n) f = rw (first_by n (λ i l. f i (omega arith)), f n (omega arith))

  -- what the search tells: nothing, and every number passes; or b, the first that fails
  pub first_each : (n : ℕ) → first_not p n ≡ None → (i : ℕ) → i < n → p i ≡ true
  unfolding first_not
  first_each zero h i l = absurd (not-suc-le-zero l)
  first_each (suc n) h i l = go (λ e m. first_each n e i m) (first_not p n) refl (p n) refl
    where
      go : (first_not p n ≡ None → i < n → p i ≡ true) → (x : Option ℕ) → first_not p n ≡ x → (b : Bool) → p n ≡ b → p i ≡ true
      go ih (Some k) e b f = no_at (sym (rw e at h))
      go ih None e true f = ⊎_elim (λ (m : i ≡ n). rw m f) (λ (m : i < n). ih e m) (last_or i n l)
      go ih None e false f = no_at (sym (rw (e, f) at h))

  pub first_is : (n b : ℕ) → first_not p n ≡ Some b → FirstNot p n b
  unfolding first_not
  first_is zero b h = no_at h
  first_is (suc n) b h = go (first_is n b) (first_not p n) refl (p n) refl
    where
      go : (first_not p n ≡ Some b → FirstNot p n b) → (x : Option ℕ) → first_not p n ≡ x → (c : Bool) → p n ≡ c → FirstNot p (suc n) b
      go ih (Some k) e c f =
          let g = ih (e ∙ rw e at h) in
          record { below = omega (arith, g.below); fails = g.fails; before = g.before }
      go ih None e true f = no_at (rw (e, f) at h)
      go ih None e false f =
          let m : n ≡ b = at_is (rw (e, f) at h) in
          record { below = omega arith; fails = rw (← m) f; before = λ i l. first_each n e i (omega arith) }

-- ---- sums

module _ (f : ℕ → ℕ) where
  pub sum_start : sum_below f 0 ≡ 0
  unfolding sum_below
  sum_start = refl

  pub sum_more : (i : ℕ) → sum_below f (i + 1) ≡ sum_below f i + f i
  unfolding sum_below
  sum_more i = rw add-one

  -- a turn of a loop that adds up, and its end
  pub sum_turn : (x y i : ℕ) → x ≡ sum_below f i → y ≡ f i → x + y ≡ sum_below f (i + 1)
  sum_turn x y i e g = rw (sum_more i, e, g)

  pub sum_end : (x i n : ℕ) → i ≤ n → n ≤ i → x ≡ sum_below f i → x ≡ sum_below f n
  sum_end x i n l g e = e ∙ ap (sum_below f) (le_antisymm l g)

  -- each at most k: the sum at most k for each
  pub sum_bound : (k n : ℕ) → ((i : ℕ) → i < n → f i ≤ k) → sum_below f n ≤ k * n
  unfolding sum_below
  sum_bound k zero h = omega arith
  sum_bound k (suc n) h = omega (arith, sum_bound k n (λ i l. h i (omega arith)), h n (omega arith))

  -- a sum grows
  pub sum_grows : (m n : ℕ) → m ≤ n → sum_below f m ≤ sum_below f n
  unfolding sum_below
  sum_grows m zero l = let e : m ≡ 0 = omega arith in rw e (omega arith)
  sum_grows m (suc n) l =
      ⊎_elim (λ (e : m ≡ suc n). rw e (omega arith)) (λ (k : m < suc n). omega (arith, sum_grows m n (omega arith))) (eq-or-lt_of_le l)

  -- one of the numbers is in the sum
  pub sum_has : (i n : ℕ) → i < n → sum_below f i + f i ≤ sum_below f n
  sum_has i n l = omega (arith, sum_more i, sum_grows (i + 1) n (omega arith))

pub sum_same : (f g : ℕ → ℕ) (n : ℕ) → ((i : ℕ) → i < n → f i ≡ g i) → sum_below f n ≡ sum_below g n
unfolding sum_below
sum_same f g zero h = refl
sum_same f g (suc n) h = rw (sum_same f g n (λ i l. h i (omega arith)), h n (omega arith))

-- a sum in two parts
pub sum_add : (f : ℕ → ℕ) (a b : ℕ) → sum_below f (a + b) ≡ sum_below f a + sum_below (λ i. f (a + i)) b
unfolding sum_below
sum_add f a zero = rw (add-zero, add-zero)
sum_add f a (suc b) = rw add-suc (omega (arith, sum_add f a b))

-- a sum of sums
pub sum_plus : (f g : ℕ → ℕ) (n : ℕ) → sum_below (λ i. f i + g i) n ≡ sum_below f n + sum_below g n
unfolding sum_below
sum_plus f g zero = omega arith
sum_plus f g (suc n) = omega (arith, sum_plus f g n)

-- the same number b times
pub sum_const : (c n : ℕ) → sum_below (λ _. c) n ≡ c * n
unfolding sum_below
sum_const c zero = omega arith
sum_const c (suc n) = omega (arith, sum_const c n)

-- ---- counts

module _ (p : ℕ → Bool) where
  pub count_start : count_below p 0 ≡ 0
  unfolding count_below
  count_start = sum_start _

  pub count_hit : (i : ℕ) → p i ≡ true → count_below p (i + 1) ≡ count_below p i + 1
  unfolding count_below
  count_hit i e = sum_more _ i ∙ rw e

  pub count_miss : (i : ℕ) → p i ≡ false → count_below p (i + 1) ≡ count_below p i
  unfolding count_below
  count_miss i e = sum_more _ i ∙ rw e (omega arith)

  pub count_bound : (n : ℕ) → count_below p n ≤ n
  unfolding count_below
  count_bound n = omega (arith, sum_bound (λ i. cond (p i) 1 0) 1 n (λ i l. one (p i)))
    where
      one : (b : Bool) → cond b 1 0 ≤ 1
      one true = omega arith
      one false = omega arith

  -- it holds at none
  pub count_none : (n : ℕ) → count_below p n ≡ 0 → (i : ℕ) → i < n → p i ≡ false
  unfolding count_below
  count_none n h i l = go (p i) (omega (arith, sum_has (λ k. cond (p k) 1 0) i n l))
    where
      go : (b : Bool) → ◌≡◌ {A = ℕ} (cond b 1 0) 0 → b ≡ false
      go true e = absurd (omega arith)
      go false e = refl

  pub none_count : (n : ℕ) → ((i : ℕ) → i < n → p i ≡ false) → count_below p n ≡ 0
  unfolding count_below
  none_count n f = sum_same (λ i. cond (p i) 1 0) (λ _. 0) n (λ i l. rw (f i l)) ∙ sum_const 0 n ∙ omega arith

-- ---- tables

module _ {A : Type 0} where
  pub length_from : (f : ℕ → A) (i n : ℕ) → length (table_from f i n) ≡ n
  unfolding table_from
  length_from f i zero = refl
  length_from f i (suc n) = ap suc (length_from f (suc i) n)

  from_at : (f : ℕ → A) (i n k : ℕ) (d : A) → k < n → get_or (table_from f i n) k d ≡ f (i + k)
  unfolding table_from
  from_at f i zero k d l = absurd (not-suc-le-zero l)
  from_at f i (suc n) zero d l = ap f (omega arith)
  from_at f i (suc n) (suc k) d l = from_at f (suc i) n k d (le_of_suc-le-suc l) ∙ ap f (omega arith)

  pub length_table : (f : ℕ → A) (n : ℕ) → length (table f n) ≡ n
  length_table f n = length_from f 0 n

  pub table_at : (f : ℕ → A) (n k : ℕ) (d : A) → k < n → get_or (table f n) k d ≡ f k
  table_at f n k d l = from_at f 0 n k d l ∙ ap f (omega arith)

  from_same : (f g : ℕ → A) (i n : ℕ) → ((k : ℕ) → i ≤ k → k < i + n → f k ≡ g k) → table_from f i n ≡ table_from g i n
  unfolding table_from
  from_same f g i zero h = refl
  from_same f g i (suc n) h = rw (h i (omega arith) (omega arith), from_same f g (suc i) n (λ k a b. h k (omega arith) (omega arith)))

  -- two tables that agree are one
  pub table_same : (f g : ℕ → A) (n : ℕ) → ((i : ℕ) → i < n → f i ≡ g i) → table f n ≡ table g n
  table_same f g n h = from_same f g 0 n (λ k a b. h k (omega arith))

  -- a list is the table of its own elements
  pub table_of : (f : ℕ → A) (n : ℕ) (d : A) (l : List A) → length l ≡ n → ((i : ℕ) → i < n → f i ≡ get_or l i d) → table f n ≡ l
  table_of f n d l e h =
      ext_get_or d _ _ (length_table f n ∙ sym e) (λ i k. table_at f n i d (omega (arith, length_table f n)) ∙ h i (omega (arith, length_table f n)))

  from_more : (f : ℕ → A) (i n : ℕ) → table_from f i (suc n) ≡ table_from f i n ++ (f (i + n) ∷ [])
  unfolding table_from
  from_more f i zero = ap (λ (k : ℕ). f k ∷ []) (omega arith)
  from_more f i (suc n) = rw (from_more f (suc i) n) (ap (λ (k : ℕ). f i ∷ table_from f (suc i) n ++ (f k ∷ [])) (omega arith))

  pub table_more : (f : ℕ → A) (i : ℕ) → table f (i + 1) ≡ table f i ++ (f i ∷ [])
  table_more f i = rw add-one (from_more f 0 i ∙ ap (λ (k : ℕ). table f i ++ (f k ∷ [])) (omega arith))

  -- ---- a loop that fills n places from the first on: `filled f z n i` has f at those below i, z at the others

  pub fill_start : (f : ℕ → A) (z : A) (n : ℕ) → replicate n z ≡ filled f z n 0
  unfolding filled table_from
  fill_start f z n = rw sub-zero

  pub length_filled : (f : ℕ → A) (z : A) (n i : ℕ) → i ≤ n → length (filled f z n i) ≡ n
  unfolding filled
  length_filled f z n i l = omega (arith, length-append (table f i) (replicate (n - i) z), length_table f i, length-replicate (n - i) z)

  pub fill_turn : (f : ℕ → A) (z : A) (n i : ℕ) (x : A) → i < n → x ≡ f i → set (filled f z n i) i x ≡ filled f z n (i + 1)
  unfolding filled
  fill_turn f z n i x l e =
      let k : n - i ≡ suc (n - (i + 1)) = omega arith in
      rw (k, set_at (table f i) z _ x i (length_table f i), table_more f i, append_assoc, e)

  pub fill_end : (f : ℕ → A) (z : A) (n i : ℕ) → i ≤ n → n ≤ i → filled f z n i ≡ table f n
  unfolding filled
  fill_end f z n i l g = let e : i ≡ n = omega arith in rw (e, sub_self, append-nil)

  rest_filled : (f : ℕ → A) (z : A) (d i : ℕ) → ((k : ℕ) → i ≤ k → f k ≡ z) → table f i ++ replicate d z ≡ table f (i + d)
  rest_filled f z zero i h = rw (append-nil, add-zero)
  rest_filled f z (suc d) i h =
      let e : i + suc d ≡ i + 1 + d = omega arith in
      let next = rest_filled f z d (i + 1) (λ k l. h k (omega arith)) in
      rw (e, ← next, table_more f i, h i (omega arith), append_assoc)

  -- a loop that stops where only z would follow
  pub fill_rest : (f : ℕ → A) (z : A) (n i : ℕ) → i ≤ n → ((k : ℕ) → i ≤ k → f k ≡ z) → filled f z n i ≡ table f n
  unfolding filled
  fill_rest f z n i l h = rest_filled f z (n - i) i h ∙ ap (table f) (omega arith)

  -- ---- a loop that changes the n places of l, from the first on: `changed f d l n i` has those below i changed

  pub length_changed : (f : ℕ → A → A) (d : A) (l : List A) (n i : ℕ) → length (changed f d l n i) ≡ n
  unfolding changed
  length_changed f d l n i = length_table _ n

  pub changed_at : (f : ℕ → A → A) (d : A) (l : List A) (n i k : ℕ) (e : A) → k < n
      → get_or (changed f d l n i) k e ≡ cond (ltb k i) (f k (get_or l k d)) (get_or l k d)
  unfolding changed
  changed_at f d l n i k e h = table_at _ n k e h

  pub change_start : (f : ℕ → A → A) (d : A) (l : List A) (n : ℕ) → length l ≡ n → changed f d l n 0 ≡ l
  unfolding changed
  change_start f d l n e = table_of _ n d l e (λ i h. rw (le-ltb i 0 (omega arith)))

  pub change_here : (f : ℕ → A → A) (d : A) (l : List A) (n i : ℕ) (e : A) → i < n → get_or (changed f d l n i) i e ≡ get_or l i d
  change_here f d l n i e h = changed_at f d l n i i e h ∙ rw (le-ltb i i (omega arith))

  pub change_turn : (f : ℕ → A → A) (d : A) (l : List A) (n i : ℕ) (x : A) → i < n → x ≡ f i (get_or l i d)
      → set (changed f d l n i) i x ≡ changed f d l n (i + 1)
  change_turn f d l n i x h q =
      ext_get_or
      d
      _
      _
      (length-set (changed f d l n i) i x ∙ length_changed f d l n i ∙ sym (length_changed f d l n (i + 1)))
      (λ k m. at k (omega (arith, length-set (changed f d l n i) i x, length_changed f d l n i)) (eqb k i) refl)
    where
      at : (k : ℕ) → k < n → (b : Bool) → eqb k i ≡ b → get_or (set (changed f d l n i) i x) k d ≡ get_or (changed f d l n (i + 1)) k d
      at k m true e =
          rw (eqb-true k i e, get_or-set_same (changed f d l n i) i x d (omega (arith, length_changed f d l n i)), changed_at f d l n (i + 1) i d h, lt-ltb i (i + 1) (omega arith)) q
      at k m false e =
          get_or-set_other (changed f d l n i) i k x d (eqb-false k i e)
          ∙ changed_at f d l n i k d m
          ∙ ap (λ (b : Bool). cond b (f k (get_or l k d)) (get_or l k d)) (side (ltb k i) refl)
          ∙ sym (changed_at f d l n (i + 1) k d m)
        where
          side : (b : Bool) → ltb k i ≡ b → ltb k i ≡ ltb k (i + 1)
          side true t = t ∙ sym (lt-ltb k (i + 1) (omega (arith, ltb-true k i t)))
          side false t =
              let ne = eqb-false k i e in
              t ∙ sym (le-ltb k (i + 1) (omega (arith, ltb-false k i t)))

  pub change_end : (f : ℕ → A → A) (d : A) (l : List A) (n i : ℕ) → i ≤ n → n ≤ i → changed f d l n i ≡ table (λ k. f k (get_or l k d)) n
  unfolding changed
  change_end f d l n i g e = table_same _ _ n (λ k h. rw (lt-ltb k i (omega arith)))

-- n elements from place p on
pub part_table : {A : Type 0} (n p : ℕ) (l : List A) (d : A) → p + n ≤ length l → take n (drop p l) ≡ table (λ i. get_or l (p + i) d) n
part_table n p l d h =
    let k : length (take n (drop p l)) ≡ n = omega (arith, length-take n (drop p l), length-drop p l) in
    ext_get_or
    d
    _
    _
    (k ∙ sym (length_table _ n))
    (λ i m. get_or-take n (drop p l) i d (omega arith) ∙ get_or-drop p l i d ∙ sym (table_at _ n i d (omega arith)))

-- a turn of a loop that changes an array in place, where `now` is the array as it has become
pub changed_turn : {A : Type 0} (f : ℕ → A → A) (d : A) (l : List A) (n i : ℕ) (now : List A) (x e : A) → i < n
    → now ≡ changed f d l n i → x ≡ f i (get_or now i e) → set now i x ≡ changed f d l n (i + 1)
changed_turn {A} f d l n i now x e h p q =
    ap (λ (y : List A). set y i x) p
    ∙ change_turn f d l n i x h (q ∙ ap (f i) (ap (λ (y : List A). get_or y i e) p ∙ change_here f d l n i e h))
