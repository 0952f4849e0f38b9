-- Laws of a line in groups: how long it is, what stands at a place, and which group a place belongs to.
use mathlib.Core.Path.{◌≡◌, refl, sym, ap, ◌∙◌}
use mathlib.Core.Logic.{◌⊎◌, inl, inr, ⊎_elim}
use mathlib.Core.Bool.{Bool, true, false, cond}
use Prim.Native.Nat.{ℕ, zero, suc, ◌+◌, ◌-◌, ◌*◌, ◌<◌}
use native.Mathlib.Nat.{eq-or-lt_of_le, not-suc-le-zero}
use native.Mathlib.Omega.{arith}
use borrow.Author.Tests.{ltb-true, ltb-false, lt-ltb, le-ltb, eqb-true, eqb-false, ne_eqb}
use lib.Dec.{ltb, eqb}
use lib.ListN.{length, get_or, length-append, get_or-append}
use lib.Seq.{get_or-append-add}
use Rattle.sets.specs.Below.{sum_below, count_below, table}
use Rattle.sets.specs.Groups.{place_in, in_places, lined}
use Rattle.sets.proofs.Below.{last_or, length_table, table_at, sum_has, sum_same, sum_add, sum_const}

-- ---- a group in its places

module _ {A : Type 0} (size : ℕ) (blank : A) (count : ℕ) (nth : ℕ → A) where
  pub length_in_places : length (in_places size blank count nth) ≡ size
  unfolding in_places
  length_in_places = length_table _ size

  pub in_places_at : (i : ℕ) (d : A) → i < size → get_or (in_places size blank count nth) i d ≡ cond (ltb i count) (nth i) blank
  unfolding in_places
  in_places_at i d l = table_at _ size i d l

-- ---- the line

module _ {A : Type 0} (count : ℕ → ℕ) (item : ℕ → ℕ → A) where
  pub length_lined : (n : ℕ) → length (lined count item n) ≡ sum_below count n
  unfolding lined sum_below
  length_lined zero = refl
  length_lined (suc n) =
      length-append (lined count item n) (table (item n) (count n)) ∙ rw (length_lined n, length_table (item n) (count n))

  pub lined_at : (n g k : ℕ) (d : A) → g < n → k < count g → get_or (lined count item n) (place_in count g k) d ≡ item g k
  unfolding lined
  lined_at zero g k d l h = absurd (not-suc-le-zero l)
  lined_at (suc n) g k d l h =
      ⊎_elim
      (λ (e : g ≡ n). rw (e, ← (length_lined n), get_or-append-add (lined count item n)) (table_at (item n) (count n) k d (rw e at h)))
      (λ (m : g < n).
      get_or-append (lined count item n) _ d (place_in count g k) (omega (arith, length_lined n, sum_has count g n m))
      ∙ lined_at n g k d m h)
      (last_or g n l)

-- ---- places

-- place j of the first n groups is the k-th of group g
pub record Spot (count : ℕ → ℕ) (n j : ℕ) : Type 0 where
  pub g : ℕ
  pub k : ℕ
  pub group : g < n
  pub inside : k < count g
  pub place : place_in count g k ≡ j

module _ (count : ℕ → ℕ) where
  pub spot : (n j : ℕ) → j < sum_below count n → Spot count n j
  unfolding sum_below
  spot zero j h = absurd (not-suc-le-zero h)
  spot (suc n) j h = go (spot n j) (ltb j (sum_below count n)) refl
    where
      go : (j < sum_below count n → Spot count n j) → (b : Bool) → ltb j (sum_below count n) ≡ b → Spot count (suc n) j
      go ih true e =
          let s = ih (ltb-true _ _ e) in
          record { g = s.g; k = s.k; group = omega (arith, s.group); inside = s.inside; place = s.place }
      go ih false e =
          let l = ltb-false j (sum_below count n) e in
          record { g = n; k = j - sum_below count n; group = omega arith; inside = omega arith; place = omega arith }

  -- a later place: a later group, or later in the same
  pub spots_ascend : (g k h l : ℕ) → k < count g → l < count h → place_in count g k < place_in count h l → (g < h) ⊎ ((g ≡ h) × (k < l))
  spots_ascend g k h l a b p = go (ltb g h) refl
    where
      go : (t : Bool) → ltb g h ≡ t → (g < h) ⊎ ((g ≡ h) × (k < l))
      go true e = inl (ltb-true _ _ e)
      go false e =
          ⊎_elim
          (λ (q : h ≡ g). inr (sym q, omega (arith, ap (sum_below count) q)))
          (λ (q : h < g). absurd (omega (arith, sum_has count h g q)))
          (eq-or-lt_of_le (ltb-false _ _ e))

  -- one place, one group and one number in it
  pub spots_same : (g k h l : ℕ) → k < count g → l < count h → place_in count g k ≡ place_in count h l → (g ≡ h) × (k ≡ l)
  spots_same g k h l a b p = go (ltb g h) refl
    where
      go : (t : Bool) → ltb g h ≡ t → (g ≡ h) × (k ≡ l)
      go true e = absurd (omega (arith, sum_has count g h (ltb-true _ _ e)))
      go false e =
          ⊎_elim
          (λ (q : h ≡ g). (sym q, omega (arith, ap (sum_below count) q)))
          (λ (q : h < g). absurd (omega (arith, sum_has count h g q)))
          (eq-or-lt_of_le (ltb-false _ _ e))

-- how many places of the line belong to group s, where the test p tells
pub count_group : (p : ℕ → Bool) (count : ℕ → ℕ) (s n : ℕ) → ((g k : ℕ) → g < n → k < count g → p (place_in count g k) ≡ eqb g s)
    → count_below p (sum_below count n) ≡ cond (ltb s n) (count s) 0
unfolding count_below sum_below
count_group p count s zero h = rw (le-ltb s 0 (omega arith))
count_group p count s (suc n) h =
    let f : ℕ → ℕ = λ i. cond (p i) 1 0 in
    let last : sum_below (λ i. f (sum_below count n + i)) (count n) ≡ cond (eqb n s) 1 0 * count n =
    sum_same _ (λ _. cond (eqb n s) 1 0) (count n) (λ i l. ap (λ (b : Bool). cond b 1 0) (h n i (omega arith) l)) ∙ sum_const (cond (eqb n s) 1 0) (count n) in
    sum_add f (sum_below count n) (count n) ∙ go _ _ last (count_group p count s n (λ g k l m. h g k (omega arith) m)) (eqb n s) refl
  where
    go : (a b : ℕ) → b ≡ cond (eqb n s) 1 0 * count n → a ≡ cond (ltb s n) (count s) 0 → (t : Bool) → eqb n s ≡ t → a + b ≡ cond (ltb s (suc n)) (count s) 0
    go a b d c true e =
        let q = eqb-true n s e in
        rw (lt-ltb s (suc n) (omega arith)) (omega (arith, rw (le-ltb s n (omega arith)) at c, rw e at d, ap count q))
    go a b d c false e = side (ltb s n) refl
      where
        side : (u : Bool) → ltb s n ≡ u → a + b ≡ cond (ltb s (suc n)) (count s) 0
        side true f = rw (lt-ltb s (suc n) (omega (arith, ltb-true s n f))) (omega (arith, rw f at c, rw e at d))
        side false f =
            let apart = eqb-false n s e in
            rw (le-ltb s (suc n) (omega (arith, ltb-false s n f))) (omega (arith, rw f at c, rw e at d))

-- a line ascends by a number, 0 for what stands before the first, where each group does and no group is behind an earlier one
pub line_ascends : {A : Type 0} (count : ℕ → ℕ) (item : ℕ → ℕ → A) (n : ℕ) (order : A → ℕ) (d : A) → order d ≡ 0
    → ((g k : ℕ) → g < n → k < count g → 0 < order (item g k))
    → ((g k : ℕ) → g < n → suc k < count g → order (item g k) < order (item g (suc k)))
    → ((g k h l : ℕ) → g < h → h < n → k < count g → l < count h → order (item g k) < order (item h l))
    → (j : ℕ) → j < length (lined count item n) → order (cond (eqb j 0) d (get_or (lined count item n) (j - 1) d)) < order (get_or (lined count item n) j d)
line_ascends {A} count item n order d z some inside across zero l =
    let s = spot count n 0 (rw (length_lined count item n) at l) in
    let here = ap (λ (i : ℕ). get_or (lined count item n) i d) (sym s.place) ∙ lined_at count item n s.g s.k d s.group s.inside in
    rw (z, here) (some s.g s.k s.group s.inside)
line_ascends {A} count item n order d z some inside across (suc j) l =
    let m = rw (length_lined count item n) at l in
    let a = spot count n j (omega arith) in
    let b = spot count n (suc j) m in
    let before = ap (λ (i : ℕ). get_or (lined count item n) i d) (sym a.place) ∙ lined_at count item n a.g a.k d a.group a.inside in
    let here = ap (λ (i : ℕ). get_or (lined count item n) i d) (sym b.place) ∙ lined_at count item n b.g b.k d b.group b.inside in
    let back : suc j - 1 ≡ j = omega arith in
    rw (ne_eqb (suc j) 0 (λ e. omega arith), back, before, here)
    (⊎_elim
    (λ (e : a.g < b.g). across a.g a.k b.g b.k e b.group a.inside b.inside)
    (λ (e : (a.g ≡ b.g) × (a.k < b.k)).
    let next : suc a.k ≡ b.k = omega (arith, a.place, b.place, ap (sum_below count) e.0) in
    let room = b.inside in
    rw (← e.0, ← next) (inside a.g a.k a.group (rw (← e.0, ← next) at room)))
    (spots_ascend count a.g a.k b.g b.k a.inside b.inside (omega (arith, a.place, b.place))))
