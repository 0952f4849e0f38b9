-- Laws of masks as sets of numbers below any width w: the bit of a changed set, the least member, how many, what is in one set and not in another.
use mathlib.Core.Path.{◌≡◌, refl, sym, ap, subst, ◌∙◌}
use mathlib.Core.Logic.{◌⊎◌, inl, inr}
use mathlib.Core.Bool.{Bool, true, false, ◌&&◌, ◌||◌, not, cond, and-true, and-false, or-false}
use mathlib.Core.List.{List, [], ◌∷◌}
use Prim.Native.Nat.{ℕ, zero, suc, ◌+◌, ◌-◌, ◌*◌, ◌/◌, ◌%◌, ◌^◌, ◌≤◌, ◌<◌}
use native.Mathlib.Nat.{le_trans, eq-or-lt_of_le, div-eq_of_lt, div-one, mod-lt, mul-le-mul_right, mul_comm, mul-sub, zero-add, one-mul, add-zero, add-suc, suc-add, suc-mul, pow-suc}
use native.Mathlib.Numerals.{add-one, one-add}
use native.Mathlib.Omega.{arith}
use borrow.Author.Tests.{eq-eqb, ne_eqb, eqb-true, eqb-false, lt-ltb, ltb-true, ltb-false, not-false}
use lib.Bits.{bit_and, bit_or, and_high, or_add_and, or_lt, and_mod, and_shr, or_shr, or_mod}
use lib.Count.{ones, ones_step, ones-le, count_trailing_zeros}
use lib.Dec.{eqb, ltb, lit<}
use lib.ListN.{length}
use lib.Pow.{pow-add, pow_mono, pow_pos, pow-lt, split, high, ones_split, shl_exact, shl-shr, shr_lt, shr_le, shr-shr}
use Rattle.sets.specs.Below.{count_below, table_from, table}
use Rattle.sets.specs.Lists.{all_of, passing, folded}
use Rattle.sets.specs.Masks.{bit, with_bit, without_bit, members, others, parted}
use Rattle.sets.specs.Tests.{none_from}
use Rattle.sets.proofs.Below.{length_table, table_at, table_more, count_bound, count_none, none_count}
use Rattle.sets.proofs.Lists.{all_of_by, all_of_each, all_of_passing, passing_pass, passing_none, passing_twice, passing_same_where, passing_append, length_passing, counted_table, folded_append}
use Rattle.sets.proofs.Tests.{and_both}

-- ---- masks as numbers

-- nothing is left of a mask of 16 bits past its end
pub gone_past : (n mask : ℕ) → 16 ≤ n → mask < 2 ^ 16 → mask / 2 ^ n ≡ 0
gone_past n mask h l = div-eq_of_lt (le_trans l (pow_mono h))

-- a mask of w bits has no member from w up
pub none_past : (w n mask : ℕ) → w ≤ n → mask < 2 ^ w → none_from n mask ≡ true
none_past w n mask h l = eq-eqb _ _ (div-eq_of_lt (le_trans l (pow_mono h)))

-- a mask without members from n up is below 2 ^ w for any w from n up
pub mask_below : (w n mask : ℕ) → n ≤ w → none_from n mask ≡ true → mask < 2 ^ w
mask_below w n mask h e = le_trans (lt_of_div n mask (eqb-true _ _ e)) (pow_mono h)
  where
    lt_of_div : (k m : ℕ) → m / 2 ^ k ≡ 0 → m < 2 ^ k
    lt_of_div k m z = omega (arith, split m k, mod-lt m (pow_pos k), rw z at (split m k))

two : (k : ℕ) → 2 ^ suc k ≡ 2 ^ k * 2
two k = pow-suc 2 k

-- ---- one bit

pub shl_one : (w k : ℕ) → k < w → 1 * 2 ^ k % 2 ^ w ≡ 2 ^ k
shl_one w k h = shl_exact 1 k w (lit< tt) (omega arith) ∙ one-mul _

and_one : (m k : ℕ) → bit_and m (2 ^ k) ≡ m / 2 ^ k % 2 * 2 ^ k
and_one m k =
    let one : 2 ^ (1 + k) - 2 ^ k ≡ 2 ^ k = omega (arith, two k, ap (λ (x : ℕ). 2 ^ x) (one-add k)) in
    ap (bit_and m) (sym one) ∙ and_high m 1 k

pub with_or : (m k : ℕ) → bit_or m (2 ^ k) ≡ with_bit m k
unfolding with_bit bit
with_or m k = go (m / 2 ^ k % 2) refl
  where
    go : (d : ℕ) → m / 2 ^ k % 2 ≡ d → bit_or m (2 ^ k) ≡ cond (eqb (m / 2 ^ k % 2) 1) m (m + 2 ^ k)
    go zero e = rw e (omega (arith, or_add_and m (2 ^ k), rw e at (and_one m k)))
    go (suc zero) e = rw e (omega (arith, or_add_and m (2 ^ k), rw (e, one-mul) at (and_one m k)))
    go (suc (suc d)) e = absurd (omega arith)

pub with_lt : (w m k : ℕ) → m < 2 ^ w → k < w → with_bit m k < 2 ^ w
with_lt w m k h l = subst (λ (x : ℕ). x < 2 ^ w) (with_or m k) (or_lt w m (2 ^ k) h (pow-lt l))

pub bit_past : (w m k : ℕ) → m < 2 ^ w → w ≤ k → bit m k ≡ false
unfolding bit
bit_past w m k h l =
    let z : m / 2 ^ k ≡ 0 = div-eq_of_lt (le_trans h (pow_mono l)) in
    rw z

pub bit_zero : (k : ℕ) → bit 0 k ≡ false
bit_zero k = bit_past 0 0 k (lit< tt) (omega arith)

pub bit_and_lem : (a b k : ℕ) → bit (bit_and a b) k ≡ (bit a k && bit b k)
unfolding bit
bit_and_lem a b k =
    ap (λ (x : ℕ). eqb x 1) (ap (λ (x : ℕ). x % 2) (and_shr a b k) ∙ and_mod (a / 2 ^ k) (b / 2 ^ k) 1)
    ∙ go (a / 2 ^ k % 2) (b / 2 ^ k % 2) (omega arith) (omega arith)
  where
    go : (x y : ℕ) → x < 2 → y < 2 → eqb (bit_and x y) 1 ≡ (eqb x 1 && eqb y 1)
    go zero zero p q = refl
    go zero (suc zero) p q = refl
    go (suc zero) zero p q = refl
    go (suc zero) (suc zero) p q = refl
    go zero (suc (suc y)) p q = absurd (omega arith)
    go (suc zero) (suc (suc y)) p q = absurd (omega arith)
    go (suc (suc x)) y p q = absurd (omega arith)

pub bit_or_lem : (a b k : ℕ) → bit (bit_or a b) k ≡ (bit a k || bit b k)
unfolding bit
bit_or_lem a b k =
    ap (λ (x : ℕ). eqb x 1) (ap (λ (x : ℕ). x % 2) (or_shr a b k) ∙ or_mod (a / 2 ^ k) (b / 2 ^ k) 1)
    ∙ go (a / 2 ^ k % 2) (b / 2 ^ k % 2) (omega arith) (omega arith)
  where
    go : (x y : ℕ) → x < 2 → y < 2 → eqb (bit_or x y) 1 ≡ (eqb x 1 || eqb y 1)
    go zero zero p q = refl
    go zero (suc zero) p q = refl
    go (suc zero) zero p q = refl
    go (suc zero) (suc zero) p q = refl
    go zero (suc (suc y)) p q = absurd (omega arith)
    go (suc zero) (suc (suc y)) p q = absurd (omega arith)
    go (suc (suc x)) y p q = absurd (omega arith)

not_from : (j k b : ℕ) → b < 2 ^ (suc j + k) → bit (2 ^ (suc j + k) - 1 - b) k ≡ not (bit b k)
unfolding bit
not_from j k b h =
    let q = b / 2 ^ k in
    let q< : q < 2 ^ suc j = shr_lt (suc j) k h in
    let r< : b % 2 ^ k < 2 ^ k = mod-lt b (pow_pos k) in
    let apart : (2 ^ suc j - 1 - q) * 2 ^ k ≡ (2 ^ suc j - 1) * 2 ^ k - q * 2 ^ k =
    rw (mul_comm (2 ^ suc j - 1 - q), mul_comm (2 ^ suc j - 1), mul_comm q) (mul-sub (2 ^ k) (2 ^ suc j - 1) q) in
    let le : q * 2 ^ k ≤ (2 ^ suc j - 1) * 2 ^ k = mul-le-mul_right (2 ^ k) (omega arith) in
    let is : 2 ^ (suc j + k) - 1 - b ≡ (2 ^ suc j - 1 - q) * 2 ^ k + (2 ^ k - 1 - b % 2 ^ k) =
    omega (arith, ones_split (suc j) k, split b k) in
    let top : (2 ^ (suc j + k) - 1 - b) / 2 ^ k ≡ 2 ^ suc j - 1 - q =
    ap (λ (x : ℕ). x / 2 ^ k) is ∙ high (2 ^ suc j - 1 - q) k (omega arith) in
    let odd : (2 ^ (suc j + k) - 1 - b) / 2 ^ k % 2 ≡ 1 - q % 2 = omega (arith, two j) in
    ap (λ (x : ℕ). eqb x 1) odd ∙ go (q % 2) (omega arith)
  where
    go : (x : ℕ) → x < 2 → eqb (1 - x) 1 ≡ not (eqb x 1)
    go zero p = refl
    go (suc zero) p = refl
    go (suc (suc x)) p = absurd (omega arith)

pub bit_not : (w k b : ℕ) → k < w → b < 2 ^ w → bit (2 ^ w - 1 - b) k ≡ not (bit b k)
bit_not w k b l h =
    let e : suc (w - suc k) + k ≡ w = omega arith in
    rw e at (not_from (w - suc k) k b (rw e h))

bit_pow : (k j : ℕ) → bit (2 ^ k) j ≡ eqb j k
unfolding bit
bit_pow k j = go (side (ltb j k) refl)
  where
    side : (b : Bool) → ltb j k ≡ b → (j < k) ⊎ (k ≤ j)
    side true e = inl (ltb-true j k e)
    side false e = inr (ltb-false j k e)

    go : (j < k) ⊎ (k ≤ j) → eqb (2 ^ k / 2 ^ j % 2) 1 ≡ eqb j k
    go (inl l) =
        let d = k - suc j in
        let k= : suc d + j ≡ k = omega arith in
        let q : 2 ^ k / 2 ^ j ≡ 2 ^ suc d =
        ap (λ (x : ℕ). 2 ^ x / 2 ^ j) (sym k=) ∙ ap (λ (x : ℕ). x / 2 ^ j) (pow-add 2 (suc d) j) ∙ shl-shr (2 ^ suc d) j in
        let z : 2 ^ k / 2 ^ j % 2 ≡ 0 = omega (arith, two d) in
        rw (z, ne_eqb j k (omega arith))
    go (inr l) = more (eq-or-lt_of_le l)
      where
        more : (k ≡ j) ⊎ (k < j) → eqb (2 ^ k / 2 ^ j % 2) 1 ≡ eqb j k
        more (inl e) = rw (eq-eqb j k (sym e), ← e, rw one-mul at (shl-shr 1 k))
        more (inr s) =
            let q : 2 ^ k / 2 ^ j < 1 = shr_lt 0 j (subst (λ (x : ℕ). 2 ^ k < 2 ^ x) (sym (zero-add j)) (pow-lt s)) in
            let z : 2 ^ k / 2 ^ j % 2 ≡ 0 = omega arith in
            rw (z, ne_eqb j k (omega arith))

pub bit_with : (m k j : ℕ) → bit (with_bit m k) j ≡ (bit m j || eqb j k)
bit_with m k j = ap (λ (x : ℕ). bit x j) (sym (with_or m k)) ∙ bit_or_lem m (2 ^ k) j ∙ ap (λ (x : Bool). bit m j || x) (bit_pow k j)

-- a member taken out: it is out, and put in again it is the set
record Out (m k : ℕ) : Type 0 where
  within : 2 ^ k ≤ m
  off : bit (m - 2 ^ k) k ≡ false
  back : with_bit (m - 2 ^ k) k ≡ m

out : (m k : ℕ) → bit m k ≡ true → Out m k
unfolding bit with_bit
out m k h = go (m / 2 ^ k) refl (eqb-true (m / 2 ^ k % 2) 1 h)
  where
    go : (q : ℕ) → m / 2 ^ k ≡ q → m / 2 ^ k % 2 ≡ 1 → Out m k
    go zero e o = absurd (omega arith)
    go (suc q) e o =
        let r< : m % 2 ^ k < 2 ^ k = mod-lt m (pow_pos k) in
        let is : m ≡ q * 2 ^ k + 2 ^ k + m % 2 ^ k = sym (rw (e, suc-mul) at (split m k)) in
        let less : m - 2 ^ k ≡ q * 2 ^ k + m % 2 ^ k = omega arith in
        let top : (m - 2 ^ k) / 2 ^ k ≡ q = ap (λ (x : ℕ). x / 2 ^ k) less ∙ high q k r< in
        let even : (m - 2 ^ k) / 2 ^ k % 2 ≡ 0 = omega arith in
        record { within = omega arith; off = rw even; back = rw even (omega arith) }

-- a set with k is no less than the bit of k
pub bit_within : (m k : ℕ) → bit m k ≡ true → 2 ^ k ≤ m
bit_within m k h = (out m k h).within

without_bit_lem : (m k j : ℕ) → bit m k ≡ true → bit (m - 2 ^ k) j ≡ (bit m j && not (eqb j k))
without_bit_lem m k j h = go (eqb j k) refl
  where
    go : (b : Bool) → eqb j k ≡ b → bit (m - 2 ^ k) j ≡ (bit m j && not (eqb j k))
    go true e = rw (e, and-false (bit m j), eqb-true j k e) (out m k h).off
    go false e =
        let same : bit m j ≡ bit (m - 2 ^ k) j =
        ap (λ (x : ℕ). bit x j) (sym (out m k h).back) ∙ bit_with (m - 2 ^ k) k j ∙ ap (λ (x : Bool). bit (m - 2 ^ k) j || x) e ∙ or-false _ in
        rw (e, and-true (bit m j)) (sym same)

pub bit_without : (m k j : ℕ) → bit (without_bit m k) j ≡ (bit m j && not (eqb j k))
unfolding without_bit
bit_without m k j = go (bit m k) refl
  where
    go : (b : Bool) → bit m k ≡ b → bit (cond (bit m k) (m - 2 ^ k) m) j ≡ (bit m j && not (eqb j k))
    go true h = rw h (without_bit_lem m k j h)
    go false h = rw h (more (eqb j k) refl)
      where
        more : (b : Bool) → eqb j k ≡ b → bit m j ≡ (bit m j && not (eqb j k))
        more true e = rw (e, and-false (bit m j), eqb-true j k e) h
        more false e = rw (e, and-true (bit m j))

pub without_le : (m k : ℕ) → without_bit m k ≤ m
unfolding without_bit
without_le m k = go (bit m k)
  where
    go : (b : Bool) → cond b (m - 2 ^ k) m ≤ m
    go true = omega arith
    go false = omega arith

-- ---- two masks with the same bits are one

shifted_bit : (m n k : ℕ) → bit (m / 2 ^ n) k ≡ bit m (n + k)
unfolding bit
shifted_bit m n k = ap (λ (x : ℕ). eqb (x % 2) 1) (shr-shr m n k)

half_bit : (m k : ℕ) → bit (m / 2) k ≡ bit m (suc k)
half_bit m k = shifted_bit m 1 k ∙ ap (bit m) (one-add k)

low_bit : (a b : ℕ) → bit a 0 ≡ bit b 0 → a % 2 ≡ b % 2
unfolding bit
low_bit a b h = go (a % 2) (b % 2) (omega arith) (omega arith) (rw (div-one a, div-one b) at h)
  where
    go : (x y : ℕ) → x < 2 → y < 2 → eqb x 1 ≡ eqb y 1 → x ≡ y
    go zero y p q e = omega (arith, eqb-false y 1 (sym e))
    go (suc zero) y p q e = sym (eqb-true y 1 (sym e))
    go (suc (suc x)) y p q e = absurd (omega arith)

half_lt : (w m : ℕ) → m < 2 ^ suc w → m / 2 < 2 ^ w
half_lt w m h = shr_lt w 1 (subst (λ (x : ℕ). m < 2 ^ x) (sym (add-one w)) h)

pub mask_same : (w a b : ℕ) → a < 2 ^ w → b < 2 ^ w → ((k : ℕ) → k < w → bit a k ≡ bit b k) → a ≡ b
mask_same zero a b h l f = omega arith
mask_same (suc w) a b h l f =
    let up : a / 2 ≡ b / 2 =
    mask_same w (a / 2) (b / 2) (half_lt w a h) (half_lt w b l) (λ k m. half_bit a k ∙ f (suc k) (omega arith) ∙ sym (half_bit b k)) in
    let low = low_bit a b (f 0 (omega arith)) in
    omega arith

-- ---- no member from n up

pub none_bits : (n mask k : ℕ) → none_from n mask ≡ true → n ≤ k → bit mask k ≡ false
none_bits n mask k h l = bit_past n mask k (mask_below n n mask (omega arith) h) l

pub bits_none : (w n mask : ℕ) → mask < 2 ^ w → ((k : ℕ) → n ≤ k → k < w → bit mask k ≡ false) → none_from n mask ≡ true
bits_none w n mask h f =
    eq-eqb _ _ (mask_same w (mask / 2 ^ n) 0 (omega (arith, shr_le mask n)) (pow_pos w) (λ k l. shifted_bit mask n k ∙ go k (ltb (n + k) w) refl ∙ sym (bit_zero k)))
  where
    go : (k : ℕ) (b : Bool) → ltb (n + k) w ≡ b → bit mask (n + k) ≡ false
    go k true e = f (n + k) (omega arith) (ltb-true (n + k) w e)
    go k false e = bit_past w mask (n + k) h (ltb-false (n + k) w e)

-- ---- the members, lowest first, by halving

from : ℕ → ℕ → ℕ → List ℕ
from zero i m = []
from (suc w) i m = cond (eqb (m % 2) 1) (i ∷ from w (suc i) (m / 2)) (from w (suc i) (m / 2))

from_is : (w i m : ℕ) → passing (bit m) (table_from (λ k. k) i w) ≡ from w i (m / 2 ^ i)
unfolding from passing table_from bit
from_is zero i m = refl
from_is (suc w) i m =
    let half : m / 2 ^ i / 2 ≡ m / 2 ^ suc i = shr-shr m i 1 ∙ ap (λ (x : ℕ). m / 2 ^ x) (add-one i) in
    rw (from_is w (suc i) m, half)

members_from : (w m : ℕ) → members w m ≡ from w 0 m
unfolding members
members_from w m = from_is w 0 m ∙ ap (from w 0) (div-one m)

-- the least of the members from i on, and the others
record LeastFrom (w i m : ℕ) : Type 0 where
  cut : from w i m ≡ (i + count_trailing_zeros w m) ∷ from w i (m - 2 ^ count_trailing_zeros w m)
  below : count_trailing_zeros w m < w
  within : 2 ^ count_trailing_zeros w m ≤ m

least_from : (w i m : ℕ) → 0 < m → m < 2 ^ w → LeastFrom w i m
unfolding from count_trailing_zeros
least_from zero i m p h = absurd (omega arith)
least_from (suc w) i m p h = go (λ q. least_from w (suc i) (m / 2) q (half_lt w m h)) (m % 2) refl
  where
    go : (0 < m / 2 → LeastFrom w (suc i) (m / 2)) → (d : ℕ) → m % 2 ≡ d → LeastFrom (suc w) i m
    go rest zero e =
        let ih = rest (omega arith) in
        let t = count_trailing_zeros w (m / 2) in
        let even : (m - 2 ^ suc t) % 2 ≡ 0 = omega (arith, two t, ih.within) in
        let half : (m - 2 ^ suc t) / 2 ≡ m / 2 - 2 ^ t = omega (arith, two t, ih.within) in
        record {
          cut = rw (e, even, half, ih.cut, add-suc, suc-add);
          below = rw e (omega (arith, ih.below));
          within = rw e (omega (arith, two t, ih.within));
        }
    go rest (suc zero) e =
        let even : (m - 1) % 2 ≡ 0 = omega arith in
        let half : (m - 1) / 2 ≡ m / 2 = omega arith in
        record { cut = rw (e, even, half, add-zero); below = rw e (omega arith); within = rw e (omega arith) }
    go rest (suc (suc d)) e = absurd (omega arith)

-- what a loop over the members needs of the lowest one and of the others
pub record Least (w m : ℕ) : Type 0 where
  pub members_are : members w m ≡ (parted w m).first ∷ members w (parted w m).rest
  pub below : (parted w m).first < w
  pub holds : bit m (parted w m).first ≡ true
  pub within : 2 ^ (parted w m).first ≤ m
  pub less : (parted w m).rest < m
  pub rest_bit : (j : ℕ) → bit (parted w m).rest j ≡ (bit m j && not (eqb j (parted w m).first))

pub members_hold : (w m : ℕ) → all_of (bit m) (members w m) ≡ true
unfolding members
members_hold w m = passing_pass (bit m) (table (λ k. k) w)

pub least : (w m : ℕ) → 0 < m → m < 2 ^ w → Least w m
unfolding all_of
least w m p h =
    let l = least_from w 0 m p h in
    let t = count_trailing_zeros w m in
    let cut : members w m ≡ t ∷ members w (m - 2 ^ t) = rw (members_from w m, members_from w (m - 2 ^ t)) (l.cut ∙ rw zero-add) in
    let on : bit m t ≡ true = (and_both (bit m t) (all_of (bit m) (members w (m - 2 ^ t))) (ap (all_of (bit m)) (sym cut) ∙ members_hold w m)).left in
    record {
      members_are = cut;
      below = l.below;
      holds = on;
      within = l.within;
      less = omega (arith, l.within, pow_pos t);
      rest_bit = λ j. without_bit_lem m t j on;
    }

pub members_none : (w : ℕ) → members w 0 ≡ []
unfolding members
members_none w = passing_none (bit 0) (table (λ k. k) w) (all_of_each _ _ (λ k. ap not (bit_zero k)))

-- the numbers below w are below w
table_below : (w : ℕ) → all_of (λ k. ltb k w) (table (λ k. k) w) ≡ true
table_below w =
    all_of_by
    (λ k. ltb k w)
    (table (λ k. k) w)
    0
    (λ i l. let h : i < w = omega (arith, length_table (λ k. k) w) in ap (λ (k : ℕ). ltb k w) (table_at (λ k. k) w i 0 h) ∙ lt-ltb i w h)

pub members_below : (w m : ℕ) → all_of (λ k. ltb k w) (members w m) ≡ true
unfolding members
members_below w m = all_of_passing (λ k. ltb k w) (bit m) (table (λ k. k) w) (table_below w)

-- ---- how many

ones_from : (w i m : ℕ) → m < 2 ^ w → length (from w i m) ≡ ones m
unfolding from
ones_from zero i m h = omega (arith, ones-le 0 m h)
ones_from (suc w) i m h = go (ones_from w (suc i) (m / 2) (half_lt w m h)) (m % 2) refl
  where
    go : length (from w (suc i) (m / 2)) ≡ ones (m / 2) → (d : ℕ) → m % 2 ≡ d → length (from (suc w) i m) ≡ ones m
    go ih zero e = rw e (omega (arith, ones_step m))
    go ih (suc zero) e = rw e (omega (arith, ones_step m))
    go ih (suc (suc d)) e = absurd (omega arith)

pub ones_members : (w m : ℕ) → m < 2 ^ w → length (members w m) ≡ ones m
ones_members w m h = rw members_from (ones_from w 0 m h)

pub length_members_count : (w m : ℕ) → length (members w m) ≡ count_below (bit m) w
unfolding members
length_members_count w m = length_passing (bit m) (table (λ k. k) w) ∙ counted_table (bit m) (λ k. k) w

-- ---- in one mask and not in another

others_are : (w a b : ℕ) → others w a b ≡ passing (λ k. bit a k && not (bit b k)) (table (λ k. k) w)
unfolding others members
others_are w a b = passing_twice (bit a) (λ k. not (bit b k)) (table (λ k. k) w)

pub members_minus : (w a b : ℕ) → b < 2 ^ w → members w (bit_and a (2 ^ w - 1 - b)) ≡ others w a b
unfolding members
members_minus w a b h =
    passing_same_where
    (λ k. ltb k w)
    (bit (bit_and a (2 ^ w - 1 - b)))
    (λ k. bit a k && not (bit b k))
    (table (λ k. k) w)
    (table_below w)
    (λ k t. bit_and_lem a (2 ^ w - 1 - b) k ∙ ap (λ (x : Bool). bit a k && x) (bit_not w k b (ltb-true k w t) h))
    ∙ sym (others_are w a b)

pub length_others_count : (w a b : ℕ) → length (others w a b) ≡ count_below (λ k. bit a k && not (bit b k)) w
length_others_count w a b =
    ap length (others_are w a b) ∙ length_passing _ (table (λ k. k) w) ∙ counted_table (λ k. bit a k && not (bit b k)) (λ k. k) w

pub others_le : (w a b : ℕ) → length (others w a b) ≤ w
others_le w a b = rw (length_others_count w a b) (count_bound _ w)

-- none of a is out of b
pub none_other : (w a b : ℕ) → length (others w a b) ≡ 0 → (k : ℕ) → k < w → bit a k ≡ true → bit b k ≡ true
none_other w a b h k l e =
    let z = count_none (λ i. bit a i && not (bit b i)) w (sym (length_others_count w a b) ∙ h) k l in
    not-false (bit b k) (rw e at z)

pub other_none : (w a b : ℕ) → ((k : ℕ) → k < w → bit a k ≡ true → bit b k ≡ true) → length (others w a b) ≡ 0
other_none w a b f = length_others_count w a b ∙ none_count _ w (λ k l. go (bit a k) (bit b k) (f k l))
  where
    go : (x y : Bool) → (x ≡ true → y ≡ true) → (x && not y) ≡ false
    go true y h = rw (h refl)
    go false y h = refl

-- ---- a turn for each

-- each number below w that passes has one turn, in order: what the turns keep holds after the last
pub turns : {B : Type 0} (f : B → ℕ → B) (p : ℕ → Bool) (Q : ℕ → B → Type 0) (b : B) → Q 0 b → (w : ℕ)
    → ((n : ℕ) (x : B) → n < w → p n ≡ true → Q n x → Q (n + 1) (f x n))
    → ((n : ℕ) (x : B) → n < w → p n ≡ false → Q n x → Q (n + 1) x)
    → (n : ℕ) → n ≤ w → Q n (folded f b (passing p (table (λ k. k) n)))
unfolding folded passing table_from
turns f p Q b start w turn skip zero l = start
turns {B} f p Q b start w turn skip (suc n) l =
    subst (λ (k : ℕ). Q k (folded f b (passing p (table (λ i. i) k)))) (add-one n)
    (subst (Q (n + 1)) (sym split_off) (go (turns f p Q b start w turn skip n (omega arith)) (p n) refl))
  where
    before : B
    before = folded f b (passing p (table (λ k. k) n))

    split_off : folded f b (passing p (table (λ k. k) (n + 1))) ≡ folded f before (cond (p n) (n ∷ []) [])
    split_off =
        ap (λ (ks : List ℕ). folded f b (passing p ks)) (table_more (λ k. k) n)
        ∙ ap (folded f b) (passing_append p (table (λ k. k) n) (n ∷ []))
        ∙ folded_append f b (passing p (table (λ k. k) n)) (cond (p n) (n ∷ []) [])

    go : Q n before → (t : Bool) → p n ≡ t → Q (n + 1) (folded f before (cond (p n) (n ∷ []) []))
    go ih true e = rw e (turn n before (omega arith) e ih)
    go ih false e = rw e (skip n before (omega arith) e ih)

-- the same for the members of a that are not in b
pub turns_others : {B : Type 0} (f : B → ℕ → B) (w a b : ℕ) (Q : ℕ → B → Type 0) (x₀ : B) → Q 0 x₀
    → ((n : ℕ) (x : B) → n < w → (bit a n && not (bit b n)) ≡ true → Q n x → Q (n + 1) (f x n))
    → ((n : ℕ) (x : B) → n < w → (bit a n && not (bit b n)) ≡ false → Q n x → Q (n + 1) x)
    → Q w (folded f x₀ (others w a b))
turns_others f w a b Q x₀ start turn skip =
    subst (λ (ks : List ℕ). Q w (folded f x₀ ks)) (sym (others_are w a b)) (turns f (λ k. bit a k && not (bit b k)) Q x₀ start w turn skip w (omega arith))
