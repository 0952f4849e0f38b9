-- Laws of lists cut into parts of one length and of pieces joined, of runs of bytes, and of sums and counts.
use mathlib.Core.Path.{◌≡◌, refl, sym, ap, ◌∙◌}
use mathlib.Core.Bool.{Bool, true, false, not, cond}
use mathlib.Core.List.{List, [], ◌∷◌, ◌++◌, append_assoc, append-nil}
use Prim.Native.Nat.{ℕ, zero, suc, ◌+◌, ◌-◌, ◌*◌, ◌≤◌, ◌<◌, min}
use native.Mathlib.Nat.{not-suc-le-zero, zero-mul}
use native.Mathlib.Numerals.{add-one}
use native.Mathlib.Omega.{arith}
use borrow.Author.Tests.{ltb-true, ltb-false, lt-ltb, le-ltb, leb-true, leb-false, eqb-true, eq-eqb}
use lib.Dec.{ltb, leb}
use lib.ListN.{length, get_or, take, drop, replicate, length-append, length-take, length-drop, length-replicate, get_or-replicate, get_or-eq_default}
use lib.Seq.{take_at, drop_at, drop-drop, get_or-take, get_or-drop}
use Rattle.sets.specs.Below.{sum_below, count_below, table_from, table}
use Rattle.sets.specs.Tests.{all_zero}
use Rattle.sets.proofs.Below.{all_each, all_by, table_more}
use Rattle.sets.proofs.Bytes.{Bytes, none, append_bytes}
use Rattle.sets.specs.Stores.{joined, each_of}

-- ---- parts

-- part q of the list, where each part has n elements
abbrev pub part : {A : Type 0} → ℕ → List A → ℕ → List A
part n l q = take n (drop (q * n) l)

module _ {A : Type 0} (n : ℕ) (l : List A) (q : ℕ) where
  pub length_part : length (part n l q) ≡ min n (length l - q * n)
  length_part = simp (length-take, length-drop)

  pub part_at : (d : A) (i : ℕ) → i < length (part n l q) → get_or (part n l q) i d ≡ get_or l (q * n + i) d
  part_at d i h = let k : i < n = omega (arith, length_part) in rw (get_or-take, get_or-drop)

-- ---- one run out of many

pub joined_append : (ps qs : List (List ℕ)) → joined (ps ++ qs) ≡ joined ps ++ joined qs
unfolding joined
joined_append [] qs = refl
joined_append (p ∷ ps) qs = ap (λ (t : List ℕ). p ++ t) (joined_append ps qs) ∙ sym (append_assoc p (joined ps) (joined qs))

-- with one piece more
pub joined_more : (ps : List (List ℕ)) (p : List ℕ) → joined (ps ++ (p ∷ [])) ≡ joined ps ++ p
unfolding joined
joined_more ps p = joined_append ps (p ∷ []) ∙ ap (λ (t : List ℕ). joined ps ++ t) (append-nil p)

-- a table, joined
pub joined_table : (f : ℕ → List ℕ) (n : ℕ) → joined (table f n) ≡ each_of f n
unfolding joined each_of table_from
joined_table f zero = refl
joined_table f (suc n) =
    ap joined (ap (table f) (sym (add-one n)) ∙ table_more f n) ∙ joined_more (table f n) (f n) ∙ ap (λ (t : List ℕ). t ++ f n) (joined_table f n)

-- ---- equal pieces

-- every piece has w bytes
abbrev pub Each : ℕ → List (List ℕ) → Type 0
Each w ps = (i : ℕ) → i < length ps → length (get_or ps i []) ≡ w

module _ (w : ℕ) where
  each_rest : (p : List ℕ) (ps : List (List ℕ)) → Each w (p ∷ ps) → Each w ps
  each_rest p ps e i l = e (suc i) (omega arith)

  -- all pieces together
  pub length_joined : (ps : List (List ℕ)) → Each w ps → length (joined ps) ≡ length ps * w
  unfolding joined
  length_joined [] e = omega arith
  length_joined (p ∷ ps) e =
      omega (arith, length-append p (joined ps), length_joined ps (each_rest p ps e), e 0 (omega arith))

  -- the parts of joined pieces are the pieces, whatever follows them
  pub piece_at : (ps : List (List ℕ)) (t : List ℕ) → Each w ps → (i : ℕ) → i < length ps → part w (joined ps ++ t) i ≡ get_or ps i []
  unfolding joined
  piece_at [] t e i l = absurd (not-suc-le-zero l)
  piece_at (p ∷ ps) t e zero l = rw (zero-mul, append_assoc) (take_at p (joined ps ++ t) w (e 0 l))
  piece_at (p ∷ ps) t e (suc i) l =
      let m : suc i * w ≡ w + i * w = omega arith in
      rw (m, append_assoc, ← drop-drop (i * w) w (p ++ (joined ps ++ t)), drop_at p (joined ps ++ t) w (e 0 (omega arith)))
      (piece_at ps t (each_rest p ps e) i (omega arith))

-- ---- bytes

pub joined_bytes : (ps : List (List ℕ)) → ((i : ℕ) → i < length ps → Bytes (get_or ps i [])) → Bytes (joined ps)
unfolding joined
joined_bytes [] b = none
joined_bytes (p ∷ ps) b = append_bytes (b 0 (omega arith)) (joined_bytes ps (λ i l. b (suc i) (omega arith)))

-- every byte is zero where each is, and the other way round
pub zeros_by : (s : List ℕ) → ((i : ℕ) → i < length s → get_or s i 0 ≡ 0) → all_zero s ≡ true
unfolding all_zero
zeros_by s h = all_by _ (length s) (λ i l. eq-eqb _ _ (h i l))

pub zero_at : (s : List ℕ) → all_zero s ≡ true → (i : ℕ) → get_or s i 0 ≡ 0
unfolding all_zero
zero_at s h i = go (ltb i (length s)) refl
  where
    go : (b : Bool) → ltb i (length s) ≡ b → get_or s i 0 ≡ 0
    go true e = eqb-true (get_or s i 0) 0 (all_each _ (length s) h i (ltb-true i (length s) e))
    go false e = get_or-eq_default s 0 (ltb-false i (length s) e)

-- a run of zeros
pub zeros : (n : ℕ) → all_zero (replicate n 0) ≡ true
zeros n = zeros_by (replicate n 0) (λ i l. get_or-replicate n i 0 0 (omega (arith, length-replicate {A = ℕ} n 0)))

-- ---- sums and counts

-- g grows by f at each step: the sum of f is g
pub sum_is : (f g : ℕ → ℕ) (n : ℕ) → g 0 ≡ 0 → ((i : ℕ) → i < n → g i + f i ≡ g (suc i)) → sum_below f n ≡ g n
unfolding sum_below
sum_is f g zero z h = sym z
sum_is f g (suc n) z h = rw (sum_is f g n z (λ i l. h i (omega arith))) (h n (omega arith))

-- a test that holds at the numbers below m, and at no other below n, holds at m of them
pub count_is : (p : ℕ → Bool) (m n : ℕ) → m ≤ n → ((i : ℕ) → i < n → p i ≡ ltb i m) → count_below p n ≡ m
unfolding count_below
count_is p m n l h = sum_is _ (λ i. min i m) n (omega arith) (λ i k. rw (h i k) (go i (ltb i m) refl)) ∙ omega arith
  where
    go : (i : ℕ) (b : Bool) → ltb i m ≡ b → min i m + cond b 1 0 ≡ min (suc i) m
    go i true e = omega (arith, ltb-true i m e)
    go i false e = omega (arith, ltb-false i m e)

-- at most is not more than
pub leb_not : (a b : ℕ) → leb a b ≡ not (ltb b a)
leb_not a b = go (leb a b) refl
  where
    go : (t : Bool) → leb a b ≡ t → t ≡ not (ltb b a)
    go true e = rw (le-ltb b a (leb-true a b e))
    go false e = rw (lt-ltb b a (leb-false a b e))
