-- Laws of bytes that are stored one after the other.
use mathlib.Core.Path.{◌≡◌, refl, sym, ap, subst, ◌∙◌}
use mathlib.Core.List.{List, [], ◌∷◌, ◌++◌, append_assoc, append-nil}
use Prim.Native.Nat.{ℕ, zero, suc, ◌+◌, ◌*◌, ◌≤◌, ◌<◌}
use native.Mathlib.Nat.{add-zero, add-suc, suc-add}
use native.Mathlib.Numerals.{add-one}
use native.Mathlib.Omega.{arith}
use lib.ListN.{length, take, drop, set, length-append, length-set, length-drop, take-append-drop}
use lib.Seq.{sets, length-sets, sets-eq, drop-set-lt, take-set-le, drop_at, take_at, take-add, length-take-le}
use Rattle.sets.specs.Below.{table_from, table}
use Rattle.sets.specs.Stores.{each_of, onto, stored}
use Rattle.sets.proofs.Below.{length_table, table_more}

-- ---- one store, and then others

-- a buffer keeps its length
pub length_stored : {A : Type 0} (old : List A) (p : ℕ) (bytes : List A) → length (stored old p bytes) ≡ length old
unfolding stored
length_stored old p bytes = length-sets old p bytes

-- nothing is stored
pub stored_none : {A : Type 0} (old : List A) (p : ℕ) → old ≡ stored old p []
unfolding stored
stored_none old p = refl

-- the stores of straight code: at p, p + 1, p + 2 and so on
unfoldable pub chained_from : List ℕ → ℕ → ℕ → List ℕ → List ℕ
chained_from old p k [] = old
chained_from old p k (x ∷ xs) = chained_from (set old (p + k) x) p (suc k) xs

unfoldable pub chained : List ℕ → ℕ → List ℕ → List ℕ
chained old p [] = old
chained old p (x ∷ xs) = chained_from (set old p x) p 1 xs

from_stored : (xs old : List ℕ) (p k : ℕ) → chained_from old p k xs ≡ sets old (p + k) xs
unfolding chained_from
from_stored [] old p k = refl
from_stored (x ∷ xs) old p k =
    from_stored xs (set old (p + k) x) p (suc k) ∙ ap (λ (q : ℕ). sets (set old (p + k) x) q xs) (add-suc p k)

pub chained_stored : (old : List ℕ) (p : ℕ) (xs : List ℕ) → chained old p xs ≡ stored old p xs
unfolding chained stored
chained_stored old p [] = refl
chained_stored old p (x ∷ xs) = from_stored xs (set old p x) p 1 ∙ ap (λ (q : ℕ). sets (set old p x) q xs) (add-one p)

-- such stores keep the length
from_length : (xs old : List ℕ) (p k : ℕ) → length (chained_from old p k xs) ≡ length old
unfolding chained_from
from_length [] old p k = refl
from_length (x ∷ xs) old p k = from_length xs (set old (p + k) x) p (suc k) ∙ length-set old (p + k) x

pub length_chained : (old : List ℕ) (p : ℕ) (xs : List ℕ) → length (chained old p xs) ≡ length old
unfolding chained
length_chained old p [] = refl
length_chained old p (x ∷ xs) = from_length xs (set old p x) p 1 ∙ length-set old p x

-- so that there is a place for the next
pub in_chain : (old : List ℕ) (p : ℕ) (xs : List ℕ) (i : ℕ) → i < length old → i < length (chained old p xs)
in_chain old p xs i h = subst (λ (n : ℕ). i < n) (sym (length_chained old p xs)) h

sets_more : {A : Type 0} (xs ys old : List A) (p : ℕ) → sets old p (xs ++ ys) ≡ sets (sets old p xs) (p + length xs) ys
sets_more [] ys old p = ap (λ (q : ℕ). sets old q ys) (sym (add-zero p))
sets_more (x ∷ xs) ys old p =
    sets_more xs ys (set old p x) (suc p)
    ∙ ap (λ (q : ℕ). sets (sets (set old p x) (suc p) xs) q ys) (suc-add p (length xs) ∙ sym (add-suc p (length xs)))

-- after some bytes, those that come behind them
pub stored_more : {A : Type 0} (old now next xs ys : List A) (p q : ℕ) → now ≡ stored old p xs → next ≡ stored now q ys → q ≡ p + length xs
    → next ≡ stored old p (xs ++ ys)
unfolding stored
stored_more old now next xs ys p q e f h =
    f
    ∙ ap (λ l. sets l q ys) e
    ∙ ap (λ (k : ℕ). sets (sets old p xs) k ys) h
    ∙ sym (sets_more xs ys old p)

-- the same bytes
pub stored_same : (old now xs ys : List ℕ) (p : ℕ) → now ≡ stored old p xs → xs ≡ ys → now ≡ stored old p ys
stored_same old now xs ys p e f = e ∙ ap (stored old p) f

-- all of it at the start of a buffer with room for it
pub stored_onto : (old bytes : List ℕ) → length bytes ≤ length old → stored old 0 bytes ≡ onto bytes old
unfolding stored
stored_onto old bytes h =
    let e : 0 + length bytes ≡ length bytes = omega arith in
    sets-eq bytes old 0 (omega arith) ∙ ap (λ (k : ℕ). bytes ++ drop k old) e

-- ---- what stands in a buffer after a store

-- behind the bytes nothing changed
pub behind_stored : (xs old : List ℕ) (p q : ℕ) → p + length xs ≤ q → drop q (stored old p xs) ≡ drop q old
unfolding stored
behind_stored [] old p q h = refl
behind_stored (x ∷ xs) old p q h =
    behind_stored xs (set old p x) (suc p) q (omega (arith, h)) ∙ drop-set-lt q old p x (omega (arith, h))

-- and before them
pub before_stored : (xs old : List ℕ) (p q : ℕ) → q ≤ p → take q (stored old p xs) ≡ take q old
unfolding stored
before_stored [] old p q h = refl
before_stored (x ∷ xs) old p q h = before_stored xs (set old p x) (suc p) q (omega (arith, h)) ∙ take-set-le q old p x h

-- the bytes are read where they were stored
pub read_stored : (old : List ℕ) (p : ℕ) (xs : List ℕ) → p + length xs ≤ length old → take (length xs) (drop p (stored old p xs)) ≡ xs
unfolding stored
read_stored old p xs h =
    ap (λ (l : List ℕ). take (length xs) (drop p l)) (sets-eq xs old p h ∙ append_assoc (take p old) xs (drop (p + length xs) old))
    ∙ ap (take (length xs)) (drop_at (take p old) (xs ++ drop (p + length xs) old) p (length-take-le p old (omega (arith, h))))
    ∙ take_at xs (drop (p + length xs) old) (length xs) refl

-- to store what stands there changes nothing
pub stored_there : (old : List ℕ) (p n : ℕ) → p + n ≤ length old → old ≡ stored old p (take n (drop p old))
unfolding stored
stored_there old p n h =
    let k : length (take n (drop p old)) ≡ n = length-take-le n (drop p old) (omega (arith, length-drop p old)) in
    sym (sets-eq (take n (drop p old)) old p (omega (arith, k))
    ∙ ap (λ (i : ℕ). take p old ++ take n (drop p old) ++ drop (p + i) old) k
    ∙ ap (λ (l : List ℕ). l ++ drop (p + n) old) (sym (take-add p n old))
    ∙ take-append-drop (p + n) old)

-- what is stored over is gone
pub stored_over : (old xs ys : List ℕ) (p q : ℕ) → q ≤ p → p + length xs ≤ q + length ys → q + length ys ≤ length old
    → stored (stored old p xs) q ys ≡ stored old q ys
unfolding stored
stored_over old xs ys p q l h room =
    let mid = stored old p xs in
    sets-eq ys mid q (omega (arith, length_stored old p xs))
    ∙ ap (λ (t : List ℕ). t ++ ys ++ drop (q + length ys) mid) (before_stored xs old p q l)
    ∙ ap (λ (t : List ℕ). take q old ++ ys ++ t) (behind_stored xs old p (q + length ys) h)
    ∙ sym (sets-eq ys old q room)

-- ---- byte by byte

-- a loop that stores f 0, f 1 and so on, from place p on: its start, a turn and its end
module _ {A : Type 0} (f : ℕ → A) (old : List A) (p : ℕ) where
  pub bytes_start : old ≡ stored old p (table f 0)
  unfolding table_from
  bytes_start = stored_none old p

  pub bytes_turn : (now : List A) (i : ℕ) (x : A) → now ≡ stored old p (table f i) → x ≡ f i → set now (p + i) x ≡ stored old p (table f (i + 1))
  unfolding stored
  bytes_turn now i x e g =
      stored_more old now (set now (p + i) x) (table f i) (x ∷ []) p (p + i) e refl (ap (λ (k : ℕ). p + k) (sym (length_table f i)))
      ∙ ap (stored old p) (ap (λ y. table f i ++ (y ∷ [])) g ∙ sym (table_more f i))

  pub bytes_end : (now : List A) (i n : ℕ) → i ≤ n → n ≤ i → now ≡ stored old p (table f i) → now ≡ stored old p (table f n)
  bytes_end now i n l g e = let k : i ≡ n = omega arith in e ∙ ap (λ (j : ℕ). stored old p (table f j)) k

-- ---- the same number of bytes for each

module _ (f : ℕ → List ℕ) (size : ℕ) (each : (i : ℕ) → length (f i) ≡ size) where
  pub length_each : (n : ℕ) → length (each_of f n) ≡ size * n
  unfolding each_of
  length_each zero = omega arith
  length_each (suc n) = length-append (each_of f n) (f n) ∙ omega (arith, length_each n, each n)

  -- a loop that stores each: its start, a turn and its end
  pub each_start : (old : List ℕ) (p : ℕ) → old ≡ stored old p (each_of f 0)
  unfolding each_of
  each_start old p = stored_none old p

  pub each_turn : (old now next : List ℕ) (p q i : ℕ) → q ≡ p + size * i → now ≡ stored old p (each_of f i) → next ≡ stored now q (f i)
      → next ≡ stored old p (each_of f (i + 1))
  unfolding each_of
  each_turn old now next p q i h e g =
      rw add-one (stored_more old now next (each_of f i) (f i) p q e g (h ∙ ap (λ (k : ℕ). p + k) (sym (length_each i))))

-- the same for each
pub each_same : (f g : ℕ → List ℕ) (n : ℕ) → ((i : ℕ) → i < n → f i ≡ g i) → each_of f n ≡ each_of g n
unfolding each_of
each_same f g zero h = refl
each_same f g (suc n) h = rw (each_same f g n (λ i l. h i (omega arith)), h n (omega arith))

-- the first m, then n more
pub each_add : (f : ℕ → List ℕ) (m n : ℕ) → each_of f (m + n) ≡ each_of f m ++ each_of (λ i. f (m + i)) n
unfolding each_of
each_add f m zero = ap (each_of f) (add-zero m) ∙ sym (append-nil (each_of f m))
each_add f m (suc n) =
    ap (each_of f) (add-suc m n)
    ∙ ap (λ (t : List ℕ). t ++ f (m + n)) (each_add f m n)
    ∙ append_assoc (each_of f m) (each_of (λ i. f (m + i)) n) (f (m + n))

pub each_end : (f : ℕ → List ℕ) (old now : List ℕ) (p i n : ℕ) → i ≤ n → n ≤ i → now ≡ stored old p (each_of f i) → now ≡ stored old p (each_of f n)
each_end f old now p i n l g e = let k : i ≡ n = omega arith in e ∙ ap (λ (j : ℕ). stored old p (each_of f j)) k
