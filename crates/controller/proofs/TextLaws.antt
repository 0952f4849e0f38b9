-- Laws of numbers as text, and of text in a buffer.
use mathlib.Core.Path.{◌≡◌, refl, sym, ap, ap₂, ◌∙◌}
use mathlib.Core.Bool.{Bool, true, false, cond}
use mathlib.Core.List.{List, [], ◌∷◌, ◌++◌, append_assoc, append-nil}
use Prim.Native.Nat.{ℕ, zero, suc, ◌+◌, ◌*◌, ◌-◌, ◌/◌, ◌%◌, ◌^◌, ◌≤◌, ◌<◌}
use native.Mathlib.Nat.{not-suc-le-zero, le_of_suc-le-suc, add-zero, pow-suc, one-le-pow, pow-le-pow_right}
use native.Mathlib.Numerals.{add-one}
use native.Mathlib.Omega.{arith}
use borrow.Author.Tests.{lt-ltb, le-ltb, ltb-true, ltb-false}
use lib.Dec.{ltb}
use lib.ListN.{length, take, drop, set, get_or, length-append, length-drop, take-append-drop}
use borrow.Rule.Slice.PartMut.{put_mid}
use Rattle.std.proofs.Common.{subst, take_all}
use lib.Seq.{get_or-take, take_at, drop_at, drop-drop, drop-cons, take-suc, set_at, length-take-le, append_snoc}
use Rattle.io.specs.Digits.{hex_digit_ascii, last_digits, IsDigitCount}
use Rattle.controller.specs.Text.{blank, newline, decimal_in, decimal, row_text, pasted}

-- ---- a number

glyph_is : (d : ℕ) → d < 10 → hex_digit_ascii d ≡ 48 + d
glyph_is d h = rw (lt-ltb d 10 h)

-- the digits that the library writes
pub digits_decimal : (w k n : ℕ) → k ≤ w → IsDigitCount 10 1 n k → last_digits 10 k n ≡ decimal_in w n
unfolding decimal_in
digits_decimal w zero n h f = absurd (not-suc-le-zero f.0)
digits_decimal zero (suc k) n h f = absurd (not-suc-le-zero h)
digits_decimal (suc w) (suc zero) n h f =
    let l : n < 10 = f.1 in
    let e : n % 10 ≡ n = omega arith in
    rw (lt-ltb n 10 l, e, glyph_is n l)
digits_decimal (suc w) (suc (suc k)) n h f =
    let two : suc (suc k) - 1 ≡ suc k = omega arith in
    let one : suc k - 1 ≡ k = omega arith in
    let low : 10 ^ suc k ≤ n = rw two at (f.2 (omega arith)) in
    let p = pow-suc 10 k in
    let q = pow-suc 10 (suc k) in
    let l : 10 ≤ n = omega (arith, one-le-pow k 10 (omega arith)) in
    rw (le-ltb n 10 l, glyph_is (n % 10) (omega arith))
    (ap (λ (ds : List ℕ). ds ++ ((48 + n % 10) ∷ [])) (digits_decimal w (suc k) (n / 10) (le_of_suc-le-suc h) (omega arith, omega (arith, f.1), λ _. rw one (omega arith))))

-- w digits hold it
fewest_room : (w n k : ℕ) → 1 ≤ w → n < 10 ^ w → IsDigitCount 10 1 n k → k ≤ w
fewest_room w n k one h f = go (ltb w k) refl
  where
    go : (b : Bool) → ltb w k ≡ b → k ≤ w
    go true e =
        let l = ltb-true w k e in
        let low = f.2 (omega arith) in
        let more : 10 ^ w ≤ 10 ^ (k - 1) = pow-le-pow_right (omega arith) (omega arith) in
        absurd (omega arith)
    go false e = ltb-false w k e

-- what the library left in its buffer
pub record Spelled (n k : ℕ) (ds : List ℕ) : Type 0 where
  pub few : k ≤ 20
  pub room : k ≤ length ds
  pub are : take k ds ≡ decimal n

pub spelled : (n k : ℕ) (ds : List ℕ) → n < 2 ^ 64 → k ≤ length ds → IsDigitCount 10 1 n k → take k ds ≡ last_digits 10 k n → Spelled n k ds
spelled n k ds h room f e =
    let few = fewest_room 20 n k (omega arith) (omega arith) f in
    record { few = few; room = room; are = e ∙ digits_decimal 20 k n few f }

pub length_decimal : (w n : ℕ) → length (decimal_in w n) ≤ w
unfolding decimal_in
length_decimal zero n = omega arith
length_decimal (suc w) n = go (ltb n 10) (length_decimal w (n / 10))
  where
    go : (b : Bool) → length (decimal_in w (n / 10)) ≤ w → length (cond b ((48 + n) ∷ []) (decimal_in w (n / 10) ++ ((48 + n % 10) ∷ []))) ≤ suc w
    go true h = omega arith
    go false h = omega (arith, length-append (decimal_in w (n / 10)) ((48 + n % 10) ∷ []))

-- ---- a row

pub row_last : (x : ℕ) → row_text (x ∷ []) ≡ decimal x ++ (newline ∷ [])
unfolding row_text
row_last x = refl

pub row_more : (x y : ℕ) (ys : List ℕ) → row_text (x ∷ y ∷ ys) ≡ (decimal x ++ (blank ∷ [])) ++ row_text (y ∷ ys)
unfolding row_text
row_more x y ys = sym (append_assoc (decimal x) (blank ∷ []) (row_text (y ∷ ys)))

-- a number and the byte behind it
pub length_number : (x a : ℕ) → length (decimal x ++ (a ∷ [])) ≤ 21
length_number x a = omega (arith, length-append (decimal x) (a ∷ []), length_decimal 20 x)

pub length_row : (x : ℕ) (xs : List ℕ) → length (row_text (x ∷ xs)) ≤ 21 * length (x ∷ xs)
length_row x [] = rw (row_last x) (length_number x newline)
length_row x (y ∷ ys) =
    rw (row_more x y ys)
    (omega (arith, length-append (decimal x ++ (blank ∷ [])) (row_text (y ∷ ys)), length_number x blank, length_row y ys))

-- ---- text in a buffer

pub pasted_none : (old : List ℕ) (p : ℕ) → pasted old p [] ≡ old
unfolding pasted
pasted_none old p = rw (add-zero, take-append-drop p old)

pasted_front : (old : List ℕ) (p : ℕ) (xs : List ℕ) → pasted old p xs ≡ (take p old ++ xs) ++ drop (p + length xs) old
unfolding pasted
pasted_front old p xs = sym (append_assoc (take p old) xs (drop (p + length xs) old))

module _ (old : List ℕ) (p : ℕ) (xs : List ℕ) (h : p + length xs ≤ length old) where
  length_front : length (take p old ++ xs) ≡ p + length xs
  length_front = omega (arith, length-append (take p old) xs, length-take-le p old (omega arith))

  pub length_pasted : length (pasted old p xs) ≡ length old
  length_pasted =
      ap length (pasted_front old p xs)
      ∙ omega (arith, length-append (take p old ++ xs) (drop (p + length xs) old), length_front, length-drop (p + length xs) old)

  -- the buffer before the next text and behind it
  take_pasted : take (p + length xs) (pasted old p xs) ≡ take p old ++ xs
  take_pasted = ap (take (p + length xs)) (pasted_front old p xs) ∙ take_at (take p old ++ xs) (drop (p + length xs) old) (p + length xs) length_front

  drop_pasted : (n : ℕ) → drop (p + length xs + n) (pasted old p xs) ≡ drop (p + length xs + n) old
  drop_pasted n =
      sym (drop-drop n (p + length xs) (pasted old p xs))
      ∙ ap (λ (l : List ℕ). drop n (drop (p + length xs) l)) (pasted_front old p xs)
      ∙ ap (drop n) (drop_at (take p old ++ xs) (drop (p + length xs) old) (p + length xs) length_front)
      ∙ drop-drop n (p + length xs) old

  -- text behind text
  pub pasted_more : (ys : List ℕ) → pasted (pasted old p xs) (p + length xs) ys ≡ pasted old p (xs ++ ys)
  pasted_more ys =
      let n : p + length (xs ++ ys) ≡ p + length xs + length ys = omega (arith, length-append xs ys) in
      pasted_front (pasted old p xs) (p + length xs) ys
      ∙ (rw (take_pasted, drop_pasted (length ys), append_assoc (take p old) xs ys))
      ∙ ap (λ (k : ℕ). (take p old ++ (xs ++ ys)) ++ drop k old) (sym n)
      ∙ sym (pasted_front old p (xs ++ ys))

  -- one byte behind text
  pub pasted_one : (x : ℕ) → p + length xs < length old → set (pasted old p xs) (p + length xs) x ≡ pasted old p (xs ++ (x ∷ []))
  pasted_one x l =
      let at = p + length xs in
      let n : p + length (xs ++ (x ∷ [])) ≡ suc at = omega (arith, length-append xs (x ∷ [])) in
      ap (λ (r : List ℕ). set r at x) (pasted_front old p xs ∙ ap (λ (r : List ℕ). (take p old ++ xs) ++ r) (drop-cons old at 0 l))
      ∙ set_at (take p old ++ xs) (get_or old at 0) (drop (suc at) old) x at length_front
      ∙ sym (append_snoc (take p old ++ xs) x (drop (suc at) old))
      ∙ ap (λ (r : List ℕ). r ++ drop (suc at) old) (append_assoc (take p old) xs (x ∷ []))
      ∙ ap (λ (k : ℕ). (take p old ++ (xs ++ (x ∷ []))) ++ drop k old) (sym n)
      ∙ sym (pasted_front old p (xs ++ (x ∷ [])))

-- ---- a number and a byte put

-- the digits copied to place p, and the byte set behind them
module _ (old : List ℕ) (p n k : ℕ) (ds : List ℕ) (h : Spelled n k ds) (room : p + 21 ≤ length old) (a : ℕ) where
  length_digits : length (take k ds) ≡ k
  length_digits = length-take-le k ds h.room

  pub put_place : p + k + 1 ≡ p + length (decimal n ++ (a ∷ []))
  put_place = omega (arith, length-append (decimal n) (a ∷ []), ap length h.are, length_digits)

  copied : put_mid p k old (take k ds) ≡ pasted old p (take k ds)
  unfolding pasted
  copied = ap (λ (l : List ℕ). take p old ++ (take k ds ++ l)) (drop-drop k p old ∙ ap (λ (j : ℕ). drop (p + j) old) (sym length_digits))

  pub put_text : (j : ℕ) (ys : List ℕ) → j ≡ k → ys ≡ take k ds → set (put_mid p j old ys) (p + k) a ≡ pasted old p (decimal n ++ (a ∷ []))
  put_text j ys e t =
      ap₂ (λ (m : ℕ) (xs : List ℕ). set (put_mid p m old xs) (p + k) a) e t
      ∙ ap₂ (λ (o : List ℕ) (m : ℕ). set o (p + m) a) copied (sym length_digits)
      ∙ pasted_one old p (take k ds) (omega (arith, length_digits, h.few)) a (omega (arith, length_digits, h.few))
      ∙ ap (λ (xs : List ℕ). pasted old p (xs ++ (a ∷ []))) h.are

-- ---- text put behind text

-- a text is put from place p on, and q is the place behind
pub record TextPut (old : List ℕ) (p : ℕ) (xs : List ℕ) (q : ℕ) (now : List ℕ) : Type 0 where
  pub place : q ≡ p + length xs
  pub text : now ≡ pasted old p xs

pub put_nothing : (old : List ℕ) (p : ℕ) → TextPut old p [] p old
put_nothing old p = record { place = sym (add-zero p); text = sym (pasted_none old p) }

module _ (old : List ℕ) (p : ℕ) (xs : List ℕ) (q : ℕ) (now : List ℕ) (w : TextPut old p xs q now) (h : p + length xs ≤ length old) where
  pub put_length : length now ≡ length old
  put_length = ap length w.text ∙ length_pasted old p xs h

  pub put_more : (ys : List ℕ) (r : ℕ) (next : List ℕ) → r ≡ q + length ys → next ≡ pasted now q ys → TextPut old p (xs ++ ys) r next
  put_more ys r next e t =
      record {
        place = omega (arith, w.place, length-append xs ys);
        text = t ∙ ap₂ (λ (o : List ℕ) (k : ℕ). pasted o k ys) w.text w.place ∙ pasted_more old p xs h ys;
      }

-- ---- a row put number by number

-- numbers, a blank behind each
unfoldable pub spaced : List ℕ → List ℕ
spaced [] = []
spaced (x ∷ xs) = (decimal x ++ (blank ∷ [])) ++ spaced xs

spaced_more : (xs : List ℕ) (x : ℕ) → spaced (xs ++ (x ∷ [])) ≡ spaced xs ++ (decimal x ++ (blank ∷ []))
unfolding spaced
spaced_more [] x = append-nil (decimal x ++ (blank ∷ []))
spaced_more (y ∷ ys) x =
    ap (λ (l : List ℕ). (decimal y ++ (blank ∷ [])) ++ l) (spaced_more ys x)
    ∙ sym (append_assoc (decimal y ++ (blank ∷ [])) (spaced ys) (decimal x ++ (blank ∷ [])))

length_spaced : (xs : List ℕ) → length (spaced xs) ≤ 21 * length xs
unfolding spaced
length_spaced [] = omega arith
length_spaced (x ∷ xs) = omega (arith, length-append (decimal x ++ (blank ∷ [])) (spaced xs), length_number x blank, length_spaced xs)

row_spaced : (xs : List ℕ) (x : ℕ) → row_text (xs ++ (x ∷ [])) ≡ spaced xs ++ (decimal x ++ (newline ∷ []))
unfolding spaced
row_spaced [] x = row_last x
row_spaced (y ∷ []) x =
    row_more y x []
    ∙ ap₂ (λ (a b : List ℕ). a ++ b) (sym (append-nil (decimal y ++ (blank ∷ [])))) (row_last x)
row_spaced (y ∷ z ∷ zs) x =
    row_more y z (zs ++ (x ∷ []))
    ∙ ap (λ (l : List ℕ). (decimal y ++ (blank ∷ [])) ++ l) (row_spaced (z ∷ zs) x)
    ∙ sym (append_assoc (decimal y ++ (blank ∷ [])) (spaced (z ∷ zs)) (decimal x ++ (newline ∷ [])))

pub row_start : (old : List ℕ) (p : ℕ) (row : List ℕ) → TextPut old p (spaced (take 0 row)) p old
unfolding spaced
row_start old p row = put_nothing old p

-- i numbers of a row of seven are put, of those before the last
module _ (old : List ℕ) (p : ℕ) (row : List ℕ) (i q : ℕ) (now : List ℕ) (w : TextPut old p (spaced (take i row)) q now) (seven : length row ≡ 7) (before : i ≤ length (take 6 row)) (room : p + 147 ≤ length old) where
  six : length (take 6 row) ≡ 6
  six = length-take-le 6 row (omega (arith, seven))

  few : length (spaced (take i row)) ≤ 21 * i
  few = omega (arith, length_spaced (take i row), length-take-le i row (omega (arith, seven, six, before)))

  fits : p + length (spaced (take i row)) ≤ length old
  fits = omega (arith, few, six, before, room)

  -- the i numbers and number i
  one_more : take (suc i) row ≡ take i row ++ (get_or row i 0 ∷ [])
  one_more = take-suc row i 0 (omega (arith, seven, six, before))

  -- room for one more
  pub number_room : q + 21 ≤ length now
  number_room = omega (arith, w.place, few, six, before, room, put_length old p (spaced (take i row)) q now w fits)

  pub number_turn : i < length (take 6 row) → (r : ℕ) (next : List ℕ) → r ≡ q + length (decimal (get_or (take 6 row) i 0) ++ (blank ∷ []))
      → next ≡ pasted now q (decimal (get_or (take 6 row) i 0) ++ (blank ∷ [])) → TextPut old p (spaced (take (i + 1) row)) r next
  number_turn more r next e t =
      let x = get_or (take 6 row) i 0 in
      rw (add-one i, one_more, ← (get_or-take 6 row i 0 (omega (arith, six, more))), spaced_more (take i row) x)
      (put_more old p (spaced (take i row)) q now w fits (decimal x ++ (blank ∷ [])) r next e t)

  pub number_last : length (take 6 row) ≤ i → (r : ℕ) (next : List ℕ) → r ≡ q + length (decimal (get_or row 6 0) ++ (newline ∷ []))
      → next ≡ pasted now q (decimal (get_or row 6 0) ++ (newline ∷ [])) → TextPut old p (row_text row) r next
  number_last last r next e t =
      let x = get_or row 6 0 in
      let all : take i row ++ (x ∷ []) ≡ row =
      ap (λ (k : ℕ). take i row ++ (get_or row k 0 ∷ [])) (omega (arith, six, before, last)) ∙ sym one_more ∙ take_all (suc i) row (omega (arith, seven, six, last)) in
      subst (λ (l : List ℕ). TextPut old p l r next) (sym (row_spaced (take i row) x) ∙ ap row_text all)
      (put_more old p (spaced (take i row)) q now w fits (decimal x ++ (newline ∷ [])) r next e t)
