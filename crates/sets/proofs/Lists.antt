-- Laws of lists of anything: whether all or some pass a test, those that do, how many, the first, one taken out, blank places behind, and a loop's turn for each.
use Rattle.std.specs.Prelude.{Some, None}
use mathlib.Core.Path.{◌≡◌, refl, sym, ap, ap₂, subst, ◌∙◌}
use mathlib.Core.Bool.{Bool, true, false, ◌&&◌, ◌||◌, not, cond, or-true}
use mathlib.Core.List.{List, [], ◌∷◌, ◌++◌, map, append_assoc}
use Prim.Native.Nat.{ℕ, zero, suc, ◌+◌, ◌-◌, ◌≤◌, ◌<◌, suc-le-suc}
use native.Mathlib.Nat.{not-suc-le-zero, le_of_suc-le-suc}
use native.Mathlib.Numerals.{add-one}
use native.Mathlib.Omega.{arith}
use borrow.Author.Tests.{ltb-true, ltb-false, eq-eqb, not-true}
use lib.Dec.{eqb, ltb, eqb-zero-suc, eqb-suc-zero, eqb-suc-suc}
use lib.ListN.{length, take, drop, set, get_or, replicate, length-append, length-take, length-drop, length-replicate, get_or-replicate, drop_of_length-le, get_or-append}
use lib.Seq.{take-suc, take-nil, drop-cons, split_at, take-append_seam, get_or-append-add, get_or-take, length-take-le, set_at, ext_get_or}
use Rattle.sets.specs.Below.{sum_below, count_below, table_from, table}
use Rattle.sets.specs.Lists.{all_of, some_of, passing, counted, first_from, without, padded, folded, is_one_of}
use Rattle.sets.proofs.Tests.{not_both, and_true, and_both, or_other, is_false, choose}
use Rattle.sets.proofs.Below.{no_at, at_is, table_more}

-- a test that implies another counts no more
one_le : (a b : Bool) → (a ≡ true → b ≡ true) → cond a 1 0 ≤ cond b 1 0
one_le true b h = rw (h refl) (omega arith)
one_le false true h = omega arith
one_le false false h = omega arith

-- of two one holds: where the one gives c and the other d, c or d
or_both : (a c b d : Bool) → (a ≡ true → c ≡ true) → (b ≡ true → d ≡ true) → (a || b) ≡ true → (c || d) ≡ true
or_both true c b d f g h = rw (f refl)
or_both false c b d f g h = rw (g h, or-true c)

module _ {A : Type 0} where
  -- ---- each passes

  pub all_of_at : (p : A → Bool) (xs : List A) (d : A) → all_of p xs ≡ true → (i : ℕ) → i < length xs → p (get_or xs i d) ≡ true
  unfolding all_of
  all_of_at p [] d h i l = absurd (not-suc-le-zero l)
  all_of_at p (x ∷ xs) d h zero l = (and_both (p x) (all_of p xs) h).left
  all_of_at p (x ∷ xs) d h (suc i) l = all_of_at p xs d (and_both (p x) (all_of p xs) h).right i (le_of_suc-le-suc l)

  pub all_of_by : (p : A → Bool) (xs : List A) (d : A) → ((i : ℕ) → i < length xs → p (get_or xs i d) ≡ true) → all_of p xs ≡ true
  unfolding all_of
  all_of_by p [] d f = refl
  all_of_by p (x ∷ xs) d f = and_true (f zero (omega arith)) (all_of_by p xs d (λ i l. f (suc i) (suc-le-suc l)))

  pub all_of_append : (p : A → Bool) (xs ys : List A) → all_of p xs ≡ true → all_of p ys ≡ true → all_of p (xs ++ ys) ≡ true
  unfolding all_of
  all_of_append p [] ys h k = k
  all_of_append p (x ∷ xs) ys h k =
      let b = and_both (p x) (all_of p xs) h in
      and_true b.left (all_of_append p xs ys b.right k)

  pub all_of_passing : (p q : A → Bool) (xs : List A) → all_of p xs ≡ true → all_of p (passing q xs) ≡ true
  unfolding all_of passing
  all_of_passing p q [] h = refl
  all_of_passing p q (x ∷ xs) h =
      let b = and_both (p x) (all_of p xs) h in
      choose
      (λ (ys : List A). all_of p ys ≡ true)
      (q x)
      (λ _. and_true b.left (all_of_passing p q xs b.right))
      (λ _. all_of_passing p q xs b.right)

  -- those that pass do pass
  pub passing_pass : (p : A → Bool) (xs : List A) → all_of p (passing p xs) ≡ true
  unfolding all_of passing
  passing_pass p [] = refl
  passing_pass p (x ∷ xs) =
      choose (λ (ys : List A). all_of p ys ≡ true) (p x) (λ e. and_true e (passing_pass p xs)) (λ _. passing_pass p xs)

  pub all_of_take : (p : A → Bool) (i : ℕ) (xs : List A) → all_of p xs ≡ true → all_of p (take i xs) ≡ true
  unfolding all_of
  all_of_take p zero xs h = refl
  all_of_take p (suc i) [] h = refl
  all_of_take p (suc i) (x ∷ xs) h =
      let b = and_both (p x) (all_of p xs) h in
      and_true b.left (all_of_take p i xs b.right)

  pub all_of_drop : (p : A → Bool) (i : ℕ) (xs : List A) → all_of p xs ≡ true → all_of p (drop i xs) ≡ true
  unfolding all_of
  all_of_drop p zero xs h = h
  all_of_drop p (suc i) [] h = h
  all_of_drop p (suc i) (x ∷ xs) h = all_of_drop p i xs (and_both (p x) (all_of p xs) h).right

  pub all_of_without : (p : A → Bool) (i : ℕ) (xs : List A) → all_of p xs ≡ true → all_of p (without i xs) ≡ true
  unfolding without
  all_of_without p i xs h = all_of_append p (take i xs) (drop (suc i) xs) (all_of_take p i xs h) (all_of_drop p (suc i) xs h)

  pub all_of_weaker : (p q : A → Bool) (xs : List A) → ((x : A) → p x ≡ true → q x ≡ true) → all_of p xs ≡ true → all_of q xs ≡ true
  unfolding all_of
  all_of_weaker p q [] f h = refl
  all_of_weaker p q (x ∷ xs) f h =
      let b = and_both (p x) (all_of p xs) h in
      and_true (f x b.left) (all_of_weaker p q xs f b.right)

  pub all_of_each : (p : A → Bool) (xs : List A) → ((x : A) → p x ≡ true) → all_of p xs ≡ true
  unfolding all_of
  all_of_each p [] f = refl
  all_of_each p (x ∷ xs) f = and_true (f x) (all_of_each p xs f)

  -- ---- some pass

  pub some_of_by : (p : A → Bool) (xs : List A) (d : A) (i : ℕ) → i < length xs → p (get_or xs i d) ≡ true → some_of p xs ≡ true
  unfolding some_of
  some_of_by p [] d i l e = absurd (not-suc-le-zero l)
  some_of_by p (x ∷ xs) d zero l e = rw e
  some_of_by p (x ∷ xs) d (suc i) l e = rw (some_of_by p xs d i (le_of_suc-le-suc l) e, or-true (p x))

  pub none_some_of : (p : A → Bool) (xs : List A) → all_of (λ x. not (p x)) xs ≡ true → some_of p xs ≡ false
  unfolding some_of all_of
  none_some_of p [] h = refl
  none_some_of p (x ∷ xs) h =
      let b = and_both (not (p x)) (all_of (λ y. not (p y)) xs) h in
      rw (not-true (p x) b.left, none_some_of p xs b.right)

  pub some_of_append : (p : A → Bool) (xs ys : List A) → some_of p xs ≡ true → some_of p (xs ++ ys) ≡ true
  unfolding some_of
  some_of_append p [] ys h = not_both h refl
  some_of_append p (x ∷ xs) ys h = or_both (p x) (p x) (some_of p xs) (some_of p (xs ++ ys)) (λ e. e) (some_of_append p xs ys) h

  pub some_of_map : (g : A → A) (p : A → Bool) (xs : List A) → ((x : A) → p x ≡ true → p (g x) ≡ true) → some_of p xs ≡ true
      → some_of p (map g xs) ≡ true
  unfolding some_of
  some_of_map g p [] f h = not_both h refl
  some_of_map g p (x ∷ xs) f h = or_both (p x) (p (g x)) (some_of p xs) (some_of p (map g xs)) (f x) (some_of_map g p xs f) h

  -- where those that pass p pass q, they are among those that pass q
  pub some_of_passing : (p q : A → Bool) (xs : List A) → ((x : A) → p x ≡ true → q x ≡ true) → some_of p xs ≡ true
      → some_of p (passing q xs) ≡ true
  unfolding some_of passing
  some_of_passing p q [] f h = not_both h refl
  some_of_passing p q (x ∷ xs) f h =
      choose
      (λ (ys : List A). some_of p ys ≡ true)
      (q x)
      (λ _. or_both (p x) (p x) (some_of p xs) (some_of p (passing q xs)) (λ k. k) (some_of_passing p q xs f) h)
      (λ e. some_of_passing p q xs f (or_other (p x) (some_of p xs) h (is_false (p x) (λ k. not_both (f x k) e))))

  -- ---- those that pass

  pub passing_append : (p : A → Bool) (xs ys : List A) → passing p (xs ++ ys) ≡ passing p xs ++ passing p ys
  unfolding passing
  passing_append p [] ys = refl
  passing_append p (x ∷ xs) ys = rw (passing_append p xs ys) (go (p x))
    where
      go : (b : Bool)
          → cond b (x ∷ (passing p xs ++ passing p ys)) (passing p xs ++ passing p ys) ≡ cond b (x ∷ passing p xs) (passing p xs) ++ passing p ys
      go true = refl
      go false = refl

  pub passing_more : (p : A → Bool) (l : List A) (i : ℕ) (d : A) → i < length l
      → passing p (take (i + 1) l) ≡ passing p (take i l) ++ cond (p (get_or l i d)) (get_or l i d ∷ []) []
  unfolding passing
  passing_more p l i d h = rw (add-one, take-suc l i d h, passing_append p (take i l) (get_or l i d ∷ []))

  pub passing_all : (p : A → Bool) (xs : List A) → all_of p xs ≡ true → passing p xs ≡ xs
  unfolding passing all_of
  passing_all p [] h = refl
  passing_all p (x ∷ xs) h =
      let b = and_both (p x) (all_of p xs) h in
      rw (b.left, passing_all p xs b.right)

  pub passing_none : (p : A → Bool) (xs : List A) → all_of (λ x. not (p x)) xs ≡ true → passing p xs ≡ []
  unfolding passing all_of
  passing_none p [] h = refl
  passing_none p (x ∷ xs) h =
      let b = and_both (not (p x)) (all_of (λ y. not (p y)) xs) h in
      rw (not-true (p x) b.left, passing_none p xs b.right)

  pub passing_twice : (p q : A → Bool) (xs : List A) → passing q (passing p xs) ≡ passing (λ x. p x && q x) xs
  unfolding passing
  passing_twice p q [] = refl
  passing_twice p q (x ∷ xs) = rw (← (passing_twice p q xs)) (go (p x))
    where
      go : (b : Bool)
          → passing q (cond b (x ∷ passing p xs) (passing p xs)) ≡ cond (b && q x) (x ∷ passing q (passing p xs)) (passing q (passing p xs))
      go true = refl
      go false = refl

  pub passing_same_where : (r p q : A → Bool) (xs : List A) → all_of r xs ≡ true → ((x : A) → r x ≡ true → p x ≡ q x) → passing p xs ≡ passing q xs
  unfolding passing all_of
  passing_same_where r p q [] h f = refl
  passing_same_where r p q (x ∷ xs) h f =
      let b = and_both (r x) (all_of r xs) h in
      rw (f x b.left, passing_same_where r p q xs b.right f)

  pub length_passing : (p : A → Bool) (xs : List A) → length (passing p xs) ≡ counted p xs
  unfolding passing counted
  length_passing p [] = refl
  length_passing p (x ∷ xs) = go (p x) (length_passing p xs)
    where
      go : (b : Bool) → length (passing p xs) ≡ counted p xs → length (cond b (x ∷ passing p xs) (passing p xs)) ≡ cond b 1 0 + counted p xs
      go true e = omega arith
      go false e = omega arith

  -- ---- how many pass

  pub counted_append : (p : A → Bool) (xs ys : List A) → counted p (xs ++ ys) ≡ counted p xs + counted p ys
  unfolding counted
  counted_append p [] ys = omega arith
  counted_append p (x ∷ xs) ys = omega (arith, counted_append p xs ys)

  pub counted_more : (p : A → Bool) (l : List A) (i : ℕ) (d : A) → i < length l
      → counted p (take (i + 1) l) ≡ counted p (take i l) + cond (p (get_or l i d)) 1 0
  unfolding counted
  counted_more p l i d h = rw (add-one, take-suc l i d h) (omega (arith, counted_append p (take i l) (get_or l i d ∷ [])))

  pub counted_bound : (p : A → Bool) (xs : List A) → counted p xs ≤ length xs
  unfolding counted
  counted_bound p [] = omega arith
  counted_bound p (x ∷ xs) = omega (arith, counted_bound p xs, one_le (p x) true (λ _. refl))

  pub counted_none : (p : A → Bool) (xs : List A) → counted p xs ≡ 0 → all_of (λ x. not (p x)) xs ≡ true
  unfolding counted all_of
  counted_none p [] h = refl
  counted_none p (x ∷ xs) h = and_true (go (p x) h) (counted_none p xs (omega arith))
    where
      go : (b : Bool) → cond b 1 0 + counted p xs ≡ 0 → not b ≡ true
      go true e = absurd (omega arith)
      go false e = refl

  pub none_counted : (p : A → Bool) (xs : List A) → all_of (λ x. not (p x)) xs ≡ true → counted p xs ≡ 0
  unfolding counted all_of
  none_counted p [] h = refl
  none_counted p (x ∷ xs) h =
      let b = and_both (not (p x)) (all_of (λ y. not (p y)) xs) h in
      rw (not-true (p x) b.left, none_counted p xs b.right)

  pub counted_same_where : (r p q : A → Bool) (xs : List A) → all_of r xs ≡ true → ((x : A) → r x ≡ true → p x ≡ q x) → counted p xs ≡ counted q xs
  unfolding counted all_of
  counted_same_where r p q [] h f = refl
  counted_same_where r p q (x ∷ xs) h f =
      let b = and_both (r x) (all_of r xs) h in
      rw (f x b.left, counted_same_where r p q xs b.right f)

  pub counted_same : (p q : A → Bool) (xs : List A) → ((x : A) → p x ≡ q x) → counted p xs ≡ counted q xs
  unfolding counted
  counted_same p q [] f = refl
  counted_same p q (x ∷ xs) f = rw (f x, counted_same p q xs f)

  pub counted_passing : (p q : A → Bool) (xs : List A) → counted p (passing q xs) ≡ counted (λ x. q x && p x) xs
  counted_passing p q xs =
      sym (length_passing p (passing q xs)) ∙ ap length (passing_twice q p xs) ∙ length_passing (λ x. q x && p x) xs

  pub counted_weaker : (p q : A → Bool) (xs : List A) → ((x : A) → p x ≡ true → q x ≡ true) → counted p xs ≤ counted q xs
  unfolding counted
  counted_weaker p q [] f = omega arith
  counted_weaker p q (x ∷ xs) f = omega (arith, counted_weaker p q xs f, one_le (p x) (q x) (f x))

  pub counted_without : (p : A → Bool) (i : ℕ) (xs : List A) (d : A) → i < length xs
      → counted p (without i xs) + cond (p (get_or xs i d)) 1 0 ≡ counted p xs
  unfolding counted without
  counted_without p i xs d h =
      omega (
        arith,
        ap (counted p) (split_at xs i d h),
        counted_append p (take i xs) (get_or xs i d ∷ drop (suc i) xs),
        counted_append p (take i xs) (drop (suc i) xs),
      )

  -- in a table: at how many numbers
  pub counted_table : (p : A → Bool) (f : ℕ → A) (n : ℕ) → counted p (table f n) ≡ count_below (λ k. p (f k)) n
  unfolding counted table_from count_below sum_below
  counted_table p f zero = refl
  counted_table p f (suc n) =
      ap (λ (k : ℕ). counted p (table f k)) (sym (add-one n))
      ∙ ap (counted p) (table_more f n)
      ∙ counted_append p (table f n) (f n ∷ [])
      ∙ omega (arith, counted_table p f n)

  -- ---- the first that passes: a loop's turn and its end

  pub find_hit : (p : A → Bool) (l : List A) (i : ℕ) (d : A) → i < length l → p (get_or l i d) ≡ true → first_from i p (drop i l) ≡ Some i
  unfolding first_from
  find_hit p l i d h e = rw (drop-cons l i d h, e)

  pub find_miss : (p : A → Bool) (l : List A) (i : ℕ) (d : A) → i < length l → p (get_or l i d) ≡ false
      → first_from i p (drop i l) ≡ first_from (i + 1) p (drop (i + 1) l)
  unfolding first_from
  find_miss p l i d h e = rw (add-one, drop-cons l i d h, e)

  pub find_end : (p : A → Bool) (l : List A) (i : ℕ) → length l ≤ i → first_from i p (drop i l) ≡ None
  unfolding first_from
  find_end p l i h = rw (drop_of_length-le l {i = i} h)

-- i is the place of the first of l that passes
pub record FirstAt {A : Type 0} (p : A → Bool) (l : List A) (d : A) (i : ℕ) : Type 0 where
  pub below : i < length l
  pub here : p (get_or l i d) ≡ true
  pub before : (j : ℕ) → j < i → p (get_or l j d) ≡ false

-- the same, where the list starts at place s
record FoundAt {A : Type 0} (p : A → Bool) (l : List A) (d : A) (s i : ℕ) : Type 0 where
  k : ℕ
  place : s + k ≡ i
  first : FirstAt p l d k

module _ {A : Type 0} (p : A → Bool) where
  found_at : (l : List A) (d : A) (s i : ℕ) → first_from s p l ≡ Some i → FoundAt p l d s i
  unfolding first_from
  found_at [] d s i h = no_at h
  found_at (x ∷ xs) d s i h = go (found_at xs d (suc s) i) (p x) refl h
    where
      go : (first_from (suc s) p xs ≡ Some i → FoundAt p xs d (suc s) i) → (b : Bool) → p x ≡ b → cond b (Some s) (first_from (suc s) p xs) ≡ Some i → FoundAt p (x ∷ xs) d s i
      go ih true e f =
          record {
            k = 0;
            place = omega (arith, at_is f);
            first = record { below = omega arith; here = e; before = λ j l. absurd (not-suc-le-zero l) };
          }
      go ih false e f =
          let r = ih f in
          record {
            k = suc r.k;
            place = omega (arith, r.place);
            first = record { below = suc-le-suc r.first.below; here = r.first.here; before = past };
          }
        where
          past : (j : ℕ) → j < suc (ih f).k → p (get_or (x ∷ xs) j d) ≡ false
          past zero l = e
          past (suc j) l = (ih f).first.before j (le_of_suc-le-suc l)

  pub find_is : (l : List A) (d : A) (i : ℕ) → first_from 0 p l ≡ Some i → FirstAt p l d i
  find_is l d i h =
      let r = found_at l d 0 i h in
      let e : r.k ≡ i = omega (arith, r.place) in
      subst (FirstAt p l d) e r.first

  nothing_from : (s : ℕ) (l : List A) → first_from s p l ≡ None → all_of (λ x. not (p x)) l ≡ true
  unfolding first_from all_of
  nothing_from s [] h = refl
  nothing_from s (x ∷ xs) h = go (nothing_from (suc s) xs) (p x) refl h
    where
      go : (first_from (suc s) p xs ≡ None → all_of (λ y. not (p y)) xs ≡ true) → (b : Bool) → p x ≡ b → cond b (Some s) (first_from (suc s) p xs) ≡ None
          → (not (p x) && all_of (λ y. not (p y)) xs) ≡ true
      go ih true e f = no_at (sym f)
      go ih false e f = and_true (ap not e) (ih f)

  pub find_none : (l : List A) → first_from 0 p l ≡ None → all_of (λ x. not (p x)) l ≡ true
  find_none l h = nothing_from 0 l h

  at_found : (l : List A) (d : A) (s i : ℕ) → FirstAt p l d i → first_from s p l ≡ Some (s + i)
  unfolding first_from
  at_found [] d s i f = absurd (not-suc-le-zero f.below)
  at_found (x ∷ xs) d s zero f = rw f.here (ap Some (omega arith))
  at_found (x ∷ xs) d s (suc i) f =
      let g : FirstAt p xs d i = record { below = le_of_suc-le-suc f.below; here = f.here; before = λ j l. f.before (suc j) (suc-le-suc l) } in
      rw (f.before zero (omega arith), at_found xs d (suc s) i g) (ap Some (omega arith))

  pub is_find : (l : List A) (d : A) (i : ℕ) → FirstAt p l d i → first_from 0 p l ≡ Some i
  is_find l d i f = at_found l d 0 i f ∙ ap Some (omega arith)

  from_none : (s : ℕ) (l : List A) → all_of (λ x. not (p x)) l ≡ true → first_from s p l ≡ None
  unfolding first_from all_of
  from_none s [] h = refl
  from_none s (x ∷ xs) h =
      let b = and_both (not (p x)) (all_of (λ y. not (p y)) xs) h in
      rw (not-true (p x) b.left, from_none (suc s) xs b.right)

  pub none_find : (l : List A) → all_of (λ x. not (p x)) l ≡ true → first_from 0 p l ≡ None
  none_find l h = from_none 0 l h

module _ {A : Type 0} where
  -- ---- one taken out

  without_one : (at : ℕ) (m : List A) (x : A) → without at (m ++ (x ∷ [])) ≡ without at m ++ cond (eqb (length m) at) [] (x ∷ [])
  unfolding without
  without_one zero [] x = refl
  without_one (suc a) [] x = rw (take-nil {A = A} a, eqb-zero-suc a)
  without_one zero (y ∷ m) x = rw (eqb-suc-zero (length m))
  without_one (suc a) (y ∷ m) x = rw (eqb-suc-suc (length m) a) (ap (λ (r : List A). y ∷ r) (without_one a m x))

  pub without_more : (at : ℕ) (l : List A) (i : ℕ) (d : A) → i < length l
      → without at (take (i + 1) l) ≡ without at (take i l) ++ cond (eqb i at) [] (get_or l i d ∷ [])
  without_more at l i d h =
      rw (add-one, take-suc l i d h)
      (without_one at (take i l) (get_or l i d)
      ∙ ap (λ (k : ℕ). without at (take i l) ++ cond (eqb k at) [] (get_or l i d ∷ [])) (length-take-le i l (omega arith)))

  pub length_without : (i : ℕ) (l : List A) → i < length l → length (without i l) ≡ length l - 1
  unfolding without
  length_without i l h = simp (length-append, length-take, length-drop) (omega arith)

  pub without_before : (i : ℕ) (l : List A) (j : ℕ) (d : A) → j < i → get_or (without i l) j d ≡ get_or l j d
  unfolding without
  without_before zero l j d h = absurd (not-suc-le-zero h)
  without_before (suc i) [] j d h = refl
  without_before (suc i) (x ∷ xs) zero d h = refl
  without_before (suc i) (x ∷ xs) (suc j) d h = without_before i xs j d (le_of_suc-le-suc h)

  pub without_after : (i : ℕ) (l : List A) (j : ℕ) (d : A) → i ≤ j → get_or (without i l) j d ≡ get_or l (suc j) d
  unfolding without
  without_after zero [] j d h = refl
  without_after zero (x ∷ xs) j d h = refl
  without_after (suc i) [] j d h = refl
  without_after (suc i) (x ∷ xs) zero d h = absurd (not-suc-le-zero h)
  without_after (suc i) (x ∷ xs) (suc j) d h = without_after i xs j d (le_of_suc-le-suc h)

  pub without_at : (i : ℕ) (l : List A) (j : ℕ) (d : A) → get_or (without i l) j d ≡ get_or l (cond (ltb j i) j (suc j)) d
  without_at i l j d = go (ltb j i) refl
    where
      go : (b : Bool) → ltb j i ≡ b → get_or (without i l) j d ≡ get_or l (cond (ltb j i) j (suc j)) d
      go true e = rw e (without_before i l j d (ltb-true j i e))
      go false e = rw e (without_after i l j d (ltb-false j i e))

  -- ---- blank places behind

  pub length_padded : (n : ℕ) (b : A) (xs : List A) → length xs ≤ n → length (padded n b xs) ≡ n
  unfolding padded
  length_padded n b xs h = simp (length-append, length-replicate) (omega arith)

  pub padded_front : (n : ℕ) (b : A) (xs : List A) → take (length xs) (padded n b xs) ≡ xs
  unfolding padded
  padded_front n b xs = take-append_seam xs _

  -- one more is put at the first unused place
  pub padded_set : (n : ℕ) (b : A) (xs : List A) (x : A) → length xs < n → set (padded n b xs) (length xs) x ≡ padded n b (xs ++ (x ∷ []))
  unfolding padded
  padded_set n b xs x h =
      let k : n - length xs ≡ suc (n - length (xs ++ (x ∷ []))) = simp length-append (omega arith) in
      rw (k, set_at xs b (replicate (n - length (xs ++ (x ∷ []))) b) x (length xs) refl, append_assoc)

  pub padded_at : (n : ℕ) (b : A) (xs : List A) (i : ℕ) (d : A) → i < length xs → get_or (padded n b xs) i d ≡ get_or xs i d
  unfolding padded
  padded_at n b xs i d h = get_or-append xs _ d i h

  pub padded_past : (n : ℕ) (b : A) (xs : List A) (i : ℕ) (d : A) → length xs ≤ i → i < n → get_or (padded n b xs) i d ≡ b
  unfolding padded
  padded_past n b xs i d h l =
      let R = replicate (n - length xs) b in
      let e : i ≡ length xs + (i - length xs) = omega arith in
      ap (λ (k : ℕ). get_or (xs ++ R) k d) e ∙ get_or-append-add xs R (i - length xs) d ∙ get_or-replicate (n - length xs) (i - length xs) b d (omega arith)

  -- a list that is blank from place k on
  pub padded_of : (n : ℕ) (b : A) (l : List A) (k : ℕ) → k ≤ length l → length l ≡ n → ((i : ℕ) → k ≤ i → i < n → get_or l i b ≡ b)
      → l ≡ padded n b (take k l)
  padded_of n b l k h e f =
      ext_get_or b l (padded n b (take k l)) (e ∙ sym (length_padded n b (take k l) (omega (arith, length-take-le k l h)))) (λ i m. go i m (ltb i k) refl)
    where
      go : (i : ℕ) → i < length l → (t : Bool) → ltb i k ≡ t → get_or l i b ≡ get_or (padded n b (take k l)) i b
      go i m true t =
          let a = ltb-true i k t in
          sym (padded_at n b (take k l) i b (omega (arith, length-take-le k l h)) ∙ get_or-take k l i b a)
      go i m false t =
          let a = ltb-false i k t in
          f i a (omega arith) ∙ sym (padded_past n b (take k l) i b (omega (arith, length-take-le k l h)) (omega arith))

  -- ---- in order

  pub folded_append : {B : Type 0} (f : B → A → B) (b : B) (xs ys : List A) → folded f b (xs ++ ys) ≡ folded f (folded f b xs) ys
  unfolding folded
  folded_append f b [] ys = refl
  folded_append f b (x ∷ xs) ys = folded_append f (f b x) xs ys

  pub folded_more : {B : Type 0} (f : B → A → B) (b : B) (l : List A) (i : ℕ) (d : A) → i < length l
      → folded f b (take (i + 1) l) ≡ f (folded f b (take i l)) (get_or l i d)
  unfolding folded
  folded_more f b l i d h = rw (add-one, take-suc l i d h) (folded_append f b (take i l) (get_or l i d ∷ []))

-- ---- each replaced

module _ {A B : Type 0} (g : A → B) where
  pub all_of_map : (p : B → Bool) (xs : List A) → all_of (λ x. p (g x)) xs ≡ true → all_of p (map g xs) ≡ true
  unfolding all_of
  all_of_map p [] h = refl
  all_of_map p (x ∷ xs) h =
      let b = and_both (p (g x)) (all_of (λ y. p (g y)) xs) h in
      and_true b.left (all_of_map p xs b.right)

  pub counted_map : (p : B → Bool) (xs : List A) → counted p (map g xs) ≡ counted (λ x. p (g x)) xs
  unfolding counted
  counted_map p [] = refl
  counted_map p (x ∷ xs) = rw (counted_map p xs)

  map_append : (xs ys : List A) → map g (xs ++ ys) ≡ map g xs ++ map g ys
  map_append [] ys = refl
  map_append (x ∷ xs) ys = ap (λ (r : List B). g x ∷ r) (map_append xs ys)

  pub map_more : (l : List A) (i : ℕ) (d : A) → i < length l → map g (take (i + 1) l) ≡ map g (take i l) ++ (g (get_or l i d) ∷ [])
  map_more l i d h = rw (add-one, take-suc l i d h) (map_append (take i l) (get_or l i d ∷ []))

-- ---- what stays

module _ {A : Type 0} where
  -- taking one out makes no list longer
  pub without_short : (i : ℕ) (l : List A) → length (without i l) ≤ length l
  unfolding without
  without_short i l = omega (arith, length-append (take i l) (drop (suc i) l), length-take i l, length-drop (suc i) l)

  -- what changes none of them changes nothing
  pub map_stays : (r : A → Bool) (g : A → A) (xs : List A) → all_of r xs ≡ true → ((x : A) → r x ≡ true → g x ≡ x) → map g xs ≡ xs
  unfolding all_of
  map_stays r g [] h f = refl
  map_stays r g (x ∷ xs) h f =
      let b = and_both (r x) (all_of r xs) h in
      ap₂ (λ (y : A) (ys : List A). y ∷ ys) (f x b.left) (map_stays r g xs b.right f)

  -- a choice by the contrary
  pub cond_not : (b : Bool) (x y : A) → cond (not b) x y ≡ cond b y x
  cond_not true x y = refl
  cond_not false x y = refl

  pub without_none : (i : ℕ) → ◌≡◌ {A = List A} (without i []) []
  unfolding without
  without_none i = rw (take-nil {A = A} i)

-- ---- one of these numbers

-- the first of them
pub one_here : (k : ℕ) (ks : List ℕ) → is_one_of (k ∷ ks) k ≡ true
unfolding is_one_of
one_here k ks = rw (eq-eqb k k refl)

-- one of them is one of a longer list
pub one_more : (k : ℕ) (ks : List ℕ) (n : ℕ) → is_one_of ks n ≡ true → is_one_of (k ∷ ks) n ≡ true
unfolding is_one_of
one_more k ks n h = rw (h, or-true (eqb n k))
