-- What the library says of chains of iterators, in the words of `specs/Lists.antt` and `specs/Below.antt`: over a list, and over the numbers below n.
use Rattle.std.proofs.Common.{◌≡◌, ℕ, zero, suc, ◌+◌, ◌≤◌, ◌&&◌, ◌||◌, not, cond, List, [], ◌∷◌, ◌++◌, length, get_or, take, Bool, true, false, Option, Some, None, refl, sym, ap, ◌∙◌, arith, add-one, take_all}
use Rattle.std.specs.List.{list_all, list_any, count_by, position, position_from, sum_by, filter, fold, find, range_with_len}
use Rattle.std.specs.Option.{option_or}
use Rattle.std.proofs.lemmas.List.Folds.{list_all-append, find-append}
use Rattle.std.proofs.lemmas.List.Sums.{sum_by-cons, sum_by_push}
use Rattle.std.proofs.lemmas.Iterator.Adapters.{position_from-zero}
use lib.Seq.{take-suc}
use Rattle.sets.specs.Below.{all_below, some_below, first_not, or_else, sum_below, count_below}
use Rattle.sets.specs.Lists.{all_of, some_of, passing, counted, first_from, folded}

-- ---- over a list

module _ {A : Type 0} where
  pub all_of_list : (p : A → Bool) (xs : List A) → all_of p xs ≡ list_all p xs
  unfolding all_of
  all_of_list p [] = refl
  all_of_list p (x ∷ xs) = ap (λ (b : Bool). p x && b) (all_of_list p xs)

  pub some_of_list : (p : A → Bool) (xs : List A) → some_of p xs ≡ list_any p xs
  unfolding some_of
  some_of_list p [] = refl
  some_of_list p (x ∷ xs) = ap (λ (b : Bool). p x || b) (some_of_list p xs)

  pub passing_list : (p : A → Bool) (xs : List A) → passing p xs ≡ filter p xs
  unfolding passing
  passing_list p [] = refl
  passing_list p (x ∷ xs) = ap (λ (l : List A). cond (p x) (x ∷ l) l) (passing_list p xs)

  pub counted_list : (p : A → Bool) (xs : List A) → counted p xs ≡ count_by p xs
  unfolding counted
  counted_list p [] = refl
  counted_list p (x ∷ xs) = ap (λ (n : ℕ). cond (p x) 1 0 + n) (counted_list p xs) ∙ sym (sum_by-cons (λ y. cond (p y) 1 0) x xs)

  first_list_from : (p : A → Bool) (i : ℕ) (xs : List A) → first_from i p xs ≡ position_from p i xs
  unfolding first_from
  first_list_from p i [] = refl
  first_list_from p i (x ∷ xs) = rw add-one (ap (λ (o : Option ℕ). cond (p x) (Some i) o) (first_list_from p (suc i) xs))

  pub first_list : (p : A → Bool) (xs : List A) → first_from 0 p xs ≡ position p xs
  first_list p xs = first_list_from p 0 xs ∙ sym (position_from-zero p xs)

  pub folded_list : {B : Type 0} (f : B → A → B) (b : B) (xs : List A) → folded f b xs ≡ fold f b xs
  unfolding folded
  folded_list f b [] = refl
  folded_list f b (x ∷ xs) = folded_list f (f b x) xs

-- ---- over the numbers below n

range_more : (a n : ℕ) → range_with_len a (suc n) ≡ range_with_len a n ++ ((a + n) ∷ [])
range_more a zero = ap (λ (k : ℕ). k ∷ []) (omega arith)
range_more a (suc n) = ap (λ (l : List ℕ). a ∷ l) (range_more (a + 1) n ∙ ap (λ (k : ℕ). range_with_len (a + 1) n ++ (k ∷ [])) (omega arith))

and_true_r : (a b : Bool) → (a && (b && true)) ≡ (a && b)
and_true_r true true = refl
and_true_r true false = refl
and_true_r false b = refl

pub all_below_range : (p : ℕ → Bool) (n : ℕ) → all_below p n ≡ list_all p (range_with_len 0 n)
unfolding all_below
all_below_range p zero = refl
all_below_range p (suc n) =
    let R = range_with_len 0 n in
    ap (λ (b : Bool). b && p n) (all_below_range p n)
    ∙ sym
    (ap (list_all p) (range_more 0 n)
    ∙ list_all-append p R ((0 + n) ∷ [])
    ∙ and_true_r (list_all p R) (p (0 + n))
    ∙ ap (λ (k : ℕ). list_all p R && p k) (omega arith))

not_all : (p : ℕ → Bool) (xs : List ℕ) → not (list_all (λ i. not (p i)) xs) ≡ list_any p xs
not_all p [] = refl
not_all p (x ∷ xs) = go (p x) (not_all p xs)
  where
    go : (b : Bool) → not (list_all (λ i. not (p i)) xs) ≡ list_any p xs → not (not b && list_all (λ i. not (p i)) xs) ≡ (b || list_any p xs)
    go true h = refl
    go false h = h

-- the first at which the contrary of p holds
one_found : (p : ℕ → Bool) (k : ℕ) → find (λ i. not (p i)) (k ∷ []) ≡ cond (p k) None (Some k)
one_found p k = go (p k)
  where
    go : (b : Bool) → ◌≡◌ {A = Option ℕ} (cond (not b) (Some k) None) (cond b None (Some k))
    go true = refl
    go false = refl

or_same : (x y : Option ℕ) → or_else x y ≡ option_or x y
or_same None y = refl
or_same (Some k) y = refl

pub first_not_range : (p : ℕ → Bool) (n : ℕ) → first_not p n ≡ find (λ i. not (p i)) (range_with_len 0 n)
unfolding first_not
first_not_range p zero = refl
first_not_range p (suc n) =
    let R = range_with_len 0 n in
    let q : ℕ → Bool = λ i. not (p i) in
    or_same (first_not p n) (cond (p n) None (Some n))
    ∙ ap (λ (o : Option ℕ). option_or o (cond (p n) None (Some n))) (first_not_range p n)
    ∙ sym
    (ap (find q) (range_more 0 n)
    ∙ find-append q R ((0 + n) ∷ [])
    ∙ ap (option_or (find q R)) (one_found p (0 + n))
    ∙ ap (λ (k : ℕ). option_or (find q R) (cond (p k) None (Some k))) (omega arith))

pub some_below_range : (p : ℕ → Bool) (n : ℕ) → some_below p n ≡ list_any p (range_with_len 0 n)
some_below_range p n = ap not (all_below_range (λ i. not (p i)) n) ∙ not_all p (range_with_len 0 n)

pub sum_below_range : (f : ℕ → ℕ) (n : ℕ) → sum_below f n ≡ sum_by f (range_with_len 0 n)
unfolding sum_below
sum_below_range f zero = refl
sum_below_range f (suc n) =
    let R = range_with_len 0 n in
    ap (λ (b : ℕ). b + f n) (sum_below_range f n)
    ∙ sym (ap (sum_by f) (range_more 0 n) ∙ sum_by_push f R (0 + n) ∙ ap (λ (k : ℕ). sum_by f R + f k) (omega arith))

pub count_below_range : (p : ℕ → Bool) (n : ℕ) → count_below p n ≡ count_by p (range_with_len 0 n)
unfolding count_below
count_below_range p n = sum_below_range (λ i. cond (p i) 1 0) n

-- ---- over a list, by the place in it

module _ {A : Type 0} where
  all_below_take : (p : A → Bool) (xs : List A) (d : A) (n : ℕ) → n ≤ length xs → all_below (λ k. p (get_or xs k d)) n ≡ list_all p (take n xs)
  unfolding all_below
  all_below_take p xs d zero h = refl
  all_below_take p xs d (suc n) h =
      ap (λ (b : Bool). b && p (get_or xs n d)) (all_below_take p xs d n (omega arith))
      ∙ sym
      (ap (list_all p) (take-suc xs n d (omega arith))
      ∙ list_all-append p (take n xs) (get_or xs n d ∷ [])
      ∙ and_true_r (list_all p (take n xs)) (p (get_or xs n d)))

  pub all_below_list : (p : A → Bool) (xs : List A) (d : A) → all_below (λ k. p (get_or xs k d)) (length xs) ≡ list_all p xs
  all_below_list p xs d = all_below_take p xs d (length xs) (omega arith) ∙ ap (list_all p) (take_all (length xs) xs (omega arith))

  sum_below_take : (f : A → ℕ) (xs : List A) (d : A) (n : ℕ) → n ≤ length xs → sum_below (λ k. f (get_or xs k d)) n ≡ sum_by f (take n xs)
  unfolding sum_below
  sum_below_take f xs d zero h = refl
  sum_below_take f xs d (suc n) h =
      ap (λ (b : ℕ). b + f (get_or xs n d)) (sum_below_take f xs d n (omega arith))
      ∙ sym (ap (sum_by f) (take-suc xs n d (omega arith)) ∙ sum_by_push f (take n xs) (get_or xs n d))

  pub sum_below_list : (f : A → ℕ) (xs : List A) (d : A) → sum_below (λ k. f (get_or xs k d)) (length xs) ≡ sum_by f xs
  sum_below_list f xs d = sum_below_take f xs d (length xs) (omega arith) ∙ ap (sum_by f) (take_all (length xs) xs (omega arith))

  pub count_below_list : (p : A → Bool) (xs : List A) (d : A) → count_below (λ k. p (get_or xs k d)) (length xs) ≡ count_by p xs
  unfolding count_below
  count_below_list p xs d = sum_below_list (λ x. cond (p x) 1 0) xs d
