-- What the tests of the rows in use and of the states of a subject say, in the words of the definitions.
use mathlib.Core.Path.{◌≡◌, refl, sym, ap, ◌∙◌}
use mathlib.Core.Bool.{Bool, true, false, ◌||◌, ◌&&◌, not}
use mathlib.Core.List.{List, [], ◌∷◌}
use Prim.Native.Nat.{ℕ, ◌+◌, ◌≤◌, ◌<◌}
use native.Mathlib.Omega.{arith}
use lib.Dec.{eqb, leb}
use lib.ListN.{length, take, drop, get_or, length-drop}
use lib.Seq.{length-take-le, get_or-take, get_or-drop}
use Rattle.std.specs.Prelude.{min}
use Rattle.std.specs.List.{list_all, list_any, sum_by}
use Rattle.sets.specs.Below.{all_below, some_below, sum_below}
use Rattle.sets.proofs.Below.{all_same, some_same, sum_same}
use Rattle.sets.proofs.Chains.{sum_below_list, all_below_list}
use Rattle.model.specs.Records.{blank_row}
use Rattle.model.specs.Sizes.{most_rows}
use Rattle.model.specs.Valid.{row_at}
use Rattle.model.specs.declared.Row.{Row}
use Rattle.model.specs.declared.Subject.{Subject}
use Rattle.engine.specs.pools.Sizes.{most_entries}
use Rattle.model.specs.declared.Model.{Model}
use Rattle.model.specs.Valid.{subject_at}
use Rattle.engine.specs.configs.Shares.{row_names, rows_name, none_twice, has_row, limits_fit, can_send, senders_have_rows, shared_out}
use Rattle.engine.proofs.pools.PoolLaws.{first_rows}

module _ {A : Type 0} (p : A → Bool) where
  none_all : (l : List A) → not (list_all (λ x. not (p x)) l) ≡ list_any p l
  none_all [] = refl
  none_all (x ∷ xs) = go (p x) (none_all xs)
    where
      go : (b : Bool) → not (list_all (λ y. not (p y)) xs) ≡ list_any p xs → not (not b && list_all (λ y. not (p y)) xs) ≡ (b || list_any p xs)
      go true h = refl
      go false h = h

  all_none : (l : List A) → list_all (λ x. not (p x)) l ≡ not (list_any p l)
  all_none [] = refl
  all_none (x ∷ xs) = go (p x) (all_none xs)
    where
      go : (b : Bool) → list_all (λ y. not (p y)) xs ≡ not (list_any p xs) → (not b && list_all (λ y. not (p y)) xs) ≡ not (b || list_any p xs)
      go true h = refl
      go false h = h

  some_below_list : (l : List A) (d : A) → some_below (λ k. p (get_or l k d)) (length l) ≡ list_any p l
  some_below_list l d = ap not (all_below_list (λ x. not (p x)) l d) ∙ none_all l

  -- some of the n that stand from place a on
  pub some_within : (l : List A) (a n : ℕ) (d : A) → a + n ≤ length l → some_below (λ k. p (get_or l (a + k) d)) n ≡ list_any p (take n (drop a l))
  some_within l a n d h =
      let xs = take n (drop a l) in
      let long : length xs ≡ n = length-take-le n (drop a l) (omega (arith, h, length-drop a l)) in
      some_same _ (λ k. p (get_or xs k d)) n (λ k i. ap p (sym (get_or-take n (drop a l) k d i ∙ get_or-drop a l k d)))
      ∙ ap (some_below (λ k. p (get_or xs k d))) (sym long)
      ∙ some_below_list xs d

-- of an owner with no more rows than places for them
module _ (own : Subject) (n : length own.row ≡ most_rows) (few : own.rows ≤ most_rows) where
  rows : List Row
  rows = first_rows own

  pub rows_long : length (first_rows own) ≡ own.rows
  rows_long = length-take-le (min own.rows 8) own.row (omega (arith, n)) ∙ omega (arith, few)

  rows_at : (k : ℕ) → k < own.rows → row_at own k ≡ get_or (first_rows own) k blank_row
  rows_at k l = sym (get_or-take (min own.rows 8) own.row k blank_row (omega (arith, l, few)))

  pub rows_name_list : rows_name own ≡ list_all row_names (first_rows own)
  unfolding rows_name
  rows_name_list =
      all_same _ (λ k. row_names (get_or (first_rows own) k blank_row)) own.rows (λ k l. ap row_names (rows_at k l))
      ∙ ap (all_below (λ k. row_names (get_or (first_rows own) k blank_row))) (sym rows_long)
      ∙ all_below_list row_names (first_rows own) blank_row

  pub has_row_list : (s : ℕ) → has_row own s ≡ list_any (λ w. eqb w.sender s) (first_rows own)
  unfolding has_row
  has_row_list s =
      some_same _ (λ k. eqb (get_or (first_rows own) k blank_row).sender s) own.rows (λ k l. ap (λ (w : Row). eqb w.sender s) (rows_at k l))
      ∙ ap (some_below (λ k. eqb (get_or (first_rows own) k blank_row).sender s)) (sym rows_long)
      ∙ some_below_list (λ w. eqb w.sender s) (first_rows own) blank_row

  pub limits_fit_list : limits_fit most_entries own ≡ leb (sum_by (λ w. w.limit) (first_rows own)) most_entries
  unfolding limits_fit
  limits_fit_list =
      ap (λ (k : ℕ). leb k most_entries)
      (sum_same _ (λ k. (get_or (first_rows own) k blank_row).limit) own.rows (λ k l. ap (λ (w : Row). w.limit) (rows_at k l))
      ∙ ap (sum_below (λ k. (get_or (first_rows own) k blank_row).limit)) (sym rows_long)
      ∙ sum_below_list (λ w. w.limit) (first_rows own) blank_row)

  -- the earlier rows name another sender
  new_list : (k : ℕ) → k < own.rows
      → all_below (λ j. not (eqb (row_at own j).sender (row_at own k).sender)) k
      ≡ not (list_any (λ w. eqb w.sender (get_or (first_rows own) k blank_row).sender) (take k (first_rows own)))
  new_list k l =
      let xs = first_rows own in
      let ys = take k xs in
      let here = get_or xs k blank_row in
      let other : Row → Bool = λ w. eqb w.sender here.sender in
      let long : length ys ≡ k = length-take-le k xs (omega (arith, l, rows_long)) in
      all_same _ (λ j. not (other (get_or ys j blank_row))) k
      (λ j i. ap not (ap (λ (w : Row). eqb (row_at own j).sender w.sender) (rows_at k l) ∙ ap other (rows_at j (omega (arith, i, l)) ∙ sym (get_or-take k xs j blank_row i))))
      ∙ ap (all_below (λ j. not (other (get_or ys j blank_row)))) (sym long)
      ∙ all_below_list (λ w. not (other w)) ys blank_row
      ∙ all_none other ys

  pub none_twice_list : none_twice own ≡ all_below (λ k. not (list_any (λ w. eqb w.sender (get_or (first_rows own) k blank_row).sender) (take k (first_rows own)))) (length (first_rows own))
  unfolding none_twice
  none_twice_list =
      all_same _ _ own.rows new_list
      ∙ ap (all_below (λ k. not (list_any (λ w. eqb w.sender (get_or (first_rows own) k blank_row).sender) (take k (first_rows own))))) (sym rows_long)

-- no row before has the sender of a row
abbrev pub none_again : List Row → Bool
none_again xs = all_below (λ k. not (list_any (λ w. eqb w.sender (get_or xs k blank_row).sender) (take k xs))) (length xs)

-- a row for each subject that can send
abbrev pub all_rowed : Model → ℕ → List Row → Bool
all_rowed m owner xs = all_below (λ s. not (can_send m owner s) || list_any (λ w. eqb w.sender s) xs) m.n

pub shared_by : (m : Model) (owner : ℕ) (own : Subject) (xs : List Row) → own ≡ subject_at m owner → length own.row ≡ most_rows → own.rows ≤ most_rows
    → xs ≡ first_rows own
    → shared_out most_entries m owner ≡ (((list_all row_names xs && none_again xs) && leb (sum_by (λ w. w.limit) xs) most_entries) && all_rowed m owner xs)
unfolding shared_out senders_have_rows
shared_by m owner own xs e n few is =
    rw (is, ← e, rows_name_list own n few, none_twice_list own n few, limits_fit_list own n few)
    (ap (λ (b : Bool). ((list_all row_names (first_rows own) && none_again (first_rows own)) && leb (sum_by (λ w. w.limit) (first_rows own)) most_entries) && b)
    (all_same _ _ m.n (λ s _. ap (λ (b : Bool). not (can_send m owner s) || b) (has_row_list own n few s))))
