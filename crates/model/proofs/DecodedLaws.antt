-- Laws of the model that a file's records say: its counts are bytes, and the parts that the code reads and computes are those of the spec.
use mathlib.Core.Path.{◌≡◌, refl, sym, ap, ◌∙◌}
use mathlib.Core.Bool.{Bool, true, false, cond}
use mathlib.Core.List.{List}
use Prim.Native.Nat.{ℕ, ◌+◌, ◌*◌, ◌/◌, ◌%◌, ◌≤◌, ◌<◌}
use native.Mathlib.Omega.{arith}
use borrow.Author.Tests.{lt-ltb, le-ltb, eq-eqb, ne_eqb}
use lib.Dec.{ltb, eqb}
use lib.ListN.{get_or}
use mir.Syntax.{w8}
use mir.Val.{Fits}
use Rattle.sets.specs.Below.{sum_below, table}
use Rattle.sets.proofs.Below.{sum_bound, table_at}
use Rattle.sets.proofs.Bytes.{byte_at, bytes_by}
use Rattle.sets.proofs.Tests.{choose}
use Rattle.blocks.proofs.BlockLaws.{record_bytes}
use Rattle.blocks.specs.Blocks.{record_of, record_from, record_no, first_block}
use Rattle.model.specs.Records.{blank_stored, state_key, stored_of}
use Rattle.model.specs.Decoded.{subjects_in, rows_in, subject_in, states_in, has_state, exits_in, stored_in, state_named, exits_named, exits_named_in}
use Rattle.model.specs.declared.Stored.{Stored}
use Rattle.model.specs.declared.Subject.{Subject}

-- ---- counts and their sums

module _ (file : List ℕ) where
  pub rows_few : (s : ℕ) → sum_below (rows_in file) s ≤ 8 * s
  unfolding rows_in
  rows_few s = sum_bound _ 8 s (λ i l. omega arith)

  module _ (bytes : (i : ℕ) → Fits w8 (get_or file i 0)) where
    a_byte : (b i k : ℕ) → get_or (record_of file b i) k 0 ≤ 255
    a_byte b i k = omega (arith, byte_at (record_bytes file b i (bytes_by file (λ j. omega (arith, bytes j)))) k)

    pub states_few : (s : ℕ) → states_in file s ≤ 255
    unfolding states_in subject_in
    states_few s =
        choose (λ (x : Subject). x.states ≤ 255) (ltb s (subjects_in file)) (λ e. a_byte _ _ _) (λ e. omega arith)

    pub exits_few : (p : ℕ) → exits_in file p ≤ 255
    unfolding exits_in record_from
    exits_few p =
        choose (λ (x : ℕ). x ≤ 255) (has_state file p) (λ e. a_byte _ _ _) (λ e. omega arith)

    pub starts_few : (s : ℕ) → sum_below (states_in file) s ≤ 255 * s
    starts_few s = sum_bound (states_in file) 255 s (λ i l. states_few i)

    pub places_few : (p : ℕ) → sum_below (exits_in file) p ≤ 255 * p
    places_few p = sum_bound (exits_in file) 255 p (λ i l. exits_few i)

-- ---- the parts of the model

exits_by : (b : Bool) (x y : Stored) → (cond b x y).exits ≡ cond b x.exits y.exits
exits_by true x y = refl
exits_by false x y = refl

module _ (file : List ℕ) where
  -- how many states the subject at place s has
  pub states_at : (l : List Subject) (s : ℕ) (d : Subject) → l ≡ table (subject_in file) 16 → s < 16 → (get_or l s d).states ≡ states_in file s
  unfolding states_in
  states_at l s d e h = rw e (ap (λ (x : Subject). x.states) (table_at (subject_in file) 16 s d h))

  -- how many exits the state at place p has
  pub exits_are : (p : ℕ) → (stored_in file p).exits ≡ exits_in file p
  unfolding stored_in exits_in stored_of
  exits_are p = exits_by (has_state file p) _ _

  pub exits_at : (l : List Stored) (p : ℕ) (d : Stored) → l ≡ table (stored_in file) 512 → p < 512 → (get_or l p d).exits ≡ exits_in file p
  exits_at l p d e h = rw e (ap (λ (x : Stored). x.exits) (table_at (stored_in file) 512 p d h) ∙ exits_are p)

  -- state t of subject s, from how many states the subject has, where those start and where its exits do
  module _ (s t own start : ℕ) (few : t < 32) (o : own ≡ states_in file s) (b : start ≡ sum_below (states_in file) s) where
    pub state_is : (place : ℕ) → place ≡ sum_below (exits_in file) (s * 32 + t)
        → cond (ltb t own) (stored_of (record_no file 2 (start + t)) (place % 65536)) blank_stored ≡ stored_in file (s * 32 + t)
    unfolding stored_in
    state_is place e =
        let d : (s * 32 + t) / 32 ≡ s = omega arith in
        let m : (s * 32 + t) % 32 ≡ t = omega arith in
        rw (d, m, o, b, e)

    named_is : cond (ltb t own) (eqb (state_key (record_no file 2 (start + t))) (t + 256 * s)) true ≡ state_named file (s * 32 + t)
    unfolding state_named
    named_is =
        let d : (s * 32 + t) / 32 ≡ s = omega arith in
        let m : (s * 32 + t) % 32 ≡ t = omega arith in
        rw (d, m, o, b)

    -- its record names it or another, or it has none
    module _ (key : ℕ) (k : key ≡ state_key (record_no file 2 (start + t))) where
      pub named_here : t < own → key ≡ t + 256 * s → state_named file (s * 32 + t) ≡ true
      named_here l e = sym named_is ∙ rw (lt-ltb t own l, ← k, eq-eqb key (t + 256 * s) e)

      pub named_other : t < own → (key ≡ t + 256 * s → ⊥) → state_named file (s * 32 + t) ≡ false
      named_other l e = sym named_is ∙ rw (lt-ltb t own l, ← k, ne_eqb key (t + 256 * s) e)

    pub named_past : own ≤ t → state_named file (s * 32 + t) ≡ true
    named_past l = sym named_is ∙ rw (le-ltb t own l)

  pub exits_named_is : (p exits place : ℕ) → exits ≡ exits_in file p → place ≡ sum_below (exits_in file) p
      → exits_named file (first_block file 3) place exits (p % 32 + 256 * (p / 32)) ≡ exits_named_in file p
  unfolding exits_named_in
  exits_named_is p exits place x e = rw (x, e)
