-- The table of the kinds of all states, filled record by record.
use mathlib.Core.Path.{◌≡◌, refl, sym, ap, ◌∙◌}
use mathlib.Core.Bool.{Bool, true, false, cond}
use mathlib.Core.List.{List}
use Prim.Native.Nat.{ℕ, ◌+◌, ◌≤◌, ◌<◌}
use native.Mathlib.Nat.{le_antisymm}
use native.Mathlib.Numerals.{add-one}
use borrow.Author.Tests.{eqb-true, eqb-false}
use lib.Dec.{eqb}
use lib.ListN.{length, get_or, set, replicate, length-set, length-replicate, get_or-replicate}
use lib.Seq.{get_or-set_same, get_or-set_other}
use Rattle.blocks.specs.Blocks.{first_block, count_of, record_from}
use Rattle.model.specs.Records.{state_key}
use Rattle.model.specs.Stages.{kind_among, Kinds}

-- a table that has the kind that the first n state records give, at every key
pub record KindsOf (file : List ℕ) (n : ℕ) (kinds : List ℕ) : Type 0 where
  pub size : length kinds ≡ 65536
  pub tells : (key : ℕ) → key < 65536 → get_or kinds key 0 ≡ kind_among file key n

module _ (file : List ℕ) where
  pub kinds_start : KindsOf file 0 (replicate 65536 0)
  unfolding kind_among
  kinds_start = record { size = length-replicate {A = ℕ} 65536 0; tells = λ key h. get_or-replicate {A = ℕ} 65536 key 0 0 h }

  -- record j stores its kind at its key
  pub kinds_turn : (kinds r : List ℕ) (first j key kind : ℕ) → KindsOf file j kinds → first ≡ first_block file 2 → r ≡ record_from file first j
      → key ≡ state_key r → kind ≡ get_or r 2 0 → key < 65536 → KindsOf file (j + 1) (set kinds key kind)
  unfolding kind_among
  kinds_turn kinds r first j key kind told start here same its l =
      let e : r ≡ record_from file (first_block file 2) j = rw start at here in
      record { size = length-set kinds key kind ∙ told.size; tells = λ k h. rw (add-one, ← e, ← same, ← its) (go k h (eqb key k) refl) }
    where
      go : (k : ℕ) → k < 65536 → (t : Bool) → eqb key k ≡ t → get_or (set kinds key kind) k 0 ≡ cond t kind (kind_among file k j)
      go k h true e = rw (← eqb-true key k e) (get_or-set_same kinds key kind 0 (rw told.size l))
      go k h false e = get_or-set_other kinds key k kind 0 (λ m. eqb-false key k e (sym m)) ∙ told.tells k h

  pub kinds_end : (kinds : List ℕ) (j count : ℕ) → KindsOf file j kinds → j ≤ count → count ≤ j → count ≡ count_of file 2 → Kinds file kinds
  kinds_end kinds j count told l g e =
      record { tells = λ key h. told.tells key h ∙ ap (kind_among file key) (le_antisymm l g ∙ e) }
