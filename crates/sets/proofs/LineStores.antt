-- Laws of a line in groups that is stored in places of which the unused ones are blank.
use mathlib.Core.Path.{◌≡◌, refl, sym, ap, ◌∙◌}
use mathlib.Core.Bool.{Bool, true, false}
use mathlib.Core.List.{List, [], ◌∷◌, ◌++◌, append_assoc, append-nil}
use Prim.Native.Nat.{ℕ, suc, ◌+◌, ◌≤◌, ◌<◌}
use native.Mathlib.Nat.{sub-zero}
use native.Mathlib.Numerals.{add-one}
use native.Mathlib.Omega.{arith}
use borrow.Author.Tests.{ltb-true, ltb-false}
use lib.Dec.{ltb}
use lib.ListN.{length, get_or, replicate, length-append}
use lib.Seq.{ext_get_or}
use Rattle.sets.specs.Below.{sum_below, table}
use Rattle.sets.specs.Groups.{place_in, lined}
use Rattle.sets.specs.Lists.{padded}
use Rattle.sets.specs.Stores.{stored}
use Rattle.sets.proofs.Below.{length_table}
use Rattle.sets.proofs.Groups.{length_lined, lined_at, spot}
use Rattle.sets.proofs.Lists.{length_padded, padded_set, padded_at, padded_past}

-- what is stored behind the last of a list in n places
padded_stored : {A : Type 0} (n : ℕ) (b : A) (ys xs : List A) → length xs + length ys ≤ n → stored (padded n b xs) (length xs) ys ≡ padded n b (xs ++ ys)
unfolding stored
padded_stored n b [] xs h = ap (padded n b) (sym (append-nil xs))
padded_stored n b (y ∷ ys) xs h =
    let k : length (xs ++ (y ∷ [])) ≡ suc (length xs) = length-append xs (y ∷ []) ∙ omega arith in
    rw (padded_set n b xs y (omega arith), ← k) (padded_stored n b ys (xs ++ (y ∷ [])) (omega arith) ∙ ap (padded n b) (append_assoc xs (y ∷ []) ys))

-- a loop that stores the groups of a line, one behind the other, in n places: its start, a turn and its end
module _ {A : Type 0} (blank : A) (count : ℕ → ℕ) (item : ℕ → ℕ → A) (n : ℕ) where
  pub line_start : replicate n blank ≡ padded n blank (lined count item 0)
  unfolding lined padded
  line_start = rw sub-zero

  pub line_turn : (now next : List A) (place g : ℕ) → now ≡ padded n blank (lined count item g) → place ≡ sum_below count g → sum_below count g + count g ≤ n
      → next ≡ stored now place (table (item g) (count g)) → next ≡ padded n blank (lined count item (g + 1))
  unfolding lined
  line_turn now next place g e q h s =
      let l = length_lined count item g in
      let t = length_table (item g) (count g) in
      rw add-one
      (s
      ∙ ap (λ r. stored r place (table (item g) (count g))) e
      ∙ ap (λ (k : ℕ). stored (padded n blank (lined count item g)) k (table (item g) (count g))) (q ∙ sym l)
      ∙ padded_stored n blank (table (item g) (count g)) (lined count item g) (omega arith))

  pub line_end : (now : List A) (g m : ℕ) → g ≤ m → m ≤ g → now ≡ padded n blank (lined count item g) → now ≡ padded n blank (lined count item m)
  line_end now g m l h e = let k : g ≡ m = omega arith in e ∙ ap (λ (j : ℕ). padded n blank (lined count item j)) k

-- a list is such a line where each thing is at its place and behind them there is nothing
pub line_of : {A : Type 0} (blank : A) (count : ℕ → ℕ) (item : ℕ → ℕ → A) (m n : ℕ) (l : List A) → length l ≡ n → sum_below count m ≤ n
    → ((g k : ℕ) → g < m → k < count g → item g k ≡ get_or l (place_in count g k) blank) → ((j : ℕ) → sum_below count m ≤ j → get_or l j blank ≡ blank)
    → padded n blank (lined count item m) ≡ l
line_of {A = A} blank count item m n l long room here behind =
    ext_get_or blank _ l (size ∙ sym long) (λ j k. go j (omega (arith, size)) (ltb j (sum_below count m)) refl)
  where
    line : List A
    line = lined count item m

    length_is : length line ≡ sum_below count m
    length_is = length_lined count item m

    size : length (padded n blank line) ≡ n
    size = length_padded n blank line (omega (arith, length_is))

    go : (j : ℕ) → j < n → (b : Bool) → ltb j (sum_below count m) ≡ b → get_or (padded n blank line) j blank ≡ get_or l j blank
    go j h true e =
        let before = ltb-true j (sum_below count m) e in
        let s = spot count m j before in
        let place = s.place in
        padded_at n blank line j blank (omega (arith, length_is))
        ∙ ap (λ (i : ℕ). get_or line i blank) (sym place)
        ∙ lined_at count item m s.g s.k blank s.group s.inside
        ∙ here s.g s.k s.group s.inside
        ∙ ap (λ (i : ℕ). get_or l i blank) place
    go j h false e =
        let past = ltb-false j (sum_below count m) e in
        padded_past n blank line j blank (omega (arith, length_is)) h ∙ sym (behind j past)
