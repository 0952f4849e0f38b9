-- The marked cases compute to what the rules say.
use mathlib.Core.Path.{◌≡◌, refl}
use mathlib.Core.Bool.{Bool, true, false, ◌&&◌}
use mathlib.Core.List.{List, [], ◌∷◌, map}
use Prim.Native.Nat.{ℕ}
use borrow.Author.Tests.{eqb-true}
use lib.Dec.{eqb}
use Rattle.sets.specs.Lists.{all_of}
use Rattle.sets.proofs.Tests.{not_both, and_both}
use Rattle.demands.specs.Marked.{Case, marked, AsThePaperSays}
use Rattle.demands.proofs.Computing.{computing}

-- the same numbers in the same order
unfoldable same_numbers : List ℕ → List ℕ → Bool
same_numbers [] [] = true
same_numbers [] (y ∷ ys) = false
same_numbers (x ∷ xs) [] = false
same_numbers (x ∷ xs) (y ∷ ys) = eqb x y && same_numbers xs ys

-- lists that pass the test are equal
same_is : (xs ys : List ℕ) → same_numbers xs ys ≡ true → xs ≡ ys
unfolding same_numbers
same_is [] [] h = refl
same_is [] (y ∷ ys) h = not_both h refl
same_is (x ∷ xs) [] h = not_both h refl
same_is (x ∷ xs) (y ∷ ys) h =
    let b = and_both (eqb x y) (same_numbers xs ys) h in
    rw (eqb-true x y b.left, same_is xs ys b.right)

-- what is computed is what it has to be
as_said : Case → Bool
as_said k = same_numbers k.0 k.1

-- cases that all pass compute to what they have to be
all_as_said : (ks : List Case) → all_of as_said ks ≡ true → map (λ (k : Case). k.0) ks ≡ map (λ (k : Case). k.1) ks
unfolding all_of as_said
all_as_said [] h = refl
all_as_said (k ∷ ks) h =
    let b = and_both (as_said k) (all_of as_said ks) h in
    rw (same_is k.0 k.1 b.left, all_as_said ks b.right)

-- the marked cases pass
marked_pass : all_of as_said marked ≡ true
unfolding computing marked same_numbers as_said
marked_pass = refl

-- every marked case is as the rules say
pub as_the_paper_says : AsThePaperSays
as_the_paper_says = all_as_said marked marked_pass
