-- Tests that hold, taken apart and put together.
use mathlib.Core.Path.{◌≡◌, refl}
use mathlib.Core.Bool.{Bool, true, false, ◌&&◌, ◌||◌, cond}
use Prim.Native.Nat.{ℕ, ◌≤◌}
use native.Mathlib.Omega.{arith}
use borrow.Author.Tests.{leb-true, le-leb}
use lib.Dec.{leb}
use Rattle.sets.specs.Tests.{within}

-- true is not false
pub not_both : {A : Type 0} {b : Bool} → b ≡ true → b ≡ false → A
not_both {b = true} p q = let z : ◌≡◌ {A = ℕ} 0 1 = cc in absurd (omega arith)
not_both {b = false} p q = let z : ◌≡◌ {A = ℕ} 0 1 = cc in absurd (omega arith)

-- both hold
pub record Both (a b : Bool) : Type 0 where
  pub left : a ≡ true
  pub right : b ≡ true

pub and_true : {a b : Bool} → a ≡ true → b ≡ true → (a && b) ≡ true
and_true p q = rw (p, q)

pub and_both : (a b : Bool) → (a && b) ≡ true → Both a b
and_both true b h = record { left = refl; right = h }
and_both false b h = not_both h refl

pub and_false : (a b : Bool) → b ≡ false → (a && b) ≡ false
and_false true b h = h
and_false false b h = refl

pub or_other : (a b : Bool) → (a || b) ≡ true → a ≡ false → b ≡ true
or_other true b h e = not_both h e
or_other false b h e = h

-- a test that is not true is false
pub is_false : (b : Bool) → (b ≡ true → ⊥) → b ≡ false
is_false true h = absurd (h refl)
is_false false h = refl

pub within_true : {lo x hi : ℕ} → lo ≤ x → x ≤ hi → within lo x hi ≡ true
within_true h l = and_true (le-leb _ _ h) (le-leb _ _ l)

-- lo ≤ x and x ≤ hi
pub record Within (lo x hi : ℕ) : Type 0 where
  pub low : lo ≤ x
  pub high : x ≤ hi

pub within_is : (lo x hi : ℕ) → within lo x hi ≡ true → Within lo x hi
within_is lo x hi h =
    let b = and_both (leb lo x) (leb x hi) h in
    record { low = leb-true lo x b.left; high = leb-true x hi b.right }

-- a choice by a test, each side with what the test told
pub choose : {A : Type 0} (P : A → Type 0) (b : Bool) {x y : A} → (b ≡ true → P x) → (b ≡ false → P y) → P (cond b x y)
choose P true f g = f refl
choose P false f g = g refl
