-- Laws of models from their bytes: the loops that store the exits of all states in one line, and what the test of the bytes tells.
use mathlib.Core.Path.{◌≡◌}
use mathlib.Core.Bool.{true, false, ◌&&◌, ◌||◌, not, cond}
use mathlib.Core.List.{List}
use Prim.Native.Nat.{ℕ, ◌+◌, ◌-◌, ◌*◌, ◌≤◌, ◌<◌}
use native.Mathlib.Omega.{arith}
use borrow.Author.Tests.{leb-true, le-leb, lt-leb}
use lib.Dec.{eqb}
use lib.ListN.{length, get_or, take, drop}
use Rattle.sets.specs.Below.{sum_below}
use Rattle.sets.specs.Tests.{all_zero}
use Rattle.sets.proofs.Below.{sum_has, all_each, all_by}
use Rattle.sets.proofs.Tests.{and_both, and_true}
use Rattle.exported.specs.Bytes.{model_size, state_in, exits_in, head_from, stored_from, is_state, is_model}

-- ---- the states

-- the state at place p, whose exits begin behind those of the states before it
pub stored_is : (b own : List ℕ) (p place : ℕ) → own ≡ state_in b p → place ≡ sum_below (exits_in b) p
    → head_from own (cond (eqb (get_or own 0 0) 0) 0 place) ≡ stored_from b p
unfolding stored_from
stored_is b own p place e q = rw (e, q)

-- its exits have room where those of all states have
pub room_for : (b own : List ℕ) (p place : ℕ) → own ≡ state_in b p → place ≡ sum_below (exits_in b) p → p < 512 → sum_below (exits_in b) 512 ≤ 1024
    → place + get_or own 1 0 ≤ 1024
room_for b own p place e q l h = rw (e, q) (omega (arith, sum_has (exits_in b) p 512 l))

-- ---- what the test of the bytes tells

-- a state has at most 8 exits, none where it has no kind, and nothing behind them
pub record IsState (b : List ℕ) : Type 0 where
  pub few : get_or b 1 0 ≤ 8
  pub kind : (not (eqb (get_or b 0 0) 0) || eqb (get_or b 1 0) 0) ≡ true
  pub blank : all_zero (take (24 - 3 * get_or b 1 0) (drop (10 + 3 * get_or b 1 0) b)) ≡ true

is_state_lem : (b : List ℕ) → is_state b ≡ true → IsState b
unfolding is_state
is_state_lem b h =
    let u = and_both _ _ h in
    let v = and_both _ _ u.left in
    record { few = leb-true _ 8 v.left; kind = v.right; blank = u.right }

state_is : (b : List ℕ) → IsState b → is_state b ≡ true
unfolding is_state
state_is b s = and_true (and_true (le-leb _ _ s.few) s.kind) s.blank

-- with more exits there is no state; else it depends on the rest
pub no_state_lem : (b : List ℕ) → 8 < get_or b 1 0 → is_state b ≡ false
unfolding is_state
no_state_lem b h = rw (lt-leb _ _ h)

pub a_state : (b : List ℕ) → get_or b 1 0 ≤ 8
    → is_state b ≡ ((not (eqb (get_or b 0 0) 0) || eqb (get_or b 1 0) 0) && all_zero (take (24 - 3 * get_or b 1 0) (drop (10 + 3 * get_or b 1 0) b)))
unfolding is_state
a_state b h = rw (le-leb _ _ h)

-- a model has all its bytes, each state's are right, and there are at most 1,024 exits
pub record IsModel (b : List ℕ) : Type 0 where
  pub long : model_size ≤ length b
  pub states : (p : ℕ) → p < 512 → IsState (state_in b p)
  pub exits : sum_below (exits_in b) 512 ≤ 1024

pub is_model_lem : (b : List ℕ) → is_model b ≡ true → IsModel b
unfolding is_model
is_model_lem b h =
    let u = and_both _ _ h in
    let v = and_both _ _ u.left in
    record {
      long = leb-true model_size (length b) v.left;
      states = λ p l. is_state_lem (state_in b p) (all_each _ 512 v.right p l);
      exits = leb-true _ 1024 u.right;
    }

pub model_is : (b : List ℕ) → IsModel b → is_model b ≡ true
unfolding is_model
model_is b s =
    and_true (and_true (le-leb _ _ s.long) (all_by _ 512 (λ p l. state_is (state_in b p) (s.states p l)))) (le-leb _ _ s.exits)
