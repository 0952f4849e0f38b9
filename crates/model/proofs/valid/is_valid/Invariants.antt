use Prim.Native.Nat.{◌+◌, ◌*◌}
use mathlib.Core.Path.{◌≡◌}
use mathlib.Core.Bool.{true}
use lib.Dec.{eqb}
use Rattle.sets.specs.Below.{all_below, sum_below}
use Rattle.model.specs.Valid.{state_at, subject_right, state_right}
use Rattle.model.proofs.valid.is_valid.Given as goal

-- the subjects before s and their places are right, and their exits are counted
abbrev pub invariant-loop-s : goal.invariant-loop-s
invariant-loop-s l =
    (all_below (subject_right l.m) l.s ≡ true) × (all_below (state_right l.m) (l.s * 32) ≡ true) × (l.exits ≡ sum_below (λ q. (state_at l.m q).exits) (l.s * 32))

-- the places before t of subject s are right, and their exits are counted
abbrev pub invariant-loop-t : goal.invariant-loop-t
invariant-loop-t l = (all_below (state_right l.m) (l.s * 32 + l.t) ≡ true) × (l.exits ≡ sum_below (λ q. (state_at l.m q).exits) (l.s * 32 + l.t))

-- they are right exactly where the bits so far are none
abbrev pub invariant-loop-t-2 : goal.invariant-loop-t-2
invariant-loop-t-2 l =
    (all_below (state_right l.m) (l.s * 32 + l.t) ≡ eqb l.own 0) × (all_below (state_right l.m) (l.s * 32 + l.t) ≡ true → l.exits ≡ sum_below (λ q. (state_at l.m q).exits) (l.s * 32 + l.t))
