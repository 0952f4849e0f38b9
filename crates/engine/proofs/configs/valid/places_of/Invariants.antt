use Prim.Native.Nat.{ℕ}
use mathlib.Core.Path.{◌≡◌}
use mathlib.Core.Bool.{Bool, true}
use mathlib.Core.List.{List}
use lib.ListN.{get_or}
use Rattle.sets.specs.Below.{all_below}
use Rattle.engine.specs.configs.Subjects.{at}
use Rattle.engine.specs.configs.Valid.{place_right}
use Rattle.engine.specs.declared.Config.{Config}
use Rattle.engine.proofs.configs.valid.places_of.Given as goal

-- the pool of r has the reservations that it must have
abbrev pub placed : ℕ → List ℕ → Config → ℕ → Bool
placed n types c r = all_below (λ s. place_right s (at c s).mask (get_or types s 0) r (at c r).pool) n

abbrev pub invariant-loop-r : goal.invariant-loop-r
invariant-loop-r l = all_below (placed l.n l.types l.c) l.r ≡ true
