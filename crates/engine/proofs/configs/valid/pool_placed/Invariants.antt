use Rattle.std.proofs.Common.{◌≡◌, true, get_or}
use Rattle.sets.specs.Below.{all_below}
use Rattle.engine.specs.configs.Valid.{place_right}
use Rattle.engine.proofs.configs.valid.pool_placed.Given as goal

abbrev pub invariant-loop-s : goal.invariant-loop-s
invariant-loop-s l = all_below (λ k. place_right k (get_or l.masks k 0) (get_or l.types k 0) l.r l.p) l.s ≡ true
