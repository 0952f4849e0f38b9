use mathlib.Core.Path.{◌≡◌}
use mathlib.Core.Bool.{true}
use Rattle.sets.specs.Below.{all_below}
use Rattle.model.specs.Valid.{exit_valid, unpacked}
use Rattle.model.proofs.valid.exits_valid.Given as goal

abbrev pub invariant-loop-x : goal.invariant-loop-x
invariant-loop-x l = all_below (exit_valid l.n l.states (unpacked l.exits l.st)) l.x ≡ true
