use mathlib.Core.Path.{◌≡◌}
use mathlib.Core.Bool.{true}
use Rattle.sets.specs.Below.{all_below}
use Rattle.model.specs.Valid.{row_valid}
use Rattle.model.proofs.valid.subject_valid.Given as goal

abbrev pub invariant-loop-k : goal.invariant-loop-k
invariant-loop-k l = all_below (row_valid l.n l.sub) l.k ≡ true
