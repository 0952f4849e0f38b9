use mathlib.Core.Path.{◌≡◌}
use Prim.Native.Nat.{◌+◌}
use Rattle.sets.specs.Below.{filled}
use Rattle.model.specs.Records.{blank_exit}
use Rattle.model.specs.Valid.{exit_no}
use Rattle.model.proofs.unpacked.exits_from.Given as goal

abbrev pub invariant-loop-x : goal.invariant-loop-x
invariant-loop-x l = l.exit ≡ filled (λ i. exit_no l.exits (l.first + i)) blank_exit 8 l.x
