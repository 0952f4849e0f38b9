use mathlib.Core.Path.{◌≡◌}
use Rattle.sets.specs.Below.{sum_below}
use Rattle.sets.specs.Groups.{lined}
use Rattle.sets.specs.Lists.{padded}
use Rattle.model.specs.Records.{blank_exit}
use Rattle.exported.specs.Bytes.{state_in, exits_in, exit_in}
use Rattle.exported.proofs.model_from.exits_from.Given as goal

abbrev pub invariant-loop-p : goal.invariant-loop-p
invariant-loop-p l = (l.place ≡ sum_below (exits_in l.b) l.p) × (l.line ≡ padded 1024 blank_exit (lined (exits_in l.b) (λ q x. exit_in (state_in l.b q) x) l.p))
