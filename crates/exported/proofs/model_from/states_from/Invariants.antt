use mathlib.Core.Path.{◌≡◌}
use Rattle.sets.specs.Below.{sum_below, filled}
use Rattle.exported.specs.Bytes.{exits_in, head_from, stored_from}
use Rattle.exported.proofs.model_from.states_from.Given as goal

abbrev pub invariant-loop-p : goal.invariant-loop-p
invariant-loop-p l =
    (l.place ≡ sum_below (exits_in l.b) l.p) × (l.states ≡ filled (stored_from l.b) (head_from l.b 0) 512 l.p)
