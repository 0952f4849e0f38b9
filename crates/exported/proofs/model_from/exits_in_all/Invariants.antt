use mathlib.Core.Path.{◌≡◌}
use Prim.Native.Nat.{◌*◌, ◌≤◌}
use Rattle.sets.specs.Below.{sum_below}
use Rattle.exported.specs.Bytes.{exits_in}
use Rattle.exported.proofs.model_from.exits_in_all.Given as goal

abbrev pub invariant-loop-p : goal.invariant-loop-p
invariant-loop-p l = (l.sum ≤ 255 * l.p) × (l.sum ≡ sum_below (exits_in l.b) l.p)
