use mathlib.Core.Path.{◌≡◌}
use mathlib.Core.Bool.{◌&&◌}
use lib.Dec.{eqb}
use Rattle.model.specs.Valid.{none_after}
use Rattle.model.proofs.valid.exits_blank.Given as goal

abbrev pub invariant-loop-e : goal.invariant-loop-e
invariant-loop-e l = none_after 0 l.exits ≡ (eqb l.seen 0 && none_after l.e-index l.exits)
