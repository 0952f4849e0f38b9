use Rattle.std.proofs.Common.{◌≡◌, true}
use Rattle.sets.specs.Below.{all_below, sum_below}
use Rattle.model.specs.Decoded.{exits_in, exits_named_in}
use Rattle.model.proofs.decoded.exits_in_place.Given as goal

abbrev pub invariant-loop-p : goal.invariant-loop-p
invariant-loop-p l = (l.place ≡ sum_below (exits_in l.file) l.p) × (all_below (exits_named_in l.file) l.p ≡ true)
