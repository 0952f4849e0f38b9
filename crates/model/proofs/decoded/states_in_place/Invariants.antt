use Rattle.std.proofs.Common.{◌≡◌, ◌+◌, ◌*◌, true}
use Rattle.sets.specs.Below.{all_below, sum_below}
use Rattle.model.specs.Decoded.{states_in, state_named}
use Rattle.model.proofs.decoded.states_in_place.Given as goal

abbrev pub invariant-loop-t : goal.invariant-loop-t
invariant-loop-t l = all_below (state_named l.file) (l.s * 32 + l.t) ≡ true

abbrev pub invariant-loop-s : goal.invariant-loop-s
invariant-loop-s l = (l.start ≡ sum_below (states_in l.file) l.s) × (all_below (state_named l.file) (l.s * 32) ≡ true)
