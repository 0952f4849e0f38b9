use Rattle.std.proofs.Common.{◌≡◌, ◌+◌, ◌*◌}
use Rattle.sets.specs.Below.{sum_below, filled}
use Rattle.model.specs.Records.{blank_stored}
use Rattle.model.specs.Decoded.{states_in, exits_in, stored_in}
use Rattle.model.proofs.decoded.states.Given as goal

abbrev pub invariant-loop-t : goal.invariant-loop-t
invariant-loop-t l =
    (l.place ≡ sum_below (exits_in l.file) (l.s * 32 + l.t)) × (l.states ≡ filled (stored_in l.file) blank_stored 512 (l.s * 32 + l.t))

abbrev pub invariant-loop-s : goal.invariant-loop-s
invariant-loop-s l =
    (l.start ≡ sum_below (states_in l.file) l.s) × (l.place ≡ sum_below (exits_in l.file) (l.s * 32)) × (l.states ≡ filled (stored_in l.file) blank_stored 512 (l.s * 32))
