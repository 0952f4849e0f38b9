use Rattle.std.proofs.Common.{◌≡◌}
use Rattle.sets.specs.Below.{sum_below, filled}
use Rattle.model.specs.Records.{blank_subject}
use Rattle.model.specs.Decoded.{rows_in, subject_in}
use Rattle.model.proofs.decoded.subjects.Given as goal

abbrev pub invariant-loop-s : goal.invariant-loop-s
invariant-loop-s l = (l.place ≡ sum_below (rows_in l.file) l.s) × (l.subjects ≡ filled (subject_in l.file) blank_subject 16 l.s)
