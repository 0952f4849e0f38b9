use Rattle.std.proofs.Common.{◌≡◌, true, None}
use Rattle.sets.specs.Below.{all_below, first_not}
use Rattle.model.specs.Stages.{record_right, records_right}
use Rattle.model.proofs.stages.first_bad_record.Given as goal

abbrev pub invariant-loop-i : goal.invariant-loop-i
invariant-loop-i l = (all_below (record_right l.file l.b) l.i ≡ true) × (l.found ≡ None)

abbrev pub invariant-search : goal.invariant-search
invariant-search l = (first_not (records_right l.file) l.b ≡ None) × (l.found ≡ None)
