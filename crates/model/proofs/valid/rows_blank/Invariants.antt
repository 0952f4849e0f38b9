use mathlib.Core.Path.{◌≡◌}
use lib.Dec.{eqb}
use Rattle.sets.specs.Below.{all_below}
use Rattle.model.specs.Valid.{row_at, is_blank_row}
use Rattle.model.proofs.valid.rows_blank.Given as goal

abbrev pub invariant-loop-k : goal.invariant-loop-k
invariant-loop-k l = eqb l.seen 0 ≡ all_below (λ i. is_blank_row (row_at l.sub i)) l.k
