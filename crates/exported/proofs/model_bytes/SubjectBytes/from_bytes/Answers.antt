use mathlib.Core.Path.{ap, ◌∙◌}
use mathlib.Core.List.{List}
use Prim.Native.Nat.{ℕ, ◌*◌}
use lib.ListN.{drop}
use Rattle.sets.specs.Below.{table}
use Rattle.exported.specs.Bytes.{row_from, own_from}
use Rattle.exported.proofs.Made.{table_rest}
use Rattle.exported.proofs.model_bytes.SubjectBytes.from_bytes.Goals as goal

pub returns : goal.returns
unfolding own_from
returns c =
    let states = c.byte.ensures in
    let initial = c.byte-2.ensures in
    let rows = c.byte-3.ensures in
    let row = c.all_from.ensures ∙ ap (λ (d : List ℕ). table (λ k. row_from (drop (3 * k) d)) 8) c.rest.ensures ∙ table_rest row_from 3 3 8 c.args.b.now in
    λ i. record { states = states i; initial = initial i; rows = rows i; row = row i }
