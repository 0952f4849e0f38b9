use mathlib.Core.Path.{ap, ◌∙◌}
use mathlib.Core.List.{List}
use Prim.Native.Nat.{ℕ, ◌*◌}
use lib.ListN.{drop}
use Rattle.sets.specs.Below.{table}
use Rattle.exported.specs.Bytes.{short_of, own_from, model_from}
use Rattle.exported.proofs.Made.{table_rest}
use Rattle.exported.proofs.ModelLaws.{is_model_lem}
use Rattle.exported.proofs.model_from.model_from.Goals as goal

pub states_from-requires : goal.states_from-requires
states_from-requires c = (is_model_lem _ c.requires).exits

pub exits_from-requires : goal.exits_from-requires
exits_from-requires c = (is_model_lem _ c.requires).exits

pub returns : goal.returns
unfolding model_from
returns c =
    let start = c.from_bytes.ensures ∙ ap short_of c.rest.ensures in
    let subjects = c.all_from.ensures ∙ ap (λ (d : List ℕ). table (λ s. own_from (drop (27 * s) d)) 16) c.rest-2.ensures ∙ table_rest own_from 3 27 16 c.args.b.now in
    λ i.
    record {
      n = c.byte.ensures i;
      start = start i;
      subjects = subjects i;
      states = c.states_from.ensures i;
      exits = c.exits_from.ensures i;
    }
