use mathlib.Core.Path.{ap, ◌∙◌}
use Rattle.exported.specs.Bytes.{short_of, head_from}
use Rattle.exported.proofs.model_from.head_from.Goals as goal

pub returns : goal.returns
unfolding head_from
returns c =
    let receivers = c.from_bytes-2.ensures ∙ ap short_of c.rest-2.ensures in
    let cancel = c.byte-6.ensures in
    let timeout = c.byte-5.ensures in
    let after = c.from_bytes.ensures ∙ ap short_of c.rest.ensures in
    let typ = c.byte-4.ensures in
    let sender = c.byte-3.ensures in
    let exits = c.byte-2.ensures in
    let kind = c.byte.ensures in
    λ i.
    record {
      kind = kind i;
      exits = exits i;
      sender = sender i;
      typ = typ i;
      after = after i;
      timeout = timeout i;
      cancel = cancel i;
      receivers = receivers i;
      first = c.args.first;
    }
