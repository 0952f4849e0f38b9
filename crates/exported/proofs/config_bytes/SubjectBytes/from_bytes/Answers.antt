use mathlib.Core.Path.{ap, ◌∙◌}
use Rattle.exported.specs.Bytes.{short_of, word_of, marks_from, entries_from, subject_from}
use Rattle.exported.proofs.config_bytes.SubjectBytes.from_bytes.Goals as goal

pub returns : goal.returns
unfolding subject_from marks_from entries_from
returns c =
    let count = c.byte-3.ensures in
    let entries = c.all_from-2.ensures ∙ ap entries_from c.rest-5.ensures in
    let closed = c.all_from.ensures ∙ ap marks_from c.rest-4.ensures in
    let mask = c.from_bytes-3.ensures ∙ ap short_of c.rest-3.ensures in
    let word = c.from_bytes-2.ensures ∙ ap word_of c.rest-2.ensures in
    let waited = c.from_bytes.ensures ∙ ap short_of c.rest.ensures in
    let state = c.byte-2.ensures in
    let mode = c.byte.ensures in
    λ i.
    record {
      mode = mode i;
      state = state i;
      waited = waited i;
      word = word i;
      mask = mask i;
      closed = closed i;
      pool = record { entries = entries i; count = count i };
    }
