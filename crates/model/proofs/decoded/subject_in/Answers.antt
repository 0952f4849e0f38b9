use borrow.Author.Tests.{lt-ltb, le-ltb}
use Rattle.model.specs.Decoded.{subject_in}
use Rattle.model.proofs.decoded.subject_in.Goals as goal

pub returns-then-s-subjects_in : goal.returns-then-s-subjects_in
unfolding subject_in
returns-then-s-subjects_in c =
    let pre = c.requires in
    let r = c.record-r.ensures in
    rw (lt-ltb _ _ (rw c.subjects_in.ensures at c.if-s-subjects_in.true))
    (λ i. record {
      states = (rw r at c.byte.ensures) i;
      initial = (rw r at c.byte-then-s-subjects_in.ensures) i;
      rows = pre.1 i;
      row = (rw (pre.1, pre.2) at c.rows_from.ensures) i;
    })

pub returns : goal.returns
unfolding subject_in
returns c = rw (le-ltb _ _ (rw c.subjects_in.ensures at c.if-s-subjects_in.false)) c.blank_subject.ensures
