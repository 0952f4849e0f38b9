use Rattle.model.specs.Decoded.{model_of}
use Rattle.model.proofs.decoded.model.Goals as goal

pub returns : goal.returns
unfolding model_of
returns c =
    rw (c.word.ensures, c.byte-3.ensures, c.byte-2.ensures, c.byte.ensures, c.all_exits-exits.ensures)
    (rw (c.states-states.ensures, c.subjects-subjects.ensures, c.record-head.ensures))
