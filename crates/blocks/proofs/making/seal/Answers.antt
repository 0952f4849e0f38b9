use Rattle.std.proofs.Common.{◌∙◌, arith}
use Rattle.blocks.proofs.MakingLaws.{seals, seal_there, seal_past, seal_far, seal_many}
use Rattle.blocks.proofs.making.seal.Goals.{then-buffer-b-via-then-buffer-b, then-buffer-b-via-else-buffer-b+then-b-ge65536, then-buffer-b-via-else-buffer-b+else-b-ge65536+then-used-gt42}
use Rattle.blocks.proofs.making.seal.Goals as goal

pub returns-then-buffer-b : goal.returns-then-buffer-b
returns-then-buffer-b c =
    elim c.then-buffer-b.branch [
      | then-buffer-b-via-then-buffer-b w ↦ seal_past _ _ _ _ w.if-buffer-b.true
      | then-buffer-b-via-else-buffer-b+then-b-ge65536 w ↦ seal_far _ _ _ _ w.if-buffer-b.false w.if-b-ge65536.true
      | then-buffer-b-via-else-buffer-b+else-b-ge65536+then-used-gt42 w ↦ seal_many _ _ _ _ w.if-buffer-b.false w.if-b-ge65536.false w.if-used-gt42.true
    ]

pub returns : goal.returns
returns c =
    let l = c.if-buffer-b.false in
    let few = c.if-used-gt42.false in
    seals _ _ _ _ few (omega arith) _ _ _ c.store_head.ensures c.clear.ensures c.store_check.ensures
    ∙ seal_there _ _ _ _ l c.if-b-ge65536.false few
