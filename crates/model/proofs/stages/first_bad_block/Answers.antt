use Rattle.std.proofs.Common.{◌/◌, length, rules, tests}
use Rattle.sets.proofs.Ranges.{first_over}
use Rattle.model.specs.Stages.{block_right}
use Rattle.model.proofs.stages.first_bad_block.Goals as goal

pub returns : goal.returns
returns c =
    let file = c.args.file.now in
    first_over (block_right file) (length file / 512) _ _ _ (search rules) _ c.find.ensures.ran (λ x b q k. search (rules, tests))
