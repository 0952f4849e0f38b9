use Rattle.std.proofs.Common.{◌/◌, length, rules, tests}
use Rattle.sets.proofs.Ranges.{first_over}
use Rattle.blocks.specs.Blocks.{block_of, check_right}
use Rattle.model.proofs.stages.first_bad_check.Goals as goal

pub returns : goal.returns
returns c =
    let file = c.args.file.now in
    first_over (λ b. check_right (block_of file b)) (length file / 512) _ _ _ (search rules) _ c.find.ensures.ran (λ x b q k. search (rules, tests))
