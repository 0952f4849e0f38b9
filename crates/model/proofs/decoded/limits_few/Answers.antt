use Rattle.std.proofs.Common.{leb, rules, tests}
use Rattle.sets.proofs.Ranges.{all_over}
use Rattle.model.specs.Decoded.{limits_in}
use Rattle.model.proofs.decoded.limits_few.Goals as goal

pub returns : goal.returns
returns c =
    all_over (λ s. leb (limits_in c.args.limits.now.file.now s) 8) 16 _ _ _ (search rules) _ c.all.ensures.ran (λ x b q k. search (rules, tests))
