use Rattle.std.proofs.Common.{ℕ, ltb, get_or, ◌∙◌, rules, tests}
use Rattle.sets.proofs.Ranges.{all_over}
use Rattle.blocks.specs.Blocks.{record_no}
use Rattle.model.specs.Decoded.{owner_there}
use Rattle.model.proofs.decoded.owners_there.Goals as goal

pub returns : goal.returns
unfolding owner_there
returns c =
    let limits = c.args.limits.now in
    let there = λ (j : ℕ). ltb (get_or (record_no limits.file.now 4 j) 0 0) c.subjects_in-n.result in
    all_over there limits.count _ _ _ (search rules) _ c.all.ensures.ran (λ x b q k. search (rules, tests))
    ∙ rw (limits.count_is, c.subjects_in-n.ensures)
