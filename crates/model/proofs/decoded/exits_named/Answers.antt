use Rattle.std.proofs.Common.{ℕ, ◌+◌, ◌*◌, eqb, rules, tests}
use Rattle.sets.proofs.Ranges.{all_over}
use Rattle.blocks.specs.Blocks.{record_no}
use Rattle.model.specs.Records.{full_key}
use Rattle.model.specs.Decoded.{exits_named}
use Rattle.model.proofs.decoded.exits_named.Goals as goal

pub returns : goal.returns
unfolding exits_named
returns c =
    let a = c.args in
    let named = λ (x : ℕ). eqb (full_key (record_no a.exits.now.file.now 3 (a.place + x))) (x + 256 * a.key) in
    all_over named a.count _ _ _ (search rules) _ c.all.ensures.ran (λ x b q k. search (rules, tests))
