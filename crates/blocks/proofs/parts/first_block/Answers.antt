use Rattle.std.proofs.Common.{ℕ, Bool, rules, tests, sym, ◌∙◌, arith, ltb}
use Rattle.std.specs.List.{range_with_len}
use Rattle.std.proofs.lemmas.Iterator.{YieldsList-from_range}
use Rattle.std.proofs.lemmas.Iterator.Consumers.{YieldsList-from_filter, count_from_yields_List}
use Rattle.std.proofs.lemmas.List.Sums.{length-filter}
use Rattle.sets.proofs.Chains.{count_below_range}
use Rattle.blocks.specs.Blocks.{kind_of, blocks, first_block}
use Rattle.blocks.proofs.parts.first_block.Goals as goal

pub returns : goal.returns
unfolding first_block
returns c =
    let n : ℕ = blocks c.args.file.now in
    let earlier : ℕ → Bool = λ b. ltb (kind_of c.args.file.now b) c.args.k in
    count_from_yields_List _ _ c.count.ensures.ran
    (YieldsList-from_filter _ earlier (YieldsList-from_range 0 n n c.filter.ensures.source (omega arith)) c.filter.ensures.closure (λ x b q k. search (rules, tests)))
    ∙ length-filter earlier (range_with_len 0 n)
    ∙ sym (count_below_range earlier n)
