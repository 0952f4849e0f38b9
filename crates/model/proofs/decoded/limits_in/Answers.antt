use Rattle.std.proofs.Common.{ℕ, eqb, get_or, sym, ◌∙◌, arith, rules, tests}
use Rattle.std.proofs.lemmas.Iterator.{YieldsList-from_range}
use Rattle.std.proofs.lemmas.Iterator.Consumers.{YieldsList-from_filter, count_from_yields_List}
use Rattle.std.proofs.lemmas.List.Sums.{length-filter}
use Rattle.std.specs.List.{range_with_len}
use Rattle.sets.proofs.Chains.{count_below_range}
use Rattle.blocks.specs.Blocks.{record_no}
use Rattle.model.specs.Decoded.{limits_in}
use Rattle.model.proofs.decoded.limits_in.Goals as goal

pub returns : goal.returns
unfolding limits_in
returns c =
    let limits = c.args.limits.now in
    let owned = λ (j : ℕ). eqb (get_or (record_no limits.file.now 4 j) 0 0) c.args.s in
    count_from_yields_List c.filter.result c.count.result c.count.ensures.ran (YieldsList-from_filter _ owned (YieldsList-from_range 0 limits.count limits.count (search rules) (omega arith)) c.filter.ensures.closure (λ x r q k. search (rules, tests)))
    ∙ length-filter owned (range_with_len 0 limits.count)
    ∙ sym (count_below_range owned limits.count)
    ∙ rw limits.count_is
