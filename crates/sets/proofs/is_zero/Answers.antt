use Rattle.std.proofs.Common.{rules, tests, ℕ, eqb, sym, ◌∙◌}
use Rattle.std.proofs.lemmas.Iterator.{YieldsList-from_slice}
use Rattle.std.proofs.lemmas.Iterator.Search.{all_from_yields_List}
use Rattle.sets.specs.Tests.{all_zero}
use Rattle.sets.proofs.Chains.{all_below_list}
use Rattle.sets.proofs.is_zero.Goals as goal

pub returns : goal.returns
unfolding all_zero
returns c =
    all_from_yields_List (λ x. eqb x 0) _ _ c.all.result c.all.ensures.ran (YieldsList-from_slice c.args.s.now cc) (λ x b q k. search (rules, tests))
    ∙ (let d : ℕ = 0 in sym (all_below_list (λ x. eqb x 0) c.args.s.now d))
