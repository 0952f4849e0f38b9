use Rattle.std.proofs.Common.{rules, tests, sym, ◌∙◌}
use Rattle.std.proofs.lemmas.Iterator.{YieldsList-from_slice}
use Rattle.std.proofs.lemmas.Iterator.Consumers.{fold_from_yields_List}
use Rattle.blocks.specs.Checks.{step_of, check_of}
use Rattle.blocks.proofs.FoldLaws.{fold_is}
use Rattle.blocks.proofs.checks.check.Goals as goal

pub returns : goal.returns
unfolding check_of
returns c =
    fold_from_yields_List _ step_of 1 c.fold.result c.fold.ensures.ran (YieldsList-from_slice c.args.bytes.now cc) (λ a x b q k. search (rules, tests))
    ∙ sym (fold_is step_of 1 c.args.bytes.now)
