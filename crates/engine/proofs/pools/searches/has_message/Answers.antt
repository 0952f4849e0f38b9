use Rattle.std.proofs.Common.{rules, sym, ◌∙◌}
use borrow.Author.Tests.{tests}
use Rattle.std.proofs.lemmas.Iterator.{YieldsList-from_slice}
use Rattle.std.proofs.lemmas.Iterator.Search.{any_from_yields_List}
use Rattle.sets.proofs.Chains.{some_of_list}
use Rattle.engine.specs.pools.Pools.{held, has_message}
use Rattle.engine.specs.declared.Entry.{Entry}
use Rattle.engine.proofs.pools.searches.has_message.Goals as goal

pub returns : goal.returns
unfolding has_message
returns c =
    any_from_yields_List (λ (e : Entry). e.message) _ _ c.any.result c.any.ensures.ran (YieldsList-from_slice (held c.args.p.now) cc) (λ x b q k. search (rules, tests))
    ∙ sym (some_of_list _ _)
