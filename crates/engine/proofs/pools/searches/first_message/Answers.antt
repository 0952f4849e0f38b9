use Rattle.std.proofs.Common.{rules, sym, ◌∙◌}
use borrow.Author.Tests.{tests}
use Rattle.std.proofs.lemmas.Iterator.{YieldsList-from_slice}
use Rattle.std.proofs.lemmas.Iterator.Search.{position_from_yields_List}
use Rattle.sets.proofs.Chains.{first_list}
use Rattle.engine.specs.pools.Entries.{is_message}
use Rattle.engine.specs.pools.Pools.{held, first_message}
use Rattle.engine.proofs.pools.searches.first_message.Goals as goal

pub returns : goal.returns
unfolding first_message
returns c =
    position_from_yields_List (is_message c.args.sender c.args.typ) _ _ c.position.result c.position.ensures.ran (YieldsList-from_slice (held c.args.p.now) cc) (λ x b q k. search (rules, tests))
    ∙ sym (first_list _ _)
