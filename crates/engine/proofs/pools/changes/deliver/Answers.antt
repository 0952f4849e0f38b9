use Rattle.std.proofs.Common.{rules, ap, ◌∙◌}
use Rattle.engine.specs.pools.Sizes.{most_entries}
use Rattle.engine.specs.pools.Entries.{delivered}
use Rattle.engine.specs.pools.Pools.{held, pooled, delivered_in}
use Rattle.engine.proofs.pools.PoolLaws.{given_map}
use Rattle.std.specs.Prelude.{Some}
use Rattle.engine.proofs.pools.changes.deliver.Goals as goal

pub returns : goal.returns
unfolding delivered_in
returns c =
    let a = c.args in
    c.rebuilt.ensures (λ t. Some (delivered a.sender a.word t.1)) (λ i e r k. search rules)
    ∙ ap (pooled most_entries) (given_map (delivered a.sender a.word) 0 (held a.p))
