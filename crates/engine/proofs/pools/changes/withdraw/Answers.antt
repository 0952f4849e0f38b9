use Rattle.std.proofs.Common.{rules, tests, ap, ◌∙◌, cond}
use Rattle.std.specs.Prelude.{Some, None}
use Rattle.model.specs.Rules.{any}
use Rattle.engine.specs.pools.Sizes.{most_entries}
use Rattle.engine.specs.pools.Entries.{reserved_by}
use Rattle.engine.specs.pools.Pools.{held, pooled, withdrawn_from}
use Rattle.engine.proofs.pools.PoolLaws.{given_passing}
use Rattle.engine.proofs.pools.changes.withdraw.Goals as goal

pub returns : goal.returns
unfolding withdrawn_from
returns c =
    let a = c.args in
    c.rebuilt.ensures (λ t. cond (reserved_by a.sender any t.1) None (Some t.1)) (λ i e r k. search (rules, tests))
    ∙ ap (pooled most_entries) (given_passing (reserved_by a.sender any) 0 (held a.p))
