use mathlib.Core.Path.{refl, sym}
use Rattle.engine.specs.pools.Sizes.{most_entries}
use Rattle.engine.specs.pools.Pools.{held}
use Rattle.engine.proofs.pools.PoolLaws.{pooled_held, store_is}
use Rattle.engine.proofs.pools.changes.append.Goals as goal

pub returns : goal.returns
returns c =
    let p = c.args.p in
    store_is most_entries p (held p) (sym (pooled_held most_entries p c.requires.well)) _ _ refl c.requires.count_lt_most_entries
